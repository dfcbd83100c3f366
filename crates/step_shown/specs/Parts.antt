-- The data shown (01, "Numbers given back"): "comes from either the datagram or the message store, as a part of it".
use Rattle.std.specs.Prelude.{ℕ, ◌-◌, List, [], length, leb}
use Rattle.base_lists.specs.Seq.{pick, part}
use Rattle.step_shown.specs.declared.Source.{Source}
use Rattle.step_shown.specs.declared.Source.TheVariants.{Datagram, Store}
use Rattle.step_shown.specs.declared.Place.{Place}

-- "as a part of it": the len octets from start on, or none where they run past the end
unfoldable pub fitting_part : List ℕ → ℕ → ℕ → List ℕ
fitting_part s start len = pick (leb start (length s)) (pick (leb len (length s - start)) (part s start len) []) []

-- "either the datagram or the message store"
abbrev pub slice_of : List ℕ → List ℕ → Source → List ℕ
slice_of datagram store Datagram = datagram
slice_of datagram store Store = store

-- 01, "Expected form in each place": "a part of the one the indication names"
unfoldable pub data_of : List ℕ → List ℕ → Place → List ℕ
data_of datagram store place = fitting_part (slice_of datagram store place.source) place.start place.len
