-- The twelve words that the C interface has for an indication.
use Rattle.std.specs.Prelude.{ℕ, List, [], ◌∷◌, ◌++◌}
use Rattle.base_lists.specs.Seq.{bit}
use Rattle.table_record.specs.Record.{role_number}
use Rattle.table_record.specs.declared.Role.TheVariants.{Initiator, Responder}
use Rattle.step_shown.specs.declared.Source.{Source}
use Rattle.step_shown.specs.declared.Source.TheVariants.{Datagram, Store}
use Rattle.step_shown.specs.declared.Place.{Place}
use Rattle.step_shown.specs.declared.Shown.{Shown}
use Rattle.step_shown.specs.declared.Shown.TheVariants.{Nothing, Invoke, Confirm, Result, Abort}
use Rattle.step_shown.specs.Shows.{place_of}

-- "either the datagram or the message store": 0 the datagram, 1 the store
abbrev pub source_number : Source → ℕ
source_number Datagram = 0
source_number Store = 1

-- "An indication fixes kind, role, peer, TID": kind 1 Invoke, 2 confirmation, 3 result, 4 abort, 0 none
unfoldable pub front_words : Shown → List ℕ
front_words Nothing = 0 ∷ 0 ∷ 0 ∷ 0 ∷ []
front_words (Invoke peer tid class up place) = 1 ∷ role_number Responder ∷ peer ∷ tid ∷ []
front_words (Confirm role peer tid place) = 2 ∷ role_number role ∷ peer ∷ tid ∷ []
front_words (Result peer tid place) = 3 ∷ role_number Initiator ∷ peer ∷ tid ∷ []
front_words (Abort role peer tid type reason) = 4 ∷ role_number role ∷ peer ∷ tid ∷ []

-- "for an Invoke also class and U/P; for an abort also type and reason"
unfoldable pub own_words : Shown → List ℕ
own_words Nothing = 0 ∷ 0 ∷ 0 ∷ 0 ∷ []
own_words (Invoke peer tid class up place) = class ∷ bit up ∷ 0 ∷ 0 ∷ []
own_words (Confirm role peer tid place) = 0 ∷ 0 ∷ 0 ∷ 0 ∷ []
own_words (Result peer tid place) = 0 ∷ 0 ∷ 0 ∷ 0 ∷ []
own_words (Abort role peer tid type reason) = 0 ∷ 0 ∷ type ∷ reason ∷ []

-- "and data": source, start, length, and a word that is always 0
abbrev pub place_words : Place → List ℕ
place_words place = source_number place.source ∷ place.start ∷ place.len ∷ 0 ∷ []

-- the twelve words
unfoldable pub shown_words : Shown → List ℕ
shown_words s = front_words s ++ (own_words s ++ place_words (place_of s))
