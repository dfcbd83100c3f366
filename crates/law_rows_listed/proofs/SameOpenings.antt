-- The rows for what comes without a live record are those of document 01's list, for every PDU of classes 0 to 2. Assumes nothing.
use Prim.Native.Nat.{ℕ, ◌<◌}
use mathlib.Core.Path.{◌≡◌, refl}
use mathlib.Core.Bool.{Bool, false}
use mathlib.Core.List.{List, [], ◌∷◌}
use lib.ListN.{get_or}
use Rattle.base_lists.specs.Seq.{every}
use Rattle.base_lists.proofs.StoresAndParts.{every_at}
use Rattle.row_events.specs.Events.{same_opening}
use Rattle.row_events.proofs.Finite.{all_flags, at_flags, same_opening_holds}
use Rattle.row_choice.specs.Rows.{opening_of, invoke0_of, by_class, invoke12_of}
use Rattle.row_choice.specs.declared.Arrived.{Arrived}
use Rattle.law_rows_listed.specs.Openings.{document_opening}

arrived : ℕ → List Bool → Arrived
arrived class l = record {
  invoke = get_or l 0 false;
  tidve = get_or l 1 false;
  malformed = get_or l 2 false;
  class = class;
  wrong_version = get_or l 3 false;
  ttr_clear = get_or l 4 false;
  too_long = get_or l 5 false;
  full = get_or l 6 false;
  tidnew = get_or l 7 false;
  valid = get_or l 8 false;
}

flags : Arrived → List Bool
flags a = a.invoke ∷ a.tidve ∷ a.malformed ∷ a.wrong_version ∷ a.ttr_clear ∷ a.too_long ∷ a.full ∷ a.tidnew ∷ a.valid ∷ []

alike : ℕ → List Bool → Bool
alike class l = same_opening (opening_of (arrived class l)) (document_opening (arrived class l))

pub openings_are_listed : (a : Arrived) → a.class < 3 → opening_of a ≡ document_opening a
unfolding all_flags arrived flags alike every opening_of invoke0_of by_class invoke12_of document_opening
openings_are_listed a known =
    same_opening_holds (opening_of a) (document_opening a)
    (at_flags (flags a) (alike a.class) (every_at (λ class. all_flags 9 (alike class)) 3 refl a.class known))
