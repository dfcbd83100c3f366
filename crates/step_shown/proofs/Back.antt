-- The words of what is shown tell it back, so that nothing is lost at the C interface. Assumes nothing.
use Prim.Native.Nat.{ℕ}
use mathlib.Core.Path.{◌≡◌, refl, ap, sym, ◌∙◌}
use mathlib.Core.Bool.{Bool, true, false}
use mathlib.Core.List.{List}
use lib.ListN.{get_or, length}
use lib.Dec.{eqb}
use Rattle.base_lists.specs.Seq.{pick, bit}
use Rattle.table_record.specs.Record.{role_number}
use Rattle.table_record.specs.declared.Role.{Role}
use Rattle.table_record.specs.declared.Role.TheVariants.{Initiator, Responder}
use Rattle.step_shown.specs.declared.Source.{Source}
use Rattle.step_shown.specs.declared.Source.TheVariants.{Datagram, Store}
use Rattle.step_shown.specs.declared.Place.{Place}
use Rattle.step_shown.specs.declared.Shown.{Shown}
use Rattle.step_shown.specs.declared.Shown.TheVariants.{Nothing, Invoke, Confirm, Result, Abort}
use Rattle.step_shown.specs.Shows.{place_of}
use Rattle.step_shown.specs.Words.{front_words, own_words, source_number, shown_words}

abbrev role_back : ℕ → Role
role_back n = pick (eqb n 1) Responder Initiator

role_back_holds : (r : Role) → role_back (role_number r) ≡ r
role_back_holds Initiator = refl
role_back_holds Responder = refl

flag_back : (b : Bool) → eqb (bit b) 1 ≡ b
flag_back true = refl
flag_back false = refl

abbrev place_back : ℕ → ℕ → ℕ → Place
place_back source start len = record { source = pick (eqb source 1) Store Datagram; start = start; len = len }

source_back : (s : Source) → pick (eqb (source_number s) 1) Store Datagram ≡ s
source_back Datagram = refl
source_back Store = refl

place_back_holds : (p : Place) → place_back (source_number p.source) p.start p.len ≡ p
place_back_holds p = ap (λ (s : Source). record { source = s; start = p.start; len = p.len }) (source_back p.source)

unfoldable shown_back : List ℕ → Shown
shown_back w =
    let at : ℕ → ℕ = λ k. get_or w k 0 in
    let place : Place = place_back (at 8) (at 9) (at 10) in
    pick (eqb (at 0) 1) (Invoke (at 2) (at 3) (at 4) (eqb (at 5) 1) place)
    (pick (eqb (at 0) 2) (Confirm (role_back (at 1)) (at 2) (at 3) place)
    (pick (eqb (at 0) 3) (Result (at 2) (at 3) place)
    (pick (eqb (at 0) 4) (Abort (role_back (at 1)) (at 2) (at 3) (at 6) (at 7)) Nothing)))

told_back : (s : Shown) → shown_back (shown_words s) ≡ s
unfolding shown_back front_words own_words place_of shown_words
told_back Nothing = refl
told_back (Invoke peer tid class up place) = simp (flag_back up, place_back_holds place)
told_back (Confirm role peer tid place) = simp (role_back_holds role, place_back_holds place)
told_back (Result peer tid place) = simp (place_back_holds place)
told_back (Abort role peer tid type reason) = simp (role_back_holds role)

-- the same words only for the same indication
pub same_words_same_shown : (s t : Shown) → shown_words s ≡ shown_words t → s ≡ t
same_words_same_shown s t e = sym (told_back s) ∙ (ap shown_back e ∙ told_back t)

-- twelve words, the last of them 0
pub twelve_words : (s : Shown) → (length (shown_words s) ≡ 12) × (get_or (shown_words s) 11 0 ≡ 0)
unfolding front_words own_words place_of shown_words
twelve_words Nothing = (refl, refl)
twelve_words (Invoke peer tid class up place) = (refl, refl)
twelve_words (Confirm role peer tid place) = (refl, refl)
twelve_words (Result peer tid place) = (refl, refl)
twelve_words (Abort role peer tid type reason) = (refl, refl)
