-- The call: its numbers, what it leaves, and that a second one changes nothing. Assumes nothing.
use Prim.Native.Nat.{ℕ, ◌≤◌, ◌<◌}
use native.Mathlib.Omega.{arith}
use borrow.Author.Tests.{ltb-false, le-ltb}
use mathlib.Core.Path.{◌≡◌, refl, sym, ◌∙◌}
use mathlib.Core.Bool.{Bool, true, false}
use mathlib.Core.List.{List}
use mathlib.Core.Logic.{◌⊎◌, inl, inr}
use lib.ListN.{length, replicate}
use lib.Dec.{ltb}
use Rattle.base_lists.specs.Seq.{pick, put}
use Rattle.base_lists.proofs.StoresAndParts.{told, true_false, not_so}
use Rattle.table_layout.specs.Table.{count, settings_of}
use Rattle.table_header_ok.specs.Header.{HeaderOk, header_ok_is}
use Rattle.table_header_ok.proofs.HeaderTest.{header_to, header_from}
use Rattle.table_well_formed.specs.WellFormed.{Sized, WellFormed, length_ok}
use Rattle.table_well_formed.proofs.Lengths.{sized_to, sized_from}
use Rattle.table_salvage.specs.Salvage.{salvaged_to, pairs_to, list_of, salvage_number, table_salvaged, list_salvaged}
use Rattle.law_salvage.specs.Reasons.{Reason}
use Rattle.law_salvage.specs.Sentences.{Salvaged, SizesOk, Accepts}
use Rattle.law_salvage.proofs.Octets.{salvaged_settings}
use Rattle.law_salvage.proofs.Outcome.{reason_found}
use Rattle.law_salvage.proofs.Leaves.{salvaged, unchanged}

-- the numbers
module _ (t list : List ℕ) where
  abbrev chosen {ℓ} : {A : Type ℓ} → Bool → Bool → Bool → A → A → A → A
  chosen a b c size header else = pick a (pick b size (pick c else header)) size

  abbrev numbered : Bool → Bool → Bool → ℕ
  numbered a b c = chosen a b c 1 15 0

  by_tests : (a b c : Bool) → (numbered a b c ≡ 1 → (a ≡ false) ⊎ (b ≡ true)) × ((numbered a b c ≡ 15 → (a ≡ true) × (b ≡ false) × (c ≡ false)) × (numbered a b c ≡ 0 → (a ≡ true) × (b ≡ false) × (c ≡ true)))
  by_tests true true c = (λ e. inr refl, (λ e. absurd (omega (arith, e)), λ e. absurd (omega (arith, e))))
  by_tests true false true = (λ e. absurd (omega (arith, e)), (λ e. absurd (omega (arith, e)), λ e. (refl, refl, refl)))
  by_tests true false false = (λ e. absurd (omega (arith, e)), (λ e. (refl, refl, refl), λ e. absurd (omega (arith, e))))
  by_tests false b c = (λ e. inl refl, (λ e. absurd (omega (arith, e)), λ e. absurd (omega (arith, e))))

  sizes_there : length_ok (length t) ≡ true → ltb (length list) 97 ≡ false → SizesOk t list
  sizes_there a b = record { sized = sized_to t a; room = ltb-false (length list) 97 b }

  sizes_tests : SizesOk t list → (length_ok (length t) ≡ true) × (ltb (length list) 97 ≡ false)
  sizes_tests s = (sized_from t s.sized, le-ltb (length list) 97 s.room)

  -- number 1: not a table's size, or fewer than 97 words
  pub number_1 : (salvage_number t list ≡ 1 → SizesOk t list → ⊥) × ((SizesOk t list → ⊥) → salvage_number t list ≡ 1)
  unfolding salvage_number
  number_1 = (λ e s. there ((by_tests (length_ok (length t)) (ltb (length list) 97) (header_ok_is t)).0 e) (sizes_tests s), λ h. back (told (length_ok (length t))) (told (ltb (length list) 97)) h)
    where
      there : (length_ok (length t) ≡ false) ⊎ (ltb (length list) 97 ≡ true) → (length_ok (length t) ≡ true) × (ltb (length list) 97 ≡ false) → ⊥
      there (inl e) s = true_false (sym s.0 ∙ e)
      there (inr e) s = true_false (sym e ∙ s.1)

      back : (length_ok (length t) ≡ true) ⊎ (length_ok (length t) ≡ false) → (ltb (length list) 97 ≡ true) ⊎ (ltb (length list) 97 ≡ false) → (SizesOk t list → ⊥)
          → numbered (length_ok (length t)) (ltb (length list) 97) (header_ok_is t) ≡ 1
      back (inr e) b h = rw e refl
      back (inl e) (inl b) h = rw (e, b) refl
      back (inl e) (inr b) h = absurd (h (sizes_there e b))

  -- number 15: the sizes are right and the header isn't in range
  pub number_15 : (salvage_number t list ≡ 15 → SizesOk t list × (HeaderOk t → ⊥)) × (SizesOk t list × (HeaderOk t → ⊥) → salvage_number t list ≡ 15)
  unfolding salvage_number
  number_15 = (there, back)
    where
      there : numbered (length_ok (length t)) (ltb (length list) 97) (header_ok_is t) ≡ 15 → SizesOk t list × (HeaderOk t → ⊥)
      there e =
          let c = (by_tests (length_ok (length t)) (ltb (length list) 97) (header_ok_is t)).1.0 e in
          (sizes_there c.0 c.1, λ h. true_false (sym (header_from t h) ∙ c.2))

      back : SizesOk t list × (HeaderOk t → ⊥) → numbered (length_ok (length t)) (ltb (length list) 97) (header_ok_is t) ≡ 15
      back h =
          let s = sizes_tests h.0 in
          rw (s.0, s.1, not_so (header_ok_is t) (λ e. h.1 (header_to t e))) refl

  -- accepted: both are right
  pub number_0 : (salvage_number t list ≡ 0 → Accepts t list) × (Accepts t list → salvage_number t list ≡ 0)
  unfolding salvage_number
  number_0 = (there, back)
    where
      there : numbered (length_ok (length t)) (ltb (length list) 97) (header_ok_is t) ≡ 0 → Accepts t list
      there e =
          let c = (by_tests (length_ok (length t)) (ltb (length list) 97) (header_ok_is t)).1.1 e in
          record { sizes = sizes_there c.0 c.1; header = header_to t c.2 }

      back : Accepts t list → numbered (length_ok (length t)) (ltb (length list) 97) (header_ok_is t) ≡ 0
      back h =
          let s = sizes_tests h.sizes in
          rw (s.0, s.1, header_from t h.header) refl

  -- what is left where it is accepted
  accepted_is : Accepts t list → (table_salvaged t list ≡ salvaged_to t (count t)) × (list_salvaged t list ≡ put list 0 (list_of (pairs_to t (count t))))
  unfolding table_salvaged list_salvaged
  accepted_is h =
      let s = sizes_tests h.sizes in
      rw (s.0, s.1, header_from t h.header) (refl, refl)

  -- "A refused .. call changes no lent byte and no lent word"
  pub refused_same : (salvage_number t list ≡ 0 → ⊥) → (table_salvaged t list ≡ t) × (list_salvaged t list ≡ list)
  unfolding salvage_number table_salvaged list_salvaged
  refused_same h = go (length_ok (length t)) (ltb (length list) 97) (header_ok_is t) h
    where
      go : (a b c : Bool) → (numbered a b c ≡ 0 → ⊥) → (chosen a b c t t (salvaged_to t (count t)) ≡ t) × (chosen a b c list list (put list 0 (list_of (pairs_to t (count t)))) ≡ list)
      go true true c h = (refl, refl)
      go true false true h = absurd (h refl)
      go true false false h = (refl, refl)
      go false b c h = (refl, refl)

  -- SALVAGE: where it is accepted, table and list are what document 02 says
  pub salvage_says : salvage_number t list ≡ 0 → Salvaged t list (table_salvaged t list) (list_salvaged t list)
  salvage_says e =
      let a : Accepts t list = number_0.0 e in
      let q = accepted_is a in
      rw (q.0, q.1) (salvaged t list a)

  -- its settings are those that it had
  pub salvage_settings : salvage_number t list ≡ 0 → settings_of (table_salvaged t list) ≡ settings_of t
  salvage_settings e = rw (accepted_is (number_0.0 e)).0 (salvaged_settings t (count t))

  -- and a well-formed table comes back as it was, with nothing listed
  pub formed_unchanged : WellFormed t → 97 ≤ length list → (salvage_number t list ≡ 0) × ((table_salvaged t list ≡ t) × (list_salvaged t list ≡ put list 0 (replicate 97 0)))
  formed_unchanged w room =
      let a : Accepts t list = record { sizes = record { sized = w.sized; room = room }; header = w.header } in
      let q = accepted_is a in
      let same = unchanged t list w in
      (number_0.1 a, (q.0 ∙ same.0, q.1 ∙ same.1))

-- salvaged twice is salvaged once: the second changes nothing and lists nothing
pub twice_once : (t list again : List ℕ) → salvage_number t list ≡ 0 → 97 ≤ length again
    → (salvage_number (table_salvaged t list) again ≡ 0) × ((table_salvaged (table_salvaged t list) again ≡ table_salvaged t list) × (list_salvaged (table_salvaged t list) again ≡ put again 0 (replicate 97 0)))
twice_once t list again e room = formed_unchanged (table_salvaged t list) again (salvage_says t list e).formed room

-- the reasons exclude each other, so that the first that applies is the only one
pub one_reason : (t : List ℕ) → Sized t → (i r s : ℕ) → i < count t → Reason t i r → Reason t i s → r ≡ s
one_reason t sized i r s h x y = sym (reason_found t sized i h r x) ∙ reason_found t sized i h s y
