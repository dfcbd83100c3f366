-- The bodies of MANAGE_PORT without a list, as they are written, read as themselves. Assumes nothing.
use Prim.Native.Nat.{ℕ, suc, ◌+◌, ◌*◌, ◌/◌, ◌%◌, ◌≤◌, ◌<◌}
use native.Mathlib.Omega.{arith}
use mathlib.Core.Path.{◌≡◌, refl, sym, ap, ◌∙◌}
use mathlib.Core.List.{List, [], ◌∷◌, ◌++◌, append-nil}
use Rattle.std.specs.Prelude.{Option, Some, None}
use mathlib.Core.Bool.{Bool, true, false}
use lib.ListN.{length, get_or, take, length-append}
use lib.Seq.{get_or_at}
use lib.Dec.{eqb}
use borrow.Author.Tests.{lt-ltb, le-ltb, eq-eqb, ne_eqb}
use Rattle.base_lists.specs.Seq.{pick, bit, part}
use Rattle.base_lists.proofs.StoresAndParts.{length_part}
use Rattle.rds_entries.specs.declared.Entry.{Entry}
use Rattle.rds_entries.specs.Entries.{application_length}
use Rattle.rds_body.specs.declared.Body.TheVariants as B
use Rattle.rds_body.specs.declared.Form.{Form}
use Rattle.rds_body.specs.declared.Form.TheVariants as F
use Rattle.rds_body.specs.Body.{form_of, bitmap_of, optional_of, asking_of, answer_of, query_of, no_list, lone, managed_by, managed_of}
use Rattle.rds_size.proofs.SizeTests.{Application}
use Rattle.rds_pieces.specs.Octets.{ports_octet, bitmap_octets, fixed_of, asking_pieces, answer_pieces, query_pieces}
use Rattle.rds_encoding.specs.Encoding.{entries_octets, pieces_octets}
use Rattle.rds_written.proofs.Applications.{application_before}

-- the body whose octet 1 has the Action a, by its form
pub by_form : (t : List ℕ) (at : ℕ) (response : Bool) (a : ℕ) (form : Form) → (length t ≡ 0 → ⊥) → get_or t 0 0 % 16 ≡ a → form_of a response ≡ Some form → managed_of t at response ≡ managed_by t at a (Some form)
unfolding managed_of
by_form t at response a form some e f = rw (ne_eqb _ _ some, e, f) refl

-- a bitmap of ports is even, since there is no port 0
pub bitmap_again : (p y : ℕ) → p ≡ y * 2 → p < 65536 → bitmap_of (bitmap_octets p) ≡ p
bitmap_again p y e h = omega (arith, e, h)

-- a bitmap of ports, where there is one
abbrev pub Bitmap : Option ℕ → Type 0
Bitmap (Some p) = (p ≡ p / 2 * 2) × (p < 65536)
Bitmap None = Unit

module _ (s : List ℕ) (list : List Entry) where
  answer_five : (a f t : ℕ) → eqb a 5 ≡ true → a < 16 → f < 8 → t < 4 → answer_of (a % 16 ∷ f % 8 ∷ t % 4 ∷ []) a ≡ Some (B.Answer a f t)
  unfolding answer_of
  answer_five a f t e ha hf ht =
      let low : t % 4 < 4 = omega arith in
      let x : f % 8 % 8 ≡ f = omega (arith, hf) in
      let y : t % 4 ≡ t = omega (arith, ht) in
      rw (e, lt-ltb _ _ low) (λ i. Some (B.Answer a (x i) (y i)))

  answer_other : (a f t : ℕ) → eqb a 5 ≡ false → f ≡ 0 → t < 4 → answer_of (a % 16 ∷ t % 4 ∷ []) a ≡ Some (B.Answer a f t)
  unfolding answer_of
  answer_other a f t e hf ht =
      let low : t % 4 < 4 = omega arith in
      let y : t % 4 ≡ t = omega (arith, ht) in
      rw (e, lt-ltb _ _ low) (λ i. Some (B.Answer a (sym hf i) (y i)))

  pub answer_again : (at : ℕ) (response : Bool) (a f t : ℕ) → a < 16 → f < 8 → (eqb a 5 ≡ false → f ≡ 0) → t < 4 → form_of a response ≡ Some F.Answer
      → managed_of (pieces_octets s list (answer_pieces a f t)) at response ≡ Some (no_list (B.Answer a f t))
  unfolding answer_pieces fixed_of pieces_octets entries_octets
  answer_again at response a f t ha hf none ht form = go (eqb a 5) refl where
    act : a % 16 % 16 ≡ a
    act = omega (arith, ha)

    go : (b : Bool) → eqb a 5 ≡ b → managed_of (pieces_octets s list (pick b (fixed_of (a % 16 ∷ f % 8 ∷ t % 4 ∷ []) 3) (fixed_of (a % 16 ∷ t % 4 ∷ 0 ∷ []) 2))) at response ≡ Some (no_list (B.Answer a f t))
    go true e = by_form (a % 16 ∷ f % 8 ∷ t % 4 ∷ []) at response a F.Answer (λ h. omega arith) act form ∙ ap lone (answer_five a f t e ha hf ht)
    go false e = by_form (a % 16 ∷ t % 4 ∷ []) at response a F.Answer (λ h. omega arith) act form ∙ ap lone (answer_other a f t e (none e) ht)

  pub query_again : (at : ℕ) (response : Bool) (a : ℕ) (p : Option ℕ) → a < 16 → Bitmap p → form_of a response ≡ Some F.Query
      → managed_of (pieces_octets s list (query_pieces a p)) at response ≡ Some (no_list (B.Query a p))
  unfolding query_pieces fixed_of pieces_octets entries_octets query_of optional_of
  query_again at response a (Some p) ha even form =
      by_form (a % 16 ∷ bitmap_octets p) at response a F.Query (λ h. omega arith) (omega (arith, ha)) form
      ∙ ap (λ (x : ℕ). Some (no_list (B.Query a (Some x)))) (bitmap_again p (p / 2) even.0 even.1)
  query_again at response a None ha even form =
      by_form (a % 16 ∷ []) at response a F.Query (λ h. omega arith) (omega (arith, ha)) form

  module _ (at a p d start len f : ℕ) (ha : a < 16) (hp : p < 16) (hd : d < 16) (app : Application s start len) where
    abbrev P : List ℕ
    P = part s start len

    lp : length P ≡ len
    lp = length_part s start len app.ends

    from : ports_octet p d / 16 ≡ p
    from = omega (arith, hp, hd)

    to : ports_octet p d % 16 ≡ d
    to = omega (arith, hp, hd)

    asking_five : eqb a 5 ≡ true → f < 8 → asking_of (a % 16 ∷ ports_octet p d ∷ (P ++ (f % 8 ∷ []))) at a ≡ Some (B.Asking a p d (at + 2) len f)
    unfolding asking_of
    asking_five e hf =
        let t : List ℕ = a % 16 ∷ ports_octet p d ∷ (P ++ (f % 8 ∷ [])) in
        let two : 2 ≤ suc (suc (length (P ++ (f % 8 ∷ [])))) = omega arith in
        let l : application_length (P ++ (f % 8 ∷ [])) ≡ len = application_before P (f % 8 ∷ []) len app.whole app.some in
        let n : suc (suc (length (P ++ (f % 8 ∷ [])))) ≡ 2 + len + 1 = omega (arith, length-append P (f % 8 ∷ []), lp) in
        let g : get_or t (2 + len) 0 ≡ f % 8 = get_or_at (a % 16 ∷ ports_octet p d ∷ P) (f % 8) [] 0 (2 + len) (omega (arith, lp)) in
        let x : get_or t (2 + len) 0 % 8 ≡ f = ap (λ (z : ℕ). z % 8) g ∙ omega (arith, hf) in
        rw (le-ltb _ _ two, l, ne_eqb _ _ app.some, e, eq-eqb _ _ n) (λ i. Some (B.Asking a (from i) (to i) (at + 2) len (x i)))

    asking_other : eqb a 5 ≡ false → f ≡ 0 → asking_of (a % 16 ∷ ports_octet p d ∷ P) at a ≡ Some (B.Asking a p d (at + 2) len f)
    unfolding asking_of
    asking_other e hf =
        let two : 2 ≤ suc (suc (length P)) = omega arith in
        let n : suc (suc (length P)) ≡ 2 + len = omega (arith, lp) in
        rw (le-ltb _ _ two, app.whole, ne_eqb _ _ app.some, e, eq-eqb _ _ n) (λ i. Some (B.Asking a (from i) (to i) (at + 2) len (sym hf i)))

    pub asking_again : (response : Bool) → f < 8 → (eqb a 5 ≡ false → f ≡ 0) → form_of a response ≡ Some F.Asking
        → managed_of (pieces_octets s list (asking_pieces a p d start len f)) at response ≡ Some (no_list (B.Asking a p d (at + 2) len f))
    unfolding asking_pieces pieces_octets entries_octets
    asking_again response hf none form = go (eqb a 5) refl where
      act : a % 16 % 16 ≡ a
      act = omega (arith, ha)

      go : (b : Bool) → eqb a 5 ≡ b → managed_of (a % 16 ∷ ports_octet p d ∷ (P ++ take (bit b) (f % 8 ∷ 0 ∷ []))) at response ≡ Some (no_list (B.Asking a p d (at + 2) len f))
      go true e = by_form (a % 16 ∷ ports_octet p d ∷ (P ++ (f % 8 ∷ []))) at response a F.Asking (λ h. omega arith) act form ∙ ap lone (asking_five e hf)
      go false e =
          ap (λ (x : List ℕ). managed_of (a % 16 ∷ ports_octet p d ∷ x) at response) (append-nil P)
          ∙ by_form (a % 16 ∷ ports_octet p d ∷ P) at response a F.Asking (λ h. omega arith) act form
          ∙ ap lone (asking_other e (none e))
