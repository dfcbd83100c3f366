-- The body of a frame that was read is written as it was but for its spare bits: bodies without a list. Assumes nothing.
use Prim.Native.Nat.{ℕ, suc, ◌+◌, ◌-◌, ◌*◌, ◌/◌, ◌%◌, ◌<◌, ◌≤◌}
use native.Mathlib.Omega.{arith}
use mathlib.Core.Path.{◌≡◌, refl, sym, ap, ◌∙◌}
use mathlib.Core.List.{List, [], ◌∷◌, ◌++◌, append-nil}
use mathlib.Core.Bool.{Bool, true, false}
use lib.ListN.{length, get_or, take, drop, drop_of_length-le}
use lib.Seq.{drop-drop, drop-cons, get_or-drop}
use lib.Dec.{ltb, eqb}
use borrow.Author.Tests.{eqb-true, ltb-true, ltb-false}
use Rattle.base_lists.specs.Seq.{pick, part}
use Rattle.rds_lists.proofs.ListFacts.{rest}
use Rattle.rds_entries.specs.declared.Entry.{Entry}
use Rattle.rds_entries.specs.Entries.{application_length}
use Rattle.rds_body.specs.declared.Body.{Body}
use Rattle.rds_body.specs.declared.Body.TheVariants as B
use Rattle.rds_body.specs.declared.Form.TheVariants as F
use Rattle.std.specs.Prelude.{Option, Some, None}
use Rattle.rds_body.specs.Body.{bitmap_of, optional_of, asking_of, answer_of, query_by, query_of}
use Rattle.rds_again.proofs.Plain.{Each}
use Rattle.rds_pieces.specs.Octets.{ports_octet, bitmap_octets, fixed_of, asking_pieces, answer_pieces, query_pieces, pieces_of}
use Rattle.rds_encoding.specs.Encoding.{entries_octets, pieces_octets}
use Rattle.rds_back.specs.Spare.{cleared_formats, cleared_ports, cleared_form}

-- information: all that follows the header
pub information_again : (s : List ℕ) (l : List Entry) (end : ℕ) → pieces_octets s l (pieces_of (B.Information end (length s - end))) ≡ drop end s
unfolding pieces_of pieces_octets entries_octets
information_again s l end = append-nil (part s end (length s - end)) ∙ rest end s

-- nothing
pub empty_again : (s : List ℕ) (l : List Entry) (end : ℕ) → length s ≡ end → pieces_octets s l (pieces_of B.Empty) ≡ drop end s
unfolding pieces_of fixed_of pieces_octets entries_octets
empty_again s l end h = sym (drop_of_length-le s {i = end} (omega (arith, h)))

bytes_low : (x y : ℕ) → x < 256 → (x + y * 256) % 256 ≡ x
bytes_low x y h = omega (arith, h)

bytes_high : (x y : ℕ) → x < 256 → y < 256 → (x + y * 256) / 256 % 256 ≡ y
bytes_high x y h g =
    let q : (x + y * 256) / 256 ≡ y = omega (arith, h) in
    ap (λ (z : ℕ). z % 256) q ∙ omega (arith, g)

pub none_cleared : (u : List ℕ) → length u ≡ 0 → [] ≡ cleared_ports u
unfolding cleared_ports
none_cleared [] h = refl
none_cleared (x ∷ u) h = absurd (omega (arith, h))

module _ (s : List ℕ) (l : List Entry) where
  -- the response Reserve or Release in three octets or in two
  answer_five : (t : List ℕ) (a : ℕ) → eqb a 5 ≡ true → a ≡ get_or t 0 0 % 16 → length t ≡ 3 → get_or t 2 0 < 4
      → pieces_octets s l (answer_pieces a (get_or t 1 0 % 8) (get_or t 2 0)) ≡ get_or t 0 0 % 16 ∷ get_or t 1 0 % 8 ∷ drop 2 t
  unfolding answer_pieces fixed_of pieces_octets entries_octets
  answer_five t a five ha three low =
      let x : a % 16 ≡ get_or t 0 0 % 16 = omega (arith, ha) in
      let y : get_or t 1 0 % 8 % 8 ≡ get_or t 1 0 % 8 = omega arith in
      let z : get_or t 2 0 % 4 ≡ get_or t 2 0 = omega (arith, low) in
      let last : get_or t 2 0 ∷ [] ≡ drop 2 t = sym (drop-cons t 2 0 (omega (arith, three)) ∙ ap (λ (r : List ℕ). get_or t 2 0 ∷ r) (drop_of_length-le t {i = 3} (omega (arith, three)))) in
      rw five ((λ i. x i ∷ y i ∷ z i ∷ []) ∙ ap (λ (r : List ℕ). get_or t 0 0 % 16 ∷ get_or t 1 0 % 8 ∷ r) last)

  answer_other : (t : List ℕ) (a : ℕ) → eqb a 5 ≡ false → a ≡ get_or t 0 0 % 16 → length t ≡ 2 → get_or t 1 0 < 4
      → pieces_octets s l (answer_pieces a 0 (get_or t 1 0)) ≡ get_or t 0 0 % 16 ∷ drop 1 t
  unfolding answer_pieces fixed_of pieces_octets entries_octets
  answer_other t a five ha two low =
      let x : a % 16 ≡ get_or t 0 0 % 16 = omega (arith, ha) in
      let z : get_or t 1 0 % 4 ≡ get_or t 1 0 = omega (arith, low) in
      let last : get_or t 1 0 ∷ [] ≡ drop 1 t = sym (drop-cons t 1 0 (omega (arith, two)) ∙ ap (λ (r : List ℕ). get_or t 1 0 ∷ r) (drop_of_length-le t {i = 2} (omega (arith, two)))) in
      rw five ((λ i. x i ∷ z i ∷ []) ∙ ap (λ (r : List ℕ). get_or t 0 0 % 16 ∷ r) last)

  pub answer_again : (t : List ℕ) (a : ℕ) → a ≡ get_or t 0 0 % 16 → Each (λ (b : Body). pieces_octets s l (pieces_of b) ≡ cleared_form a F.Answer t) (answer_of t a)
  unfolding answer_of pieces_of cleared_form
  answer_again t a ha = go (eqb a 5) refl (eqb (length t) 3) refl (ltb (get_or t 2 0) 4) refl (eqb (length t) 2) refl (ltb (get_or t 1 0) 4) refl where
    read : Bool → Bool → Bool → Bool → Bool → Option Body
    read b5 b3 bx b2 by = pick b5 (pick b3 (pick bx (Some (B.Answer a (get_or t 1 0 % 8) (get_or t 2 0))) None) None) (pick b2 (pick by (Some (B.Answer a 0 (get_or t 1 0))) None) None)

    go : (b5 : Bool) → eqb a 5 ≡ b5 → (b3 : Bool) → eqb (length t) 3 ≡ b3 → (bx : Bool) → ltb (get_or t 2 0) 4 ≡ bx → (b2 : Bool) → eqb (length t) 2 ≡ b2 → (by : Bool) → ltb (get_or t 1 0) 4 ≡ by → Each (λ (b : Body). pieces_octets s l (pieces_of b) ≡ get_or t 0 0 % 16 ∷ pick b5 (get_or t 1 0 % 8 ∷ drop 2 t) (drop 1 t)) (read b5 b3 bx b2 by)
    go true p5 true p3 true px b2 p2 by py = answer_five t a p5 ha (eqb-true (length t) 3 p3) (ltb-true (get_or t 2 0) 4 px)
    go true p5 true p3 false px b2 p2 by py = tt
    go true p5 false p3 bx px b2 p2 by py = tt
    go false p5 b3 p3 bx px true p2 true py = answer_other t a p5 ha (eqb-true (length t) 2 p2) (ltb-true (get_or t 1 0) 4 py)
    go false p5 b3 p3 bx px true p2 false py = tt
    go false p5 b3 p3 bx px false p2 by py = tt

  -- two octets of ports, with bit 1 of the first cleared
  pub ports_again : (u : List ℕ) → ((i : ℕ) → get_or u i 0 < 256) → length u ≡ 2 → bitmap_octets (bitmap_of u) ≡ cleared_ports u
  unfolding cleared_ports
  ports_again [] o h = absurd (omega (arith, h))
  ports_again (x ∷ []) o h = absurd (omega (arith, h))
  ports_again (x ∷ y ∷ []) o h =
      let low : (x / 2 * 2 + y * 256) % 256 ≡ x / 2 * 2 = bytes_low (x / 2 * 2) y (omega (arith, o 0)) in
      let high : (x / 2 * 2 + y * 256) / 256 % 256 ≡ y = bytes_high (x / 2 * 2) y (omega (arith, o 0)) (o 1) in
      λ i. low i ∷ high i ∷ []
  ports_again (x ∷ y ∷ z ∷ u) o h = absurd (omega (arith, h))

  pub query_again : (t : List ℕ) (a : ℕ) → a ≡ get_or t 0 0 % 16 → ((i : ℕ) → get_or t i 0 < 256) → Each (λ (b : Body). pieces_octets s l (pieces_of b) ≡ cleared_form a F.Query t) (query_of t a)
  unfolding query_of optional_of pieces_of query_pieces fixed_of pieces_octets entries_octets cleared_form
  query_again t a ha o = go (eqb (length (drop 1 t)) 0) refl (eqb (length (drop 1 t)) 2) refl where
    x : a % 16 ≡ get_or t 0 0 % 16
    x = omega (arith, ha)

    go : (b0 : Bool) → eqb (length (drop 1 t)) 0 ≡ b0 → (b2 : Bool) → eqb (length (drop 1 t)) 2 ≡ b2 → Each (λ (b : Body). pieces_octets s l (pieces_of b) ≡ get_or t 0 0 % 16 ∷ cleared_ports (drop 1 t)) (query_by a (pick b0 (Some None) (pick b2 (Some (Some (bitmap_of (drop 1 t)))) None)))
    go true p b2 q = (λ i. x i ∷ []) ∙ ap (λ (r : List ℕ). get_or t 0 0 % 16 ∷ r) (none_cleared (drop 1 t) (eqb-true (length (drop 1 t)) 0 p))
    go false p true q = λ i. x i ∷ ports_again (drop 1 t) (λ j. rw (get_or-drop 1 t j 0) (o (1 + j))) (eqb-true (length (drop 1 t)) 2 q) i
    go false p false q = tt

  module _ (at : ℕ) (t : List ℕ) (here : t ≡ drop at s) (o : (i : ℕ) → get_or t i 0 < 256) (a : ℕ) (ha : a ≡ get_or t 0 0 % 16) where
    abbrev len : ℕ
    len = application_length (drop 2 t)

    abbrev x : ℕ
    x = get_or t 1 0

    -- octets 1 and 2, and the Application ID
    asking_front : 2 ≤ length t → (r : List ℕ) → a % 16 ∷ ports_octet (x / 16) (x % 16) ∷ (part s (at + 2) len ++ r) ≡ get_or t 0 0 % 16 ∷ (take (1 + len) (drop 1 t) ++ r)
    asking_front two r =
        let y : a % 16 ≡ get_or t 0 0 % 16 = omega (arith, ha) in
        let p : ports_octet (x / 16) (x % 16) ≡ x = omega (arith, o 1) in
        let q : part s (at + 2) len ≡ take len (drop 2 t) = ap (take len) (sym (drop-drop 2 at s) ∙ ap (drop 2) (sym here)) in
        let z : suc len ≡ 1 + len = omega arith in
        let d : x ∷ take len (drop 2 t) ≡ take (1 + len) (drop 1 t) = ap (take (suc len)) (sym (drop-cons t 1 0 (omega (arith, two)))) ∙ ap (λ (k : ℕ). take k (drop 1 t)) z in
        (λ i. y i ∷ p i ∷ (q i ++ r)) ∙ ap (λ (u : List ℕ). get_or t 0 0 % 16 ∷ (u ++ r)) d

    asking_five : eqb a 5 ≡ true → 2 ≤ length t → length t ≡ 2 + len + 1
        → pieces_octets s l (asking_pieces a (x / 16) (x % 16) (at + 2) len (get_or t (2 + len) 0 % 8)) ≡ get_or t 0 0 % 16 ∷ (take (1 + len) (drop 1 t) ++ cleared_formats (drop (2 + len) t))
    unfolding asking_pieces pieces_octets entries_octets
    asking_five five two n =
        let y : get_or t (2 + len) 0 % 8 % 8 ≡ get_or t (2 + len) 0 % 8 = omega arith in
        let last : get_or t (2 + len) 0 ∷ [] ≡ drop (2 + len) t = sym (drop-cons t (2 + len) 0 (omega (arith, n)) ∙ ap (λ (r : List ℕ). get_or t (2 + len) 0 ∷ r) (drop_of_length-le t {i = suc (2 + len)} (omega (arith, n)))) in
        rw five (asking_front two (get_or t (2 + len) 0 % 8 % 8 ∷ []) ∙ (λ i. get_or t 0 0 % 16 ∷ (take (1 + len) (drop 1 t) ++ (y i ∷ []))) ∙ ap (λ (r : List ℕ). get_or t 0 0 % 16 ∷ (take (1 + len) (drop 1 t) ++ cleared_formats r)) last)

    asking_other : eqb a 5 ≡ false → 2 ≤ length t → length t ≡ 2 + len
        → pieces_octets s l (asking_pieces a (x / 16) (x % 16) (at + 2) len 0) ≡ get_or t 0 0 % 16 ∷ (take (1 + len) (drop 1 t) ++ cleared_formats (drop (2 + len) t))
    unfolding asking_pieces pieces_octets entries_octets
    asking_other five two n =
        let last : [] ≡ drop (2 + len) t = sym (drop_of_length-le t {i = 2 + len} (omega (arith, n))) in
        rw five (asking_front two [] ∙ ap (λ (r : List ℕ). get_or t 0 0 % 16 ∷ (take (1 + len) (drop 1 t) ++ cleared_formats r)) last)

    pub asking_again : Each (λ (b : Body). pieces_octets s l (pieces_of b) ≡ cleared_form a F.Asking t) (asking_of t at a)
    unfolding asking_of pieces_of cleared_form
    asking_again = go (ltb (length t) 2) refl (eqb len 0) (eqb a 5) refl (eqb (length t) (2 + len + 1)) refl (eqb (length t) (2 + len)) refl where
      read : Bool → Bool → Bool → Bool → Bool → Option Body
      read b2 b0 b5 bf bo = pick b2 None (pick b0 None (pick b5 (pick bf (Some (B.Asking a (x / 16) (x % 16) (at + 2) len (get_or t (2 + len) 0 % 8))) None) (pick bo (Some (B.Asking a (x / 16) (x % 16) (at + 2) len 0)) None)))

      go : (b2 : Bool) → ltb (length t) 2 ≡ b2 → (b0 b5 : Bool) → eqb a 5 ≡ b5 → (bf : Bool) → eqb (length t) (2 + len + 1) ≡ bf → (bo : Bool) → eqb (length t) (2 + len) ≡ bo → Each (λ (b : Body). pieces_octets s l (pieces_of b) ≡ get_or t 0 0 % 16 ∷ (take (1 + len) (drop 1 t) ++ cleared_formats (drop (2 + len) t))) (read b2 b0 b5 bf bo)
      go true p2 b0 b5 p5 bf pf bo po = tt
      go false p2 true b5 p5 bf pf bo po = tt
      go false p2 false true p5 true pf bo po = asking_five p5 (ltb-false (length t) 2 p2) (eqb-true (length t) (2 + len + 1) pf)
      go false p2 false true p5 false pf bo po = tt
      go false p2 false false p5 bf pf true po = asking_other p5 (ltb-false (length t) 2 p2) (eqb-true (length t) (2 + len) po)
      go false p2 false false p5 bf pf false po = tt
