-- The header of a frame that was read is said by its words, and written with its spare bits cleared. Assumes nothing.
use Prim.Native.Nat.{ℕ, ◌%◌, ◌<◌}
use native.Mathlib.Omega.{arith}
use mathlib.Core.Path.{◌≡◌, refl, sym, ap, ◌∙◌}
use mathlib.Core.List.{List, ◌++◌}
use Rattle.std.specs.Prelude.{Some}
use Rattle.std.specs.Option.{option_map}
use mathlib.Core.Bool.{Bool, true, false}
use Rattle.base_lists.specs.Seq.{bit}
use Rattle.rds_frame.specs.declared.Kind.{Kind}
use Rattle.rds_frame.specs.declared.Kind.TheVariants as K
use Rattle.rds_frame.specs.Frame.{u_kind}
use Rattle.rds_words.specs.Words.{kind_words}
use Rattle.rds_said.specs.Said.{word, kind_said, head_by, head_said}
use Rattle.rds_said.proofs.ByKind.{said_i, said_s, said_ui, said_u}
use Rattle.rds_written.proofs.Narrow.{NarrowKind, NarrowHead}
use Rattle.rds_written.proofs.Headers.{bit_said, head}

three : (x : ℕ) → x < 8 → x % 8 ≡ x
three x h = omega (arith, h)

-- the kind that the words of a kind say
pub kind_said_holds : (k : Kind) → NarrowKind k → (e s d : ℕ) (rest : List ℕ) → kind_said (kind_words k e s d ++ rest) ≡ Some k
unfolding NarrowKind kind_words
kind_said_holds (K.I a ns nr r) n e s d rest = said_i (kind_words (K.I a ns nr r) e s d ++ rest) refl ∙ (λ i. Some (K.I (bit_said a i) (three ns n.0 i) (three nr n.1 i) (three r n.2 i)))
kind_said_holds (K.S a nr r) n e s d rest = said_s (kind_words (K.S a nr r) e s d ++ rest) refl ∙ (λ i. Some (K.S (bit_said a i) (three nr n.0 i) (three r n.1 i)))
kind_said_holds (K.Ui nu) n e s d rest = said_ui (kind_words (K.Ui nu) e s d ++ rest) refl ∙ (λ i. Some (K.Ui (three nu n i)))
kind_said_holds (K.U m response) n e s d rest =
    let z : m % 16 ≡ m = omega (arith, n.0) in
    said_u (kind_words (K.U m response) e s d ++ rest) refl ∙ (λ i. u_kind (z i) (bit_said response i)) ∙ n.1

-- words 1 to 3
front_words_holds : (k : Kind) (e s d : ℕ) (rest : List ℕ) → (word (kind_words k e s d ++ rest) 1 ≡ e) × (word (kind_words k e s d ++ rest) 2 ≡ s) × (word (kind_words k e s d ++ rest) 3 ≡ d)
unfolding kind_words
front_words_holds (K.I a ns nr r) e s d rest = (refl, refl, refl)
front_words_holds (K.S a nr r) e s d rest = (refl, refl, refl)
front_words_holds (K.Ui nu) e s d rest = (refl, refl, refl)
front_words_holds (K.U m response) e s d rest = (refl, refl, refl)

-- the header that the words of a header say
pub head_said_holds : (k : Kind) (ads : Bool) (s d : ℕ) → NarrowKind k → NarrowHead (head k ads s d 0) → (rest : List ℕ) → head_said (kind_words k (bit ads) s d ++ rest) ≡ Some (head k ads s d 0)
unfolding head_said
head_said_holds k true s d n p rest =
    let w : List ℕ = kind_words k 1 s d ++ rest in
    let f = front_words_holds k 1 s d rest in
    let from : word w 2 % 16 ≡ s = ap (λ (x : ℕ). x % 16) f.1 ∙ omega (arith, p.source_narrow) in
    let to : word w 3 % 16 ≡ d = ap (λ (x : ℕ). x % 16) f.2 ∙ omega (arith, p.destination_narrow) in
    ap (option_map (head_by w)) (kind_said_holds k n 1 s d rest) ∙ rw f.0 (λ i. Some (head k true (from i) (to i) 0))
head_said_holds k false s d n p rest =
    let w : List ℕ = kind_words k 0 s d ++ rest in
    let f = front_words_holds k 0 s d rest in
    ap (option_map (head_by w)) (kind_said_holds k n 0 s d rest) ∙ rw f.0 (λ i. Some (head k false (sym (p.no_ports refl).0 i) (sym (p.no_ports refl).1 i) 0))
