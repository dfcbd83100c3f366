-- A fixed header that was written is read as it was, or as D5 or D6. Assumes nothing.
use Prim.Native.Nat.{ℕ, suc, ◌+◌, ◌*◌, ◌/◌, ◌%◌, ◌<◌, ◌≤◌}
use native.Mathlib.Omega.{arith}
use borrow.Author.Tests.{le-ltb}
use mathlib.Core.Path.{◌≡◌, refl, ap, ◌∙◌}
use mathlib.Core.List.{List, [], ◌∷◌, ◌++◌}
use mathlib.Core.Bool.{Bool, false}
use lib.ListN.{length, get_or, length-append}
use lib.Dec.{ltb, eqb}
use Rattle.base_lists.specs.Seq.{pick, bit, part}
use Rattle.base_lists.proofs.StoresAndParts.{length_part}
use Rattle.codec_pdu.specs.declared.Kind.{Kind}
use Rattle.codec_pdu.specs.declared.Kind.TheVariants.{Invoke, Result, Ack, Abort, SegInvoke, SegResult, Nack, Wrong, Refused}
use Rattle.codec_reading.specs.declared.Head.{Head}
use Rattle.codec_reading.specs.Read.{kind_of, type_of, good_head, long_head, head_of}
use Rattle.codec_encoding.specs.Write.{type_number, flags_of, extra_of, header_of_is, kind_fault, FitKind}
use Rattle.law_reads_back.proofs.Bits.{pick_false, con_is, four_is, three_is}
use Rattle.law_reads_back.proofs.KindBack.{kind_by, flags_fit, kind_read}

-- the fixed header of octets s of type t: from 1 to 7, and beyond 3 octets
module _ (s : List ℕ) (t : ℕ) (typed : type_of s ≡ t) where
  short_head : eqb t 0 ≡ false → ltb 7 t ≡ false → 3 ≤ length s → head_of s ≡ pick (eqb t 2) (good_head s 2 0 3) (pick (eqb t 3) (good_head s 3 0 3) (long_head s))
  unfolding head_of
  short_head a b h = simp (typed, a, b, le-ltb (length s) 3 h)

  long_head_holds : eqb t 7 ≡ false → 4 ≤ length s → long_head s ≡ good_head s t (get_or s 3 0) 4
  long_head_holds a h = simp (typed, a, le-ltb (length s) 4 h)

  nack_head : t ≡ 7 → get_or s 3 0 + 4 ≤ length s → long_head s ≡ good_head s 7 (get_or s 3 0) (get_or s 3 0 + 4)
  nack_head e h = simp (typed, e, le-ltb (length s) 4 (omega arith), le-ltb (length s) (get_or s 3 0 + 4) h)

types_fit : (k : Kind) → type_number k < 16
unfolding type_number
types_fit (Invoke a b c v n u l) = omega arith
types_fit (Result a b c) = omega arith
types_fit (Ack a c) = omega arith
types_fit (Abort t r) = omega arith
types_fit (SegInvoke a b c p) = omega arith
types_fit (SegResult a b c p) = omega arith
types_fit (Nack c n l) = omega arith
types_fit (Wrong d) = omega arith
types_fit (Refused r) = omega arith

-- the header that is read, which ends at `end`
abbrev pub head_by : Bool → Kind → ℕ → ℕ → Head
head_by con k tid end = record { kind = kind_by (kind_fault k) k; con = con; tid = record { 0 = tid }; end = end }

module _ (s : List ℕ) (con : Bool) (k : Kind) (tid : ℕ) (rest : List ℕ) (fits : FitKind s k) where
  abbrev t : ℕ
  t = type_number k

  abbrev octets : List ℕ
  octets = header_of_is s con k tid ++ rest

  type_is : type_of octets ≡ t
  unfolding header_of_is
  type_is = four_is con t (flags_of k) (types_fit k) (flags_fit s k fits)

  fields : (end : ℕ) → head_of octets ≡ good_head octets t (get_or (extra_of s k) 0 0) end → head_of octets ≡ head_by con k tid end
  unfolding header_of_is
  fields end e =
      let x : ℕ = get_or (extra_of s k) 0 0 in
      let same : tid / 256 * 256 + tid % 256 ≡ tid = omega arith in
      let kind_is : kind_of t ((bit con * 128 + t * 8 + flags_of k) % 8) x ≡ kind_by (kind_fault k) k =
      ap (λ (f : ℕ). kind_of t f x) (three_is con t (flags_of k) (types_fit k) (flags_fit s k fits)) ∙ kind_read s k fits in
      e ∙ (λ i. record { kind = kind_is i; con = con_is con t (flags_of k) (types_fit k) (flags_fit s k fits) i; tid = record { 0 = same i }; end = end })

  -- types 2 and 3, by the tests that are left
  short : eqb t 0 ≡ false → ltb 7 t ≡ false → head_of octets ≡ pick (eqb t 2) (good_head octets 2 0 3) (pick (eqb t 3) (good_head octets 3 0 3) (long_head octets))
  unfolding header_of_is
  short a b = short_head octets t type_is a b (omega arith)

  -- types 1, 4, 5 and 6
  one_octet : (x : ℕ) → extra_of s k ≡ x ∷ [] → eqb t 0 ≡ false → ltb 7 t ≡ false → eqb t 2 ≡ false → eqb t 3 ≡ false → eqb t 7 ≡ false
      → head_of octets ≡ head_by con k tid (length (header_of_is s con k tid))
  unfolding header_of_is
  one_octet x e a b c d f =
      let size : length octets ≡ length rest + 4 = omega (arith, length-append (extra_of s k) rest, ap length e) in
      let octet : get_or octets 3 0 ≡ get_or (extra_of s k) 0 0 = rw e in
      let end : 4 ≡ length (header_of_is s con k tid) = omega (arith, ap length e) in
      fields 4 (short a b ∙ pick_false (eqb t 2) _ _ c ∙ pick_false (eqb t 3) _ _ d ∙ long_head_holds octets t type_is f (omega arith) ∙ ap (λ (y : ℕ). good_head octets t y 4) octet)
      ∙ ap (head_by con k tid) end

pub header_read : (s : List ℕ) (con : Bool) (k : Kind) (tid : ℕ) (rest : List ℕ) → FitKind s k
    → head_of (header_of_is s con k tid ++ rest) ≡ head_by con k tid (length (header_of_is s con k tid))
unfolding header_of_is type_number extra_of FitKind
header_read s con (Invoke a b c v n u l) tid rest w = one_octet s con (Invoke a b c v n u l) tid rest w _ refl refl refl refl refl refl
header_read s con (Result a b c) tid rest w = fields s con (Result a b c) tid rest w 3 (short s con (Result a b c) tid rest w refl refl)
header_read s con (Ack a c) tid rest w = fields s con (Ack a c) tid rest w 3 (short s con (Ack a c) tid rest w refl refl)
header_read s con (Abort t r) tid rest w = one_octet s con (Abort t r) tid rest w _ refl refl refl refl refl refl
header_read s con (SegInvoke a b c p) tid rest w = one_octet s con (SegInvoke a b c p) tid rest w _ refl refl refl refl refl refl
header_read s con (SegResult a b c p) tid rest w = one_octet s con (SegResult a b c p) tid rest w _ refl refl refl refl refl refl
header_read s con (Nack c n l) tid rest w =
    let k : Kind = Nack c n l in
    let size : length (part s l n ++ rest) ≡ n + length rest = length-append (part s l n) rest ∙ ap (λ (j : ℕ). j + length rest) (length_part s l n w) in
    let end : n + 4 ≡ suc (suc (suc (suc (length (part s l n))))) = omega (arith, length_part s l n w) in
    fields s con k tid rest w (n + 4) (short s con k tid rest w refl refl ∙ nack_head (octets s con k tid rest w) 7 (type_is s con k tid rest w) refl (omega arith))
    ∙ ap (head_by con k tid) end
header_read s con (Wrong d) tid rest w = absurd w
header_read s con (Refused r) tid rest w = absurd w
