-- The fixed header's fields that were written are read as they were, or as D5 or D6, kind by kind. Assumes nothing.
use Prim.Native.Nat.{ℕ, ◌+◌, ◌*◌, ◌/◌, ◌%◌, ◌<◌}
use native.Mathlib.Omega.{arith}
use mathlib.Core.Path.{◌≡◌, refl, ap, ◌∙◌}
use mathlib.Core.List.{List}
use mathlib.Core.Bool.{Bool, true, false}
use lib.ListN.{get_or}
use lib.Dec.{ltb, eqb}
use Rattle.base_lists.specs.Seq.{pick, bit}
use Rattle.base_lists.proofs.StoresAndParts.{bit_le}
use Rattle.base_numbers.specs.declared.Malformed.TheVariants.{D5, D6}
use Rattle.base_numbers.specs.declared.Malformed.{Malformed}
use Rattle.std.specs.Prelude.{Ok, Err}
use Rattle.codec_pdu.specs.declared.Kind.{Kind}
use Rattle.codec_pdu.specs.declared.Kind.TheVariants.{Invoke, Result, Ack, Abort, SegInvoke, SegResult, Nack, Wrong, Refused}
use Rattle.codec_reading.specs.Read.{kind_of, flag, lowest}
use Rattle.codec_encoding.specs.Write.{type_number, flags_of, extra_of, three, kind_fault, FitKind}
use Rattle.codec_items.specs.Items.{Verdict}
use Rattle.law_reads_back.specs.ReadsBack.{kind_at}
use Rattle.law_reads_back.proofs.Bits.{bit_is, low_bit}

-- the kind that is read, by the fault of what was written
abbrev pub kind_by : Verdict → Kind → Kind
kind_by (Err d) k = Wrong d
kind_by (Ok tt) k = kind_at 4 k

by_test : (b : Bool) (d : Malformed) (k : Kind) → pick b (Wrong d) (kind_at 4 k) ≡ kind_by (pick b (Err d) (Ok tt)) k
by_test true d k = refl
by_test false d k = refl

-- GTR, TTR and RID
module _ (a b c : Bool) where
  flag_a : flag 4 (three a b c) ≡ a
  flag_a = bit_is a (three a b c / 4 % 2) (omega (arith, bit_le a, bit_le b, bit_le c))

  flag_b : flag 2 (three a b c) ≡ b
  flag_b = bit_is b (three a b c / 2 % 2) (omega (arith, bit_le a, bit_le b, bit_le c))

  flag_c : lowest (three a b c) ≡ c
  flag_c = bit_is c (three a b c % 2) (omega (arith, bit_le c))

pub flags_fit : (s : List ℕ) (k : Kind) → FitKind s k → flags_of k < 8
unfolding flags_of FitKind
flags_fit s (Invoke a b c v n u l) w = omega (arith, bit_le a, bit_le b, bit_le c)
flags_fit s (Result a b c) w = omega (arith, bit_le a, bit_le b, bit_le c)
flags_fit s (Ack a c) w = omega (arith, bit_le a, bit_le c)
flags_fit s (Abort t r) w = w
flags_fit s (SegInvoke a b c p) w = omega (arith, bit_le a, bit_le b, bit_le c)
flags_fit s (SegResult a b c p) w = omega (arith, bit_le a, bit_le b, bit_le c)
flags_fit s (Nack c n l) w = omega (arith, bit_le c)
flags_fit s (Wrong d) w = omega arith
flags_fit s (Refused r) w = omega arith

pub kind_read : (s : List ℕ) (k : Kind) → FitKind s k → kind_of (type_number k) (flags_of k) (get_or (extra_of s k) 0 0) ≡ kind_by (kind_fault k) k
unfolding kind_of type_number flags_of extra_of kind_fault FitKind kind_at
kind_read s (Invoke a b c v n u l) w =
    let x : ℕ = v * 64 + bit n * 32 + bit u * 16 + l in
    let xl : x % 4 ≡ l = omega arith in
    let xv : x / 64 ≡ v = omega (arith, bit_le n, bit_le u) in
    let q32 : x / 32 ≡ v * 2 + bit n = omega (arith, bit_le n, bit_le u) in
    let q16 : x / 16 ≡ (v * 2 + bit n) * 2 + bit u = omega (arith, bit_le n, bit_le u) in
    let xn : flag 32 x ≡ n = bit_is n (x / 32 % 2) (ap (λ (j : ℕ). j % 2) q32 ∙ low_bit n v) in
    let xu : flag 16 x ≡ u = bit_is u (x / 16 % 2) (ap (λ (j : ℕ). j % 2) q16 ∙ low_bit u (v * 2 + bit n)) in
    (λ i. pick (eqb (xl i) 3) (Wrong D5) (Invoke (flag_a a b c i) (flag_b a b c i) (flag_c a b c i) (xv i) (xn i) (xu i) (xl i)))
    ∙ by_test (eqb l 3) D5 (Invoke a b c v n u l)
kind_read s (Result a b c) w = λ i. Result (flag_a a b c i) (flag_b a b c i) (flag_c a b c i)
kind_read s (Ack a c) w = λ i. Ack (flag_a a false c i) (flag_c a false c i)
kind_read s (Abort t r) w = by_test (ltb 1 t) D6 (Abort t r)
kind_read s (SegInvoke a b c p) w = λ i. SegInvoke (flag_a a b c i) (flag_b a b c i) (flag_c a b c i) p
kind_read s (SegResult a b c p) w = λ i. SegResult (flag_a a b c i) (flag_b a b c i) (flag_c a b c i) p
kind_read s (Nack c n l) w = λ i. Nack (bit_is c (bit c % 2) (omega (arith, bit_le c)) i) n 4
kind_read s (Wrong d) w = absurd w
kind_read s (Refused r) w = absurd w
