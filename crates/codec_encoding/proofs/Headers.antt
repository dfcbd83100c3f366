-- The fixed header as it is stored: three octets, then what stands after the TID. Assumes nothing.
use Prim.Native.Nat.{ℕ, ◌+◌, ◌*◌, ◌/◌, ◌%◌, ◌<◌}
use native.Mathlib.Omega.{arith}
use mathlib.Core.Path.{◌≡◌, refl}
use mathlib.Core.List.{List, [], ◌∷◌}
use mathlib.Core.Bool.{Bool, false}
use lib.ListN.{length}
use Rattle.base_lists.specs.Seq.{bit, put}
use Rattle.base_lists.proofs.StoresAndParts.{bit_le}
use Rattle.codec_pdu.specs.declared.Kind.{Kind}
use Rattle.codec_pdu.specs.declared.Kind.TheVariants.{Invoke, Result, Ack, Abort, SegInvoke, SegResult, Nack, Wrong, Refused}
use Rattle.codec_encoding.specs.Write.{type_number, flags_of, extra_of, header_of_is, three, FitKind}

pub three_small : (a b c : Bool) → three a b c < 8
three_small a b c = omega (arith, bit_le a, bit_le b, bit_le c)

pub flags_small : (s : List ℕ) (k : Kind) → FitKind s k → flags_of k < 8
unfolding flags_of FitKind
flags_small s (Invoke a b c v n u l) f = three_small a b c
flags_small s (Result a b c) f = three_small a b c
flags_small s (Ack a c) f = three_small a false c
flags_small s (Abort t r) f = f
flags_small s (SegInvoke a b c p) f = three_small a b c
flags_small s (SegResult a b c p) f = three_small a b c
flags_small s (Nack c n l) f = omega (arith, bit_le c)
flags_small s (Wrong d) f = absurd f
flags_small s (Refused r) f = absurd f

module _ (s : List ℕ) (con : Bool) (k : Kind) (tid : ℕ) where
  pub header_length_holds : length (header_of_is s con k tid) ≡ 3 + length (extra_of s k)
  unfolding header_of_is
  header_length_holds = omega arith

  pub header_stored : (o : List ℕ) (first : ℕ) → first ≡ bit con * 128 + (type_number k * 8 + flags_of k)
      → put (put o 0 (first ∷ tid / 256 ∷ tid % 256 ∷ [])) 3 (extra_of s k) ≡ put o 0 (header_of_is s con k tid)
  unfolding header_of_is put
  header_stored o first e =
      let f : first ≡ bit con * 128 + type_number k * 8 + flags_of k = omega arith in
      rw f refl
