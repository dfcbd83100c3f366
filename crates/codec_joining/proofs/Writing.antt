-- What the writing loop keeps: writing the rest where it stands gives the whole datagram. Assumes nothing.
use Prim.Native.Nat.{ℕ, ◌+◌, ◌<◌, ◌≤◌}
use native.Mathlib.Omega.{arith}
use mathlib.Core.Path.{◌≡◌, refl, sym, ap, ◌∙◌}
use mathlib.Core.List.{List, ◌++◌, append_assoc}
use lib.ListN.{length, get_or, drop, drop_of_length-le, length-append}
use lib.Seq.{drop-drop}
use Rattle.base_lists.specs.Seq.{part, put}
use Rattle.base_lists.proofs.StoresAndParts.{length_put, length_part, put_append, put_nil}
use Rattle.codec_joining.specs.Join.{length_octets, listed}
use Rattle.codec_joining.specs.Joinable.{Joinable}
use Rattle.codec_joining.proofs.Remaining.{Left, left_none, left_next, left_more, next_length}

-- after octet 0, in out₀, and i PDUs, which end at `at` and are the octets of bytes before `from`
pub record Written (bytes lengths out₀ out : List ℕ) (at from i : ℕ) : Type 0 where
  pub taken : ℕ
  pub place : at ≡ 1 + taken
  pub upto : i ≤ length lengths
  pub sized : length out ≡ length out₀
  pub left : Left lengths i from taken
  pub rest : put out at (listed (drop from bytes) (drop i lengths)) ≡ put out₀ 1 (listed bytes lengths)

-- the next PDU is there, and has room
pub record Room (bytes : List ℕ) (at from n : ℕ) : Type 0 where
  pub small : n ≤ 1500
  pub lent : from + n ≤ length bytes
  pub space : at + length (length_octets n) + n ≤ 1500

pub written_none : (bytes lengths out₀ : List ℕ) → Written bytes lengths out₀ out₀ 1 0 0
written_none bytes lengths out₀ = record { taken = 0; place = refl; upto = omega arith; sized = refl; left = left_none lengths; rest = refl }

module _ {bytes lengths out₀ out : List ℕ} {at from i : ℕ} (j : Joinable bytes lengths) (v : Written bytes lengths out₀ out at from i) where
  abbrev n : ℕ
  n = get_or lengths i 0

  abbrev pdu : List ℕ
  pdu = length_octets n ++ part bytes from n

  pub written_room : i < length lengths → Room bytes at from n
  written_room h =
      let w = left_next lengths i h from v.taken v.left in
      record {
        small = (w.range j.each).1;
        lent = omega (arith, w.sums, j.adds);
        space = omega (arith, w.sizes, j.short, v.place);
      }

  listed_next : i < length lengths → listed (drop from bytes) (drop i lengths) ≡ pdu ++ listed (drop (from + n) bytes) (drop (i + 1) lengths)
  unfolding listed
  listed_next h =
      ap (listed (drop from bytes)) (next_length lengths i h)
      ∙ rw (drop-drop n from bytes) (sym (append_assoc (length_octets n) (part bytes from n) (listed (drop (from + n) bytes) (drop (i + 1) lengths))))

  pub written_more : i < length lengths → Written bytes lengths out₀ (put out at pdu) (at + length (length_octets n) + n) (from + n) (i + 1)
  written_more h =
      let w = left_next lengths i h from v.taken v.left in
      let r = w.range j.each in
      let m = written_room h in
      let len : length pdu ≡ length (length_octets n) + n = length-append (length_octets n) (part bytes from n) ∙ rw (length_part bytes from n m.lent) in
      let place : at + length pdu ≡ at + length (length_octets n) + n = rw len (omega arith) in
      let next = left_more lengths i h from v.taken v.left r.0 r.1 in
      record {
        taken = v.taken + (length (length_octets n) + n);
        place = omega (arith, v.place);
        upto = omega arith;
        sized = length_put out at pdu ∙ v.sized;
        left = next;
        rest = rw (← place) (sym (put_append pdu (listed (drop (from + n) bytes) (drop (i + 1) lengths)) out at) ∙ ap (put out at) (sym (listed_next h)) ∙ v.rest);
      }

  pub written_all : length lengths ≤ i → out ≡ put out₀ 1 (listed bytes lengths)
  unfolding listed
  written_all h = sym (put_nil out at) ∙ ap (λ (ns : List ℕ). put out at (listed (drop from bytes) ns)) (sym (drop_of_length-le lengths h)) ∙ v.rest
