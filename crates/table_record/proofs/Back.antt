-- What is encoded is decoded as it was, and the octet of a state names it. Assumes nothing.
use mathlib.Core.Path.{◌≡◌, refl}
use mathlib.Core.Bool.{Bool, true, false}
use Prim.Native.Nat.{ℕ, ◌+◌, ◌*◌, ◌/◌, ◌%◌, ◌<◌}
use native.Mathlib.Omega.{arith}
use lib.ListN.{length}
use lib.Dec.{eqb}
use Rattle.base_layout.specs.Layout.{fields_size}
use Rattle.base_lists.specs.Seq.{bit}
use Rattle.base_lists.proofs.StoresAndParts.{bit_le}
use Rattle.base_octets.specs.Octets.{enc, gets}
use Rattle.base_octets.proofs.StoredAndRead.{num_enc}
use Rattle.table_record.specs.Record.{state_number, state_of, flags_of, decoded, octets_of, Fits}
use Rattle.table_record.specs.declared.State.{State}
use Rattle.table_record.specs.declared.State.TheVariants.{Free, IResultWait1, IResultWait2, IResultRespWait, IWaitTimeout, RTidokWait1, RTidokWait2, RInvokeRespWait1, RInvokeRespWait2, RResultWait, RResultRespWait, RWaitTimeout}
use Rattle.table_record.specs.declared.Record.{Record}

pub state_back : (s : State) → state_of (state_number s) ≡ s
unfolding state_of
state_back Free = refl
state_back IResultWait1 = refl
state_back IResultWait2 = refl
state_back IResultRespWait = refl
state_back IWaitTimeout = refl
state_back RTidokWait1 = refl
state_back RTidokWait2 = refl
state_back RInvokeRespWait1 = refl
state_back RInvokeRespWait2 = refl
state_back RResultWait = refl
state_back RResultRespWait = refl
state_back RWaitTimeout = refl

pub length_octets_holds : (r : Record) → length (octets_of r) ≡ fields_size
unfolding octets_of enc
length_octets_holds r = refl

bit_back : (b : Bool) (x : ℕ) → x ≡ bit b → eqb x 1 ≡ b
bit_back true x e = rw e
bit_back false x e = rw e

pub flags_small : (r : Record) → flags_of r < 32
unfolding flags_of
flags_small r = omega (arith, bit_le r.user_ack, bit_le r.hold_on, bit_le r.tidok_sent, bit_le r.hold_on_sent, bit_le r.tidnew)

module _ (a b c d e : Bool) where
  abbrev flags : ℕ
  flags = bit a + 2 * bit b + 4 * bit c + 8 * bit d + 16 * bit e

  flags_back : (eqb (flags % 2) 1 ≡ a) × (eqb (flags / 2 % 2) 1 ≡ b) × (eqb (flags / 4 % 2) 1 ≡ c) × (eqb (flags / 8 % 2) 1 ≡ d) × (eqb (flags / 16 % 2) 1 ≡ e)
  flags_back = (
    bit_back a (flags % 2) (omega (arith, bit_le a, bit_le b, bit_le c, bit_le d, bit_le e)),
    bit_back b (flags / 2 % 2) (omega (arith, bit_le a, bit_le b, bit_le c, bit_le d, bit_le e)),
    bit_back c (flags / 4 % 2) (omega (arith, bit_le a, bit_le b, bit_le c, bit_le d, bit_le e)),
    bit_back d (flags / 8 % 2) (omega (arith, bit_le a, bit_le b, bit_le c, bit_le d, bit_le e)),
    bit_back e (flags / 16 % 2) (omega (arith, bit_le a, bit_le b, bit_le c, bit_le d, bit_le e)),
  )

pub decoded_back : (r : Record) → Fits r → decoded (octets_of r) ≡ r
unfolding decoded octets_of enc gets flags_of
decoded_back r h =
    let f = flags_back r.user_ack r.hold_on r.tidok_sent r.hold_on_sent r.tidnew in
    simp (state_back r.state, num_enc 2 r.tid h.tid, num_enc 8 r.deadline h.deadline, num_enc 4 r.len h.len, num_enc 4 r.limit h.limit, num_enc 4 r.sent h.sent, f.0, f.1, f.2, f.3, f.4)
