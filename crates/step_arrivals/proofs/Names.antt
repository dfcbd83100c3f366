-- Whom a PDU names: what the peer writes towards a record names it, what a record writes names its peer's. Assumes nothing.
use mathlib.Core.Path.{◌≡◌, refl, sym}
use mathlib.Core.List.{List}
use mathlib.Core.Bool.{Bool, true, false}
use Prim.Native.Nat.{ℕ, ◌+◌, ◌%◌, ◌≤◌, ◌<◌}
use native.Mathlib.Omega.{arith}
use lib.ListN.{length}
use lib.Dec.{ltb, eqb}
use borrow.Author.Tests.{lt-ltb, le-ltb, eq-eqb, ne_eqb, ltb-true, ltb-false, eqb-true}
use Rattle.std.specs.Prelude.{Option, Some, None}
use Rattle.base_lists.specs.Seq.{pick}
use Rattle.base_lists.proofs.StoresAndParts.{true_false}
use Rattle.codec_reading.specs.Read.{type_of}
use Rattle.table_record.specs.declared.Role.{Role}
use Rattle.table_record.specs.declared.Role.TheVariants.{Initiator, Responder}
use Rattle.table_record.specs.Record.{send_tid, rcv_tid}
use Rattle.step_arrivals.specs.Arrivals.{tid_of, name_of, ignored_type, invokes_us, other_end}

-- the TID of a name, if it names a record, has 15 bits
abbrev Fits : Option (Role × ℕ) → Type 0
Fits None = Unit
Fits (Some (role, tid)) = tid < 32768

name_fits : (s : List ℕ) → Fits (name_of s)
unfolding name_of
name_fits s = go (ltb (length s) 3) (ltb (tid_of s) 32768) (eqb (type_of s) 2) (eqb (type_of s) 1)
  where
    low : tid_of s % 32768 < 32768
    low = omega arith

    go : (a b c d : Bool) → Fits (pick a None (pick b (pick c None (Some (Responder, tid_of s % 32768))) (pick d None (Some (Initiator, tid_of s % 32768)))))
    go true b c d = tt
    go false true true d = tt
    go false true false d = low
    go false false c true = tt
    go false false c false = low

pub name_below : (s : List ℕ) (role : Role) (tid : ℕ) → name_of s ≡ Some (role, tid) → tid < 32768
name_below s role tid e = rw e at (name_fits s)

-- who is named, is so by three octets or more and by the TID that its peer writes
abbrev Aimed : List ℕ → Option (Role × ℕ) → Type 0
Aimed s None = Unit
Aimed s (Some (role, tid)) = (3 ≤ length s) × (tid_of s < 65536 → tid_of s ≡ rcv_tid role tid)

name_aimed : (s : List ℕ) → Aimed s (name_of s)
unfolding name_of
name_aimed s = go (ltb (length s) 3) refl (ltb (tid_of s) 32768) refl (eqb (type_of s) 2) (eqb (type_of s) 1)
  where
    go : (a : Bool) → ltb (length s) 3 ≡ a → (b : Bool) → ltb (tid_of s) 32768 ≡ b → (c d : Bool)
        → Aimed s (pick a None (pick b (pick c None (Some (Responder, tid_of s % 32768))) (pick d None (Some (Initiator, tid_of s % 32768)))))
    go true p b q c d = tt
    go false p true q true d = tt
    go false p true q false d = (ltb-false _ _ p, λ fits. omega (arith, ltb-true (tid_of s) 32768 q))
    go false p false q c true = tt
    go false p false q c false = (ltb-false _ _ p, λ fits. omega (arith, ltb-false (tid_of s) 32768 q))

pub named_aimed : (s : List ℕ) (role : Role) (tid : ℕ) → name_of s ≡ Some (role, tid) → (3 ≤ length s) × (tid_of s < 65536 → tid_of s ≡ rcv_tid role tid)
named_aimed s role tid e = rw e at (name_aimed s)

low_bits : (tid : ℕ) → tid < 32768 → (tid + 32768) % 32768 ≡ tid
low_bits tid h = omega arith

all_bits : (tid : ℕ) → tid < 32768 → tid % 32768 ≡ tid
all_bits tid h = omega arith

module _ (s : List ℕ) (long : 3 ≤ length s) where
  -- 01: "names the record of its peer and low 15 TID bits, as initiator when the top bit is 1"
  pub names_record : (role : Role) (tid : ℕ) → tid < 32768 → tid_of s ≡ rcv_tid role tid → (type_of s ≡ ignored_type role → ⊥) → name_of s ≡ Some (role, tid)
  unfolding name_of
  names_record Initiator tid h e n = simp (le-ltb _ _ long, e, le-ltb (tid + 32768) 32768 (omega arith), ne_eqb _ _ n, low_bits tid h)
  names_record Responder tid h e n = simp (le-ltb _ _ long, e, lt-ltb tid 32768 h, ne_eqb _ _ n, all_bits tid h)

  -- 01: "Invoke with top bit 1, or Result with 0, is ignored before any test"
  pub ignored : (role : Role) (tid : ℕ) → tid < 32768 → tid_of s ≡ rcv_tid role tid → type_of s ≡ ignored_type role → name_of s ≡ None
  unfolding name_of
  ignored Initiator tid h e n = simp (le-ltb _ _ long, e, le-ltb (tid + 32768) 32768 (omega arith), eq-eqb _ _ n)
  ignored Responder tid h e n = simp (le-ltb _ _ long, e, lt-ltb tid 32768 h, eq-eqb _ _ n)

  -- what a record writes names the record at the other end, with the same TID
  pub names_other_end : (role : Role) (tid : ℕ) → tid < 32768 → tid_of s ≡ send_tid role tid → (type_of s ≡ ignored_type (other_end role) → ⊥) → name_of s ≡ Some (other_end role, tid)
  names_other_end Initiator tid h e n = names_record Responder tid h e n
  names_other_end Responder tid h e n = names_record Initiator tid h e n

-- an Invoke that may open a record names a responder's
pub invoke_names_responder : (s : List ℕ) → invokes_us s ≡ true → name_of s ≡ Some (Responder, tid_of s)
unfolding invokes_us
invoke_names_responder s = go (ltb (length s) 3) refl (eqb (type_of s) 1) refl (ltb (tid_of s) 32768) refl
  where
    go : (a : Bool) → ltb (length s) 3 ≡ a → (b : Bool) → eqb (type_of s) 1 ≡ b → (c : Bool) → ltb (tid_of s) 32768 ≡ c
        → pick a false (pick b c false) ≡ true → name_of s ≡ Some (Responder, tid_of s)
    go true p b q c r e = true_false (sym e)
    go false p false q c r e = true_false (sym e)
    go false p true q false r e = true_false (sym e)
    go false p true q true r e =
        let t : type_of s ≡ 1 = eqb-true _ _ q in
        names_record s (ltb-false _ _ p) Responder (tid_of s) (ltb-true _ _ r) refl (λ (x : type_of s ≡ 2). absurd (omega arith))
