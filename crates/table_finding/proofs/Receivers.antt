-- The record towards which a peer writes a TID is the one that this TID names. Assumes nothing.
use mathlib.Core.Path.{◌≡◌, refl, sym, ap, ◌∙◌}
use mathlib.Core.List.{List}
use mathlib.Core.Bool.{Bool, true, false}
use mathlib.Core.Logic.{◌⊎◌, inl, inr}
use Prim.Native.Nat.{ℕ, zero, suc, ◌+◌, ◌%◌, ◌<◌}
use native.Mathlib.Omega.{arith}
use lib.Dec.{eqb}
use borrow.Author.Tests.{eqb-true, eqb-false, eq-eqb, ne_eqb}
use Rattle.base_layout.specs.Layout.{tid_count}
use Rattle.base_lists.specs.Seq.{pick}
use Rattle.base_lists.proofs.StoresAndParts.{told}
use Rattle.base_tids.specs.declared.RcvTid.{RcvTid}
use Rattle.table_record.specs.Record.{state_number, rcv_tid}
use Rattle.table_record.specs.declared.Role.{Role}
use Rattle.table_record.specs.declared.Role.TheVariants.{Initiator, Responder}
use Rattle.table_record.specs.declared.Record.{Record}
use Rattle.table_layout.specs.Table.{record_at}
use Rattle.table_finding.specs.Finding.{first, has_role, is_named, is_receiver, named_of, receiver_of}

-- a role's TIDs with their top bit differ as the TIDs do
same_tids : (role : Role) (a b : ℕ) → eqb (rcv_tid role a) (rcv_tid role b) ≡ eqb a b
same_tids Responder a b = refl
same_tids Initiator a b = go (told (eqb a b))
  where
    go : (eqb a b ≡ true) ⊎ (eqb a b ≡ false) → eqb (a + 32768) (b + 32768) ≡ eqb a b
    go (inl e) = eq-eqb _ _ (ap (λ (x : ℕ). x + 32768) (eqb-true a b e)) ∙ sym e
    go (inr e) = ne_eqb _ _ (λ (x : a + 32768 ≡ b + 32768). eqb-false a b e (omega arith)) ∙ sym e

all_bits : (a : ℕ) → a < 32768 → a % 32768 ≡ a
all_bits a h = omega arith

module _ (role : Role) (peer tid : ℕ) (rcv : RcvTid) (r : Record) where
  -- a record whose TID has 15 bits
  pub live_receiver : rcv.0 ≡ rcv_tid role tid → r.tid < tid_count → is_receiver role peer rcv r ≡ is_named role peer tid r
  unfolding is_receiver is_named
  live_receiver e h = simp (e, all_bits r.tid h, same_tids role r.tid tid)

  -- a free record is neither
  pub free_receiver : state_number r.state ≡ 0 → is_receiver role peer rcv r ≡ is_named role peer tid r
  unfolding is_receiver is_named has_role
  free_receiver e = rw e (go (eqb (rcv_tid role (r.tid % tid_count)) rcv.0) (eqb r.tid tid) (eqb r.peer peer))
    where
      go : (a b c : Bool) → pick a (pick c false false) false ≡ pick b (pick c false false) false
      go true true c = refl
      go true false true = refl
      go true false false = refl
      go false true true = refl
      go false true false = refl
      go false false c = refl

-- what holds of the same places is found at the same place
same_first : (p q : ℕ → Bool) (k i : ℕ) → ((m : ℕ) → m < i + k → p m ≡ q m) → first p k i ≡ first q k i
unfolding first
same_first p q zero i h = refl
same_first p q (suc k) i h = rw (h i (omega arith), same_first p q k (i + 1) (λ m l. h m (omega arith))) refl

module _ (t : List ℕ) (n : ℕ) (role : Role) (peer tid : ℕ) (rcv : RcvTid) where
  pub same_found : ((i : ℕ) → i < n → is_receiver role peer rcv (record_at t i) ≡ is_named role peer tid (record_at t i)) → receiver_of t n role peer rcv ≡ named_of t n role peer tid
  unfolding receiver_of named_of
  same_found h = same_first (λ (i : ℕ). is_receiver role peer rcv (record_at t i)) (λ (i : ℕ). is_named role peer tid (record_at t i)) n 0 (λ m l. h m (omega arith))
