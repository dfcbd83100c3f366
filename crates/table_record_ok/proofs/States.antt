-- The octet of a record's state: 1 to 11 are the live states, and no other number is one. Assumes nothing.
use mathlib.Core.Path.{◌≡◌, refl, ap, ◌∙◌}
use mathlib.Core.List.{List}
use mathlib.Core.Bool.{false}
use mathlib.Core.Logic.{◌⊎◌, inl, inr}
use Prim.Native.Nat.{ℕ, ◌+◌, ◌≤◌, ◌<◌}
use native.Mathlib.Omega.{arith}
use lib.ListN.{get_or}
use lib.Dec.{eqb}
use borrow.Author.Tests.{eqb-true, ne_eqb}
use Rattle.base_layout.specs.Layout.{base, state_bound}
use Rattle.base_lists.proofs.StoresAndParts.{every_at, lt_or_le}
use Rattle.base_lists.specs.Seq.{every}
use Rattle.base_octets.specs.Octets.{gets}
use Rattle.table_record.specs.Record.{state_number, state_of, decoded}
use Rattle.table_record.specs.declared.State.TheVariants.{Free}
use Rattle.table_layout.specs.Table.{record_at}
use Rattle.table_record_ok.specs.OneRecord.{Live}

-- computed for all twelve
number_back : (n : ℕ) → n ≤ state_bound → state_number (state_of n) ≡ n
unfolding every state_of
number_back n h = eqb-true _ _ (every_at (λ n. eqb (state_number (state_of n)) n) (state_bound + 1) refl n (omega arith))

none_beyond : (n : ℕ) → state_bound < n → state_of n ≡ Free
unfolding state_of
none_beyond n h = simp (not 1 (omega arith), not 2 (omega arith), not 3 (omega arith), not 4 (omega arith), not 5 (omega arith), not 6 (omega arith), not 7 (omega arith), not 8 (omega arith), not 9 (omega arith), not 10 (omega arith), not 11 (omega arith)) where
  not : (k : ℕ) → k ≤ state_bound → eqb n k ≡ false
  not k l = ne_eqb n k (λ (e : n ≡ k). omega arith)

-- the state of a record is that of its first octet
pub state_octet : (t : List ℕ) (i : ℕ) → (record_at t i).state ≡ state_of (get_or t (base i) 0)
unfolding record_at decoded gets
state_octet t i = refl

pub octet_known : (t : List ℕ) (i : ℕ) → get_or t (base i) 0 ≤ state_bound → state_number (record_at t i).state ≡ get_or t (base i) 0
octet_known t i h = ap state_number (state_octet t i) ∙ number_back _ h

-- a live record has one of the numbers 1 to 11
pub octet_live : (t : List ℕ) (i : ℕ) → Live (record_at t i) → (1 ≤ get_or t (base i) 0) × (get_or t (base i) 0 ≤ state_bound)
octet_live t i h = go (lt_or_le state_bound (get_or t (base i) 0)) where
  go : (state_bound < get_or t (base i) 0) ⊎ (get_or t (base i) 0 ≤ state_bound) → (1 ≤ get_or t (base i) 0) × (get_or t (base i) 0 ≤ state_bound)
  go (inl l) =
      let e : state_number (record_at t i).state ≡ 0 = ap state_number (state_octet t i ∙ none_beyond _ l) in
      absurd (omega arith)
  go (inr l) = (omega (arith, octet_known t i l), l)
