-- A TID is valid exactly when it is 1 to 16,383 steps ahead of LastTID, and R[RCR] is read at its place. Assumes nothing.
use Rattle.std.proofs.Common.{◌≡◌, ℕ, ◌+◌, ◌-◌, ◌%◌, ◌<◌, ◌≤◌, Bool, true, false, eqb, leb, List, [], get_or, refl, arith, ne_eqb, le-leb, leb-true}
use Rattle.base_lists.specs.Seq.{pick}
use Rattle.table_tids.specs.Tids.{distance, test_of, row_number, interval_of}
use Rattle.table_tids.specs.declared.Test.TheVariants.{Valid, Verified}
use Rattle.table_tids.proofs.Distance.{unique}

pub nothing_cached : (tid : ℕ) → test_of 0 tid ≡ Verified
unfolding test_of
nothing_cached tid = refl

never : {A : Type 0} → Verified ≡ Valid → A
never e = let z : ◌≡◌ {A = ℕ} 0 1 = cc in absurd (omega arith)

-- both tests of the distance were passed
passed : (a b c : Bool) → pick a Verified (pick b (pick c Valid Verified) Verified) ≡ Valid → (b ≡ true) × (c ≡ true)
passed true b c v = never v
passed false true true v = (refl, refl)
passed false true false v = never v
passed false false c v = never v

module _ (last tid : ℕ) where
  pub ahead_is_valid : (d : ℕ) → 1 ≤ d → d ≤ 16383 → (last + d) % 32768 ≡ tid % 32768 → test_of (last + 1) tid ≡ Valid
  unfolding test_of
  ahead_is_valid d l h e =
      let s : last + 1 - 1 ≡ last = omega arith in
      let i : d ≡ distance tid last = unique tid last d (omega arith) e in
      let z : eqb (last + 1) 0 ≡ false = ne_eqb (last + 1) 0 (λ (n : last + 1 ≡ 0). omega arith) in
      simp (s, z, ← i, le-leb 1 d l, le-leb d 16383 h)

  pub valid_is_ahead : test_of (last + 1) tid ≡ Valid → (1 ≤ distance tid last) × (distance tid last ≤ 16383)
  unfolding test_of
  valid_is_ahead v =
      let s : last + 1 - 1 ≡ last = omega arith in
      let d : ℕ = distance tid (last + 1 - 1) in
      let p = passed (eqb (last + 1) 0) (leb 1 d) (leb d 16383) v in
      (rw s at (leb-true 1 d p.0), rw s at (leb-true d 16383 p.1))

pub interval_at_holds : (rows : List (List ℕ)) (class n : ℕ) → n < 9 → interval_of rows class (record { 0 = n }) ≡ get_or (get_or rows (row_number class) []) n 0
unfolding interval_of
interval_at_holds rows class n h =
    let e : n % 9 ≡ n = omega arith in
    rw e refl
