-- The test of number 6 tells its condition. Assumes nothing.
use Prim.Native.Nat.{ℕ, ◌≤◌}
use native.Mathlib.Omega.{arith}
use mathlib.Core.Path.{◌≡◌, refl}
use mathlib.Core.List.{List}
use mathlib.Core.Bool.{true, false}
use Rattle.base_numbers.specs.declared.Refusal.TheVariants.{TidInUse}
use Rattle.table_record.specs.Record.{state_number}
use Rattle.table_record.specs.declared.State.{State}
use Rattle.table_record.specs.declared.State.TheVariants.{Free}
use Rattle.table_layout.specs.Table.{count, gen_tid_of, record_at}
use Rattle.table_finding.specs.Finding.{tid_in_use}
use Rattle.table_finding.proofs.Searches.{tid_used, tid_unused}
use Rattle.call_refusal.specs.Judging.{test, condition}
use Rattle.call_refusal.specs.Told.{Tells}
use Rattle.law_places.proofs.Places.{live_number}
use Rattle.call_request.specs.Requests.{UsesGenTid}

-- a live state isn't free
pub not_free : (s : State) → 1 ≤ state_number s → s ≡ Free → ⊥
not_free s h e =
    let l : 1 ≤ state_number Free = rw e at h in
    absurd (omega arith)

module _ (t : List ℕ) where
  -- number 6
  pub tells_in_use : Tells (test TidInUse (tid_in_use t (count t) (gen_tid_of t))) (condition TidInUse ((i : ℕ) × UsesGenTid t i))
  tells_in_use = (refl, yes, no)
    where
      yes : tid_in_use t (count t) (gen_tid_of t) ≡ true → (i : ℕ) × UsesGenTid t i
      yes e =
          let u = tid_used t (count t) (gen_tid_of t) e in
          let s = u.1.is_so in
          (u.0, record { inside = u.1.below; live = live_number (record_at t u.0).state s.live; initiator = s.role_is; tid = s.tid_is })

      no : tid_in_use t (count t) (gen_tid_of t) ≡ false → (i : ℕ) × UsesGenTid t i → ⊥
      no e (i, u) =
          tid_unused t (count t) (gen_tid_of t) e i u.inside (record { live = not_free (record_at t i).state u.live; role_is = u.initiator; tid_is = u.tid })
