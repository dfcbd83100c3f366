-- The dispatch of a received PDU, said another way: what is ignored, what the live record takes, what comes without one. Assumes nothing.
use Prim.Native.Nat.{ℕ, ◌≤◌, ◌<◌}
use mathlib.Core.Path.{◌≡◌, refl}
use mathlib.Core.List.{List}
use mathlib.Core.Bool.{Bool, true, false}
use lib.ListN.{length}
use lib.Dec.{ltb}
use borrow.Author.Tests.{lt-ltb, le-ltb, eq-eqb}
use Rattle.std.specs.Prelude.{Option, Some, None}
use Rattle.base_lists.specs.Seq.{pick}
use Rattle.codec_reading.specs.Read.{type_of, pdu_of}
use Rattle.table_record.specs.declared.Role.{Role}
use Rattle.table_layout.specs.Table.{count}
use Rattle.table_finding.specs.Finding.{named_of}
use Rattle.step_arrivals.specs.Arrivals.{tid_of, name_of}
use Rattle.step_plan.specs.Steps.{idle_step}
use Rattle.call_receive.specs.Receives.{taken_step, unmatched_step, naming_step, receive_step}

-- either way the same
either : (b : Bool) (n : Option (Role × ℕ)) → pick b n n ≡ n
either true n = refl
either false n = refl

module _ (t : List ℕ) (time peer : ℕ) (s : List ℕ) where
  pub nobody_idle : name_of s ≡ None → receive_step t time peer s ≡ idle_step time
  unfolding receive_step
  nobody_idle e = rw e refl

  short_nobody : length s < 3 → name_of s ≡ None
  unfolding name_of
  short_nobody h = simp (lt-ltb _ _ h)

  invoke_nobody : type_of s ≡ 1 → 32768 ≤ tid_of s → name_of s ≡ None
  unfolding name_of
  invoke_nobody e h = simp (le-ltb _ _ h, eq-eqb _ _ e, either (ltb (length s) 3) None)

  result_nobody : type_of s ≡ 2 → tid_of s < 32768 → name_of s ≡ None
  unfolding name_of
  result_nobody e h = simp (lt-ltb _ _ h, eq-eqb _ _ e, either (ltb (length s) 3) None)

  -- 01: "a shorter one names none"
  pub short_idle : length s < 3 → receive_step t time peer s ≡ idle_step time
  short_idle h = nobody_idle (short_nobody h)

  -- 01: "Invoke with top bit 1, or Result with 0, is ignored before any test, malformed or not"
  pub invoke_ignored : type_of s ≡ 1 → 32768 ≤ tid_of s → receive_step t time peer s ≡ idle_step time
  invoke_ignored e h = nobody_idle (invoke_nobody e h)

  pub result_ignored : type_of s ≡ 2 → tid_of s < 32768 → receive_step t time peer s ≡ idle_step time
  result_ignored e h = nobody_idle (result_nobody e h)

  -- the live record that is named takes the PDU
  pub live_takes : (role : Role) (tid i : ℕ) → name_of s ≡ Some (role, tid) → named_of t (count t) role peer tid ≡ Some i → receive_step t time peer s ≡ taken_step t i time (pdu_of s)
  unfolding receive_step naming_step
  live_takes role tid i e found = rw (e, found) refl

  -- where there is none the PDU comes without one
  pub none_takes : (role : Role) (tid : ℕ) → name_of s ≡ Some (role, tid) → named_of t (count t) role peer tid ≡ None → receive_step t time peer s ≡ unmatched_step t role peer tid time s (pdu_of s)
  unfolding receive_step naming_step
  none_takes role tid e found = rw (e, found) refl
