-- 02, L2: a class 2 request, TID 5, no data: 0E 00 05 22 from a fresh table, 0E 00 05 02 where TIDnew isn't due, whatever the time and the peer. Assumes nothing.
use Prim.Native.Nat.{ℕ, ◌+◌, ◌*◌}
use mathlib.Core.Path.{◌≡◌, refl, ap, ◌∙◌}
use mathlib.Core.Bool.{Bool, true, false}
use mathlib.Core.List.{[], ◌∷◌}
use lib.ListN.{length}
use Rattle.base_lists.specs.Seq.{bit}
use Rattle.table_layout.specs.Table.{gen_tid_of, tidnew_due_of}
use Rattle.table_tids.specs.Tids.{carries_tidnew}
use Rattle.law_fresh_formed.proofs.Formed.{fresh_ok}
use Rattle.step_sending.specs.Sending.{tid_of}
use Rattle.step_plan.specs.Steps.{sender_of}
use Rattle.step_plan.specs.declared.Step.{Step}
use Rattle.call_request.specs.Requests.{requester}
use Rattle.call_request.proofs.Accepted.{place_of, request_accepted}
use Rattle.step_outcome.specs.Carry.{Lent, sent_then}
use Rattle.call_plans.specs.Calls.{as_request}
use Rattle.law_tidnew.proofs.Wire.{request_octets}
use Rattle.law_starred.specs.Starred.{Says, Requested, first, later}

asked : (l : Lent) (time peer : ℕ) (step : Step) (due : Bool) → tidnew_due_of l.table ≡ due → gen_tid_of l.table ≡ 5 → Requested l time peer step → sent_then l step ≡ 0x0E ∷ 0x00 ∷ 0x05 ∷ (bit due * 32 + 0 + 2) ∷ []
unfolding sender_of requester tid_of carries_tidnew
asked l time peer step due d g p =
    let q = as_request time peer 2 false 0 in
    let a = request_accepted l.table (length l.store) (length l.output) q step p in
    rw a.step_is (request_octets l (place_of l.table) q ∙ rw (d, g) refl)

pub first_case : Says (first (0x0E ∷ 0x00 ∷ 0x05 ∷ 0x22 ∷ []))
unfolding Says
first_case l old settings time peer step made is p =
    let f = fresh_ok old settings 5 made in
    asked l time peer step true (ap tidnew_due_of is ∙ f.tidnew_due) (ap gen_tid_of is ∙ f.gen_tid) p

pub later_case : Says (later (0x0E ∷ 0x00 ∷ 0x05 ∷ 0x02 ∷ []))
unfolding Says
later_case l time peer step due g p = asked l time peer step false due g p
