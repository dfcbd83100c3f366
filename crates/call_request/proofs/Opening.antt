-- The step of a request as the opening that the code makes. Assumes nothing.
use Prim.Native.Nat.{ℕ, ◌%◌, ◌≤◌, ◌<◌}
use mathlib.Core.Path.{◌≡◌}
use mathlib.Core.List.{List}
use Rattle.base_layout.specs.Layout.{time_bound, records_bound}
use Rattle.table_well_formed.specs.WellFormed.{WellFormed}
use Rattle.row_choice.specs.Rows.{requested_of}
use Rattle.step_carrying.specs.Coming.{coming_step, InRange}
use Rattle.step_carrying.proofs.Steps.{opens_is, opens_in_range}
use Rattle.call_request.specs.Requests.{requester, counted_by, request_given, request_call, request_step, request_opens}
use Rattle.call_request.specs.declared.Request.{Request}

module _ (t : List ℕ) (place : ℕ) (q : Request) where
  pub step_is : request_step t place q ≡ coming_step t (request_opens t place q) (request_given q) (request_call q)
  unfolding request_step request_opens
  step_is = opens_is t (requested_of (q.class % 256)) (requester t place q) (request_given q) (counted_by t q) (request_call q)

  pub in_range_holds : WellFormed t → place < records_bound → q.time ≤ time_bound → InRange t (request_opens t place q) (request_given q)
  unfolding request_opens requester request_given
  in_range_holds w small time = opens_in_range t (requested_of (q.class % 256)) (requester t place q) (counted_by t q) (request_given q) w.header.gen_tid small time
