-- What each exported function's own contract says is what a session is made of, by identity: the theorem speaks of the code. Assumes nothing.
use Prim.Native.Nat.{ℕ}
use mathlib.Core.Path.{refl}
use mathlib.Core.List.{[]}
use lib.ListN.{length}
use lib.Dec.{ltb}
use contract.Lifetimes.{Lfts}
use denote.Triple.Clauses.{AtExit}
use borrow.Fn.Kinds.{ended_of}
use borrow.Fn.World.{ArgsD, ResD}
use Rattle.step_outcome.specs.Carry.{lent}
use Rattle.call_plans.specs.Calls.{Call}
use Rattle.wtp.specs.Engine.{called}
use Rattle.law_exported.specs.Session.{Keeps}
use Rattle.wtp.specs.contracts.wtp_request as request
use Rattle.wtp.proofs.wtp_request.Reads as request-reads
use Rattle.wtp.proofs.wtp_request.Kinds as request-kinds
use Rattle.wtp.specs.contracts.wtp_answer as answer
use Rattle.wtp.proofs.wtp_answer.Reads as answer-reads
use Rattle.wtp.proofs.wtp_answer.Kinds as answer-kinds
use Rattle.wtp.specs.contracts.wtp_result as result
use Rattle.wtp.proofs.wtp_result.Reads as result-reads
use Rattle.wtp.proofs.wtp_result.Kinds as result-kinds
use Rattle.wtp.specs.contracts.wtp_abort as abort
use Rattle.wtp.proofs.wtp_abort.Reads as abort-reads
use Rattle.wtp.proofs.wtp_abort.Kinds as abort-kinds
use Rattle.wtp.specs.contracts.wtp_receive as receive
use Rattle.wtp.proofs.wtp_receive.Reads as receive-reads
use Rattle.wtp.proofs.wtp_receive.Kinds as receive-kinds
use Rattle.wtp.specs.contracts.wtp_timer as timer
use Rattle.wtp.proofs.wtp_timer.Reads as timer-reads
use Rattle.wtp.proofs.wtp_timer.Kinds as timer-kinds
use Rattle.wtp.specs.contracts.wtp_fire as fire
use Rattle.wtp.proofs.wtp_fire.Reads as fire-reads
use Rattle.wtp.proofs.wtp_fire.Kinds as fire-kinds

-- `wtp_request`
pub request_keeps : (κs : Lfts 5) (a : ArgsD request.signature κs) (r : ResD request.signature κs) (x : AtExit (ended_of 5 request-kinds.ps request-kinds.r) κs) → request-reads.Learnt κs a r x
    → Keeps (record {
      call = Call.Request a.1.1.1.1.0 a.1.1.1.1.1.0 a.1.1.1.1.1.1.0 (ltb 0 a.1.1.1.1.1.1.1.0);
      lent = lent a.0.now a.1.0.now a.1.1.0.now a.1.1.1.1.1.1.1.1.0.now [];
      words = a.1.1.1.0.now;
      seen = called r x.0.now x.1.0.now x.1.1.0.now x.1.1.1.0.now;
    })
request_keeps κs a r x k = record { lends = refl; keeps = k }

-- `wtp_answer`
pub answer_keeps : (κs : Lfts 5) (a : ArgsD answer.signature κs) (r : ResD answer.signature κs) (x : AtExit (ended_of 5 answer-kinds.ps answer-kinds.r) κs) → answer-reads.Learnt κs a r x
    → Keeps (record {
      call = Call.Answer a.1.1.1.1.0 a.1.1.1.1.1.0 a.1.1.1.1.1.1.0 a.1.1.1.1.1.1.1.0;
      lent = lent a.0.now a.1.0.now a.1.1.0.now [] a.1.1.1.1.1.1.1.1.0.now;
      words = a.1.1.1.0.now;
      seen = called r x.0.now x.1.0.now x.1.1.0.now x.1.1.1.0.now;
    })
answer_keeps κs a r x k = record { lends = refl; keeps = k }

-- `wtp_result`
pub result_keeps : (κs : Lfts 5) (a : ArgsD result.signature κs) (r : ResD result.signature κs) (x : AtExit (ended_of 5 result-kinds.ps result-kinds.r) κs) → result-reads.Learnt κs a r x
    → Keeps (record {
      call = Call.Result a.1.1.1.1.0 a.1.1.1.1.1.0 a.1.1.1.1.1.1.0 a.1.1.1.1.1.1.1.0;
      lent = lent a.0.now a.1.0.now a.1.1.0.now a.1.1.1.1.1.1.1.1.0.now [];
      words = a.1.1.1.0.now;
      seen = called r x.0.now x.1.0.now x.1.1.0.now x.1.1.1.0.now;
    })
result_keeps κs a r x k = record { lends = refl; keeps = k }

-- `wtp_abort`
pub abort_keeps : (κs : Lfts 4) (a : ArgsD abort.signature κs) (r : ResD abort.signature κs) (x : AtExit (ended_of 4 abort-kinds.ps abort-kinds.r) κs) → abort-reads.Learnt κs a r x
    → Keeps (record {
      call = Call.Abort a.1.1.1.1.0 a.1.1.1.1.1.0 a.1.1.1.1.1.1.0 a.1.1.1.1.1.1.1.0 a.1.1.1.1.1.1.1.1.0;
      lent = lent a.0.now a.1.0.now a.1.1.0.now [] [];
      words = a.1.1.1.0.now;
      seen = called r x.0.now x.1.0.now x.1.1.0.now x.1.1.1.0.now;
    })
abort_keeps κs a r x k = record { lends = (refl, refl); keeps = k }

-- `wtp_receive`
pub receive_keeps : (κs : Lfts 5) (a : ArgsD receive.signature κs) (r : ResD receive.signature κs) (x : AtExit (ended_of 5 receive-kinds.ps receive-kinds.r) κs) → receive-reads.Learnt κs a r x
    → Keeps (record {
      call = Call.Receive a.1.1.1.1.0 a.1.1.1.1.1.0;
      lent = lent a.0.now a.1.0.now a.1.1.0.now a.1.1.1.1.1.1.0.now [];
      words = a.1.1.1.0.now;
      seen = called r x.0.now x.1.0.now x.1.1.0.now x.1.1.1.0.now;
    })
receive_keeps κs a r x k = record { lends = refl; keeps = k }

-- `wtp_timer`
pub timer_keeps : (κs : Lfts 4) (a : ArgsD timer.signature κs) (r : ResD timer.signature κs) (x : AtExit (ended_of 4 timer-kinds.ps timer-kinds.r) κs) → timer-reads.Learnt κs a r x
    → Keeps (record {
      call = Call.Timer a.1.1.1.1.0;
      lent = lent a.0.now a.1.0.now a.1.1.0.now [] [];
      words = a.1.1.1.0.now;
      seen = called r x.0.now x.1.0.now x.1.1.0.now x.1.1.1.0.now;
    })
timer_keeps κs a r x k = record { lends = (refl, refl); keeps = k }

-- `wtp_fire`
pub fire_keeps : (κs : Lfts 4) (a : ArgsD fire.signature κs) (r : ResD fire.signature κs) (x : AtExit (ended_of 4 fire-kinds.ps fire-kinds.r) κs) → fire-reads.Learnt κs a r x
    → Keeps (record {
      call = Call.Fire a.1.1.1.1.0 a.1.1.1.1.1.0 a.1.1.1.1.1.1.0 a.1.1.1.1.1.1.1.0;
      lent = lent a.0.now a.1.0.now a.1.1.0.now [] [];
      words = a.1.1.1.0.now;
      seen = called r x.0.now x.1.0.now x.1.1.0.now x.1.1.1.0.now;
    })
fire_keeps κs a r x k = record { lends = (refl, refl); keeps = k }
