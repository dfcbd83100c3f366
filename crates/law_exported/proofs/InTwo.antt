-- The timer call in two, of the exported functions: their own contracts are what is spoken of, by identity. Assumes nothing.
use Prim.Native.Nat.{ℕ}
use native.Mathlib.Omega.{arith}
use borrow.Author.Tests.{ne_eqb}
use mathlib.Core.Path.{◌≡◌, refl, sym, ap, ◌∙◌}
use mathlib.Core.Bool.{Bool, true, false}
use mathlib.Core.List.{List, []}
use lib.ListN.{length, get_or}
use lib.Dec.{ltb}
use contract.Lifetimes.{Lfts}
use denote.Triple.Clauses.{AtExit}
use borrow.Fn.Kinds.{ended_of}
use borrow.Fn.World.{ArgsD, ResD}
use Rattle.std.specs.Prelude.{Ok, Err}
use Rattle.codec_items.specs.Unknown.{no_unknown}
use Rattle.base_layout.specs.Layout.{answer_size}
use Rattle.base_lists.specs.Seq.{pick}
use Rattle.base_numbers.specs.Numbers.{number_of}
use Rattle.base_numbers.specs.declared.Refusal.{Refusal}
use Rattle.base_numbers.specs.declared.Refusal.TheVariants as Refusal
use Rattle.base_numbers.specs.declared.Refusal.TheVariants.{WrongSize}
use Rattle.step_plan.specs.declared.Step.{Step}
use Rattle.step_plan.specs.Steps.{Plan}
use Rattle.step_outcome.specs.Carry.{Lent, lent, outcome}
use Rattle.call_plans.specs.Calls.{Call, plan_for, promised}
use Rattle.c_answers.specs.Answers.{answer_number, answer_after, more_words, told_after}
use Rattle.law_timer_in_two.specs.InTwo.{SomeDue}
use Rattle.law_timer_in_two.proofs.Deadlines.{deadline_given}
use Rattle.law_timer_in_two.proofs.InTwo.{plan_in_two, fire_refused, none_due}
use Rattle.wtp.specs.Engine.{Called, called, handed, costed, handed_by, told, or_small, item_told, called_by}
use Rattle.wtp.specs.contracts.wtp_timer as timer
use Rattle.wtp.proofs.wtp_timer.Reads as timer-reads
use Rattle.wtp.proofs.wtp_timer.Kinds as timer-kinds
use Rattle.wtp.specs.contracts.wtp_deadline as deadline
use Rattle.wtp.proofs.wtp_deadline.Reads as deadline-reads
use Rattle.wtp.proofs.wtp_deadline.Kinds as deadline-kinds
use Rattle.wtp.specs.contracts.wtp_fire as fire
use Rattle.wtp.proofs.wtp_fire.Reads as fire-reads
use Rattle.wtp.proofs.wtp_fire.Kinds as fire-kinds
use Rattle.law_exported.specs.InTwo.{InTwo, KeepsTwo, OnlyTimer}

-- WHERE A RECORD IS DUE, wtp_timer EQUALS wtp_deadline AND THEN wtp_fire OF THE RECORD THAT IT TOLD: in result, table, store, output and every word of the answer
pub exported_in_two : (x : InTwo) → KeepsTwo x → x.result ≡ 0 → SomeDue x.table x.time → x.old ≡ x.new
unfolding item_told
exported_in_two x k accepted some =
    let l = lent x.table x.store x.output [] [] in
    let g = deadline_given x.table x.due (sym k.deadline.0 ∙ accepted) in
    let e = plan_in_two l x.due x.time g.0 g.1 some in
    k.timer ∙ ap (λ (p : Plan). or_small l x.words (handed_by l p x.words) (more_words no_unknown)) (rw k.deadline.1 e) ∙ sym k.fire

-- a refusal's number is over 0
refused_over_0 : (r : Refusal) → number_of r ≡ 0 → ⊥
refused_over_0 Refusal.WrongSize e = absurd (omega (arith, e))
refused_over_0 Refusal.WrongTime e = absurd (omega (arith, e))
refused_over_0 Refusal.PeerTooLarge e = absurd (omega (arith, e))
refused_over_0 Refusal.TooLong e = absurd (omega (arith, e))
refused_over_0 Refusal.WrongClass e = absurd (omega (arith, e))
refused_over_0 Refusal.TidInUse e = absurd (omega (arith, e))
refused_over_0 Refusal.TableFull e = absurd (omega (arith, e))
refused_over_0 Refusal.NoRecord e = absurd (omega (arith, e))
refused_over_0 Refusal.NotAllowed e = absurd (omega (arith, e))
refused_over_0 Refusal.WrongSetting e = absurd (omega (arith, e))
refused_over_0 Refusal.WrongLength e = absurd (omega (arith, e))
refused_over_0 Refusal.WrongHeader e = absurd (omega (arith, e))
refused_over_0 Refusal.WrongFrame e = absurd (omega (arith, e))

-- a call that gives 0 goes
module _ (c : Call) (l : Lent) (words : List ℕ) where
  gone : (plan : Plan) → plan_for c l ≡ plan → answer_number (outcome l plan).answer ≡ 0 → (step : Step) × (plan_for c l ≡ Ok step)
  unfolding outcome answer_number
  gone (Ok step) e h = (step, e)
  gone (Err r) e h = absurd (refused_over_0 r h)

  pub gives_0 : (called_by c l words).result ≡ 0 → (ltb (length words) answer_size ≡ false) × ((step : Step) × (plan_for c l ≡ Ok step))
  unfolding or_small handed_by handed told
  gives_0 = go (ltb (length words) answer_size) refl
    where
      go : (b : Bool) → ltb (length words) answer_size ≡ b → (pick b (called (number_of WrongSize) l.table l.store l.output words) (told (handed_by l (plan_for c l) words) (more_words (item_told c l)))).result ≡ 0 → (ltb (length words) answer_size ≡ false) × ((step : Step) × (plan_for c l ≡ Ok step))
      go true e h = absurd (omega (arith, h))
      go false e h = (e, gone (plan_for c l) refl h)

-- WHERE NONE IS DUE, wtp_timer STORES ITS TIME, AND wtp_fire IS REFUSED WHATEVER RECORD IS NAMED
module _ (l : Lent) (words : List ℕ) (time : ℕ) (none : SomeDue l.table time → ⊥) (accepted : (called_by (Call.Timer time) l words).result ≡ 0) where
  pub exported_none_due : OnlyTimer l words time
  unfolding or_small handed_by handed costed told told_after answer_number answer_after promised outcome
  exported_none_due =
      let g = gives_0 (Call.Timer time) l words accepted in
      let n = none_due l time none g.1.0 g.1.1 in
      record {
        stores = rw g.0 n.stores;
        refused = λ role peer tid.
            let f = fire_refused l time none role peer tid in
            rw (g.0, f.1, ne_eqb (number_of f.0) 0 (refused_over_0 f.0)) (refused_over_0 f.0, refl);
      }

-- the three functions, called so, are what that speaks of
module _ (κs : Lfts 4) (a : ArgsD timer.signature κs) (r : ResD timer.signature κs) (x : AtExit (ended_of 4 timer-kinds.ps timer-kinds.r) κs)
    (λs : Lfts 2) (b : ArgsD deadline.signature λs) (s : ResD deadline.signature λs) (y : AtExit (ended_of 2 deadline-kinds.ps deadline-kinds.r) λs)
    (μs : Lfts 4) (c : ArgsD fire.signature μs) (u : ResD fire.signature μs) (z : AtExit (ended_of 4 fire-kinds.ps fire-kinds.r) μs) where
  abbrev two : InTwo
  two = record {
    table = a.0.now;
    store = a.1.0.now;
    output = a.1.1.0.now;
    words = a.1.1.1.0.now;
    time = a.1.1.1.1.0;
    due = b.1.0.now;
    result = s;
    told = y.1.0.now;
    old = called r x.0.now x.1.0.now x.1.1.0.now x.1.1.1.0.now;
    new = called u z.0.now z.1.0.now z.1.1.0.now z.1.1.1.0.now;
  }

  pub two_keep : timer-reads.Learnt κs a r x → deadline-reads.Learnt λs b s y → fire-reads.Learnt μs c u z
      → b.0.now ≡ a.0.now → c.0.now ≡ a.0.now → c.1.0.now ≡ a.1.0.now → c.1.1.0.now ≡ a.1.1.0.now → c.1.1.1.0.now ≡ a.1.1.1.0.now → c.1.1.1.1.0 ≡ a.1.1.1.1.0
      → c.1.1.1.1.1.0 ≡ get_or y.1.0.now 2 0 → c.1.1.1.1.1.1.0 ≡ get_or y.1.0.now 3 0 → c.1.1.1.1.1.1.1.0 ≡ get_or y.1.0.now 4 0 → KeepsTwo two
  two_keep t d f table table₂ store output words time role peer tid =
      record { deadline = rw table at d; timer = t; fire = rw (table₂, store, output, words, time, role, peer, tid) at f }
