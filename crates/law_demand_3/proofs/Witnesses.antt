-- No entry of a history for which demand 3 holds is like one of the seven that break its letter. Assumes nothing.
use Prim.Native.Nat.{ℕ, ◌+◌, ◌*◌, ◌≤◌, ◌<◌}
use native.Mathlib.Omega.{arith}
use mathlib.Core.Path.{◌≡◌, refl, sym, ap, subst, ◌∙◌}
use mathlib.Core.Bool.{Bool, true, false}
use mathlib.Core.List.{List, [], ◌∷◌}
use mathlib.Core.Logic.{◌⊎◌, inl, inr}
use lib.ListN.{length, get_or}
use Rattle.std.specs.Prelude.{Ok, Err}
use Rattle.base_layout.specs.Layout.{header_size, record_size, base}
use Rattle.base_lists.specs.Seq.{pick}
use Rattle.base_lists.proofs.StoresAndParts.{true_false}
use Rattle.base_octets.proofs.StoredAndRead.{two_sides}
use Rattle.table_record.specs.declared.Role.TheVariants.{Initiator}
use Rattle.table_layout.specs.Table.{record_at}
use Rattle.law_formed_kept.proofs.InRecord.{equal_or}
use Rattle.step_shown.specs.declared.Shown.{Shown}
use Rattle.step_shown.specs.declared.Shown.TheVariants as Shown
use Rattle.step_outcome.specs.Carry.{Answer}
use Rattle.call_plans.specs.Calls.{Call, is_request, is_primitive}
use Rattle.call_plans.specs.Concerns.{NamedBy, Concerns, fires}
use Rattle.law_counting.specs.Counting.{Counts, none, plus, requested, aborted}
use Rattle.law_history.specs.Trace.{Entry, Throughout}
use Rattle.law_history.specs.Tally.{Name, is_named, of_shown, of_answer, sent_of, peer_of, of_sent, adds}
use Rattle.law_history.specs.Start.{Start}
use Rattle.law_history.specs.Moves.{before, after}
use Rattle.law_history.specs.Changed.{OutsideRecord, NamedOrFired, ByRequest, ByInvoke, OpenedAt, NoneChanged, OneChanged, CallFramed}
use Rattle.law_history.specs.Demand.{ShownIn, Shows, ResultExact, Invoke0Exact, AbortAlone, OwnAborts, Demand3}
use Rattle.law_one_turn.proofs.Names.{name, named_self}
use Rattle.law_demand_3.specs.Witnesses.{Touched, TwoRecords, WrongRecord, AbortAndConfirm, OthersResult, AbortUnsent, InvokeByTimer, RefusedChange, Unlike}

-- an octet of a record lies outside every other
elsewhere : (place other k : ℕ) → (place ≡ other → ⊥) → base place ≤ k → k < base place + record_size → OutsideRecord other k
elsewhere place other k d from to = go (two_sides place other d)
  where
    go : (place < other) ⊎ (other < place) → OutsideRecord other k
    go (inl h) = inl (omega arith)
    go (inr h) = inr (omega arith)

module _ (e : Entry) (h : List Entry) where
  -- what is touched is the one record that changes
  is_the_one : (place other : ℕ) → OneChanged e other → Touched e place → place ≡ other
  is_the_one place other o t = go (equal_or place other)
    where
      go : (place ≡ other) ⊎ (place ≡ other → ⊥) → place ≡ other
      go (inl q) = q
      go (inr d) = absurd (t.changed (o.records t.octet (omega (arith, t.from)) (elsewhere place other t.octet d t.from t.to)))

  none_touched : (place : ℕ) → NoneChanged e → Touched e place → ⊥
  none_touched place n t = t.changed (n.records t.octet (omega (arith, t.from)))

  pub no_two_records : CallFramed e h → TwoRecords e → ⊥
  no_two_records f w = go f.records
    where
      go : NoneChanged e ⊎ ((place : ℕ) × OneChanged e place) → ⊥
      go (inl n) = none_touched w.one n w.first
      go (inr (place, o)) = w.apart (is_the_one w.one place o w.first ∙ sym (is_the_one w.other place o w.second))

  pub no_wrong_record : CallFramed e h → WrongRecord e → ⊥
  no_wrong_record f w = go f.records
    where
      opened : (place : ℕ) → ByRequest e (record_at (after e) place) ⊎ ByInvoke e (record_at (after e) place) → ⊥
      opened place (inl b) = true_false (sym b.asked ∙ ap is_request w.call_is)
      opened place (inr b) = true_false (sym (ap is_primitive w.call_is) ∙ ap is_primitive b.received)

      why : (place : ℕ) → w.place ≡ place → NamedOrFired e place ⊎ OpenedAt e place → ⊥
      why place q (inl n) = w.unnamed (rw (sym q) at (subst (λ (c : Call). Concerns c e.lent place) w.call_is n.concerns))
      why place q (inr o) = opened place o.by

      go : NoneChanged e ⊎ ((place : ℕ) × OneChanged e place) → ⊥
      go (inl n) = none_touched w.place n w.touched
      go (inr (place, o)) = why place (is_the_one w.place place o w.touched) o.why

  -- what an answer shows is counted
  shown_counts : (n : Name) (s : Shown) (a : Answer) → ShownIn a s → ((of_shown n s).aborts ≤ (of_answer n a).aborts) × ((of_shown n s).confirms ≤ (of_answer n a).confirms)
  shown_counts n s (Err r) x = absurd x
  shown_counts n s (Ok a) (inl q) = rw (sym q) (omega arith, omega arith)
  shown_counts n s (Ok a) (inr q) = rw (sym q) (omega arith, omega arith)

  added : (n : Name) → ((of_answer n e.done.answer).aborts ≤ (adds e n).aborts) × ((of_answer n e.done.answer).confirms ≤ (adds e n).confirms)
  unfolding adds
  added n = (omega arith, omega arith)

  pub no_abort_and_confirm : AbortAlone e h → AbortAndConfirm e → ⊥
  unfolding of_shown
  no_abort_and_confirm alone w =
      let n : Name = name Initiator w.peer w.tid in
      let own : is_named n Initiator w.peer w.tid ≡ true = named_self Initiator w.peer w.tid in
      let a : (of_shown n (Shown.Abort Initiator w.peer w.tid w.type w.reason)).aborts ≡ 1 = rw own refl in
      let c : (of_shown n (Shown.Confirm Initiator w.peer w.tid w.place)).confirms ≡ 1 = rw own refl in
      let x = (shown_counts n (Shown.Abort Initiator w.peer w.tid w.type w.reason) e.done.answer w.abort).0 in
      let y = (shown_counts n (Shown.Confirm Initiator w.peer w.tid w.place) e.done.answer w.confirm).1 in
      let some : 1 ≤ (adds e n).aborts = omega (arith, a, x, (added n).0) in
      omega (arith, (alone n some).0, c, y, (added n).1)

  pub no_others_result : ResultExact e h → OthersResult e → ⊥
  no_others_result results w = w.unnamed (results w.peer w.tid w.place w.result).names

  pub no_abort_unsent : OwnAborts e h → AbortUnsent e → ⊥
  no_abort_unsent own w =
      let o = own w.time w.role w.peer w.tid w.reason w.call_is w.taken in
      absurd (omega (arith, ap (length {A = ℕ}) (sym w.unsent ∙ o.pdu)))

  pub no_invoke_by_timer : Invoke0Exact e h → InvokeByTimer e → ⊥
  no_invoke_by_timer invokes w =
      let i = invokes w.peer w.tid w.up w.place w.invoke in
      true_false (sym w.by_firing ∙ ap fires i.received)

  pub no_refused_change : CallFramed e h → RefusedChange e → ⊥
  no_refused_change f w = w.changed (ap (λ (t : List ℕ). get_or t w.octet 0) (f.refused w.refused).0)

-- throughout a history
pub no_witness : (start : Start) (max : ℕ) (t : List ℕ) (h : List Entry) → Demand3 start max t h → Throughout Unlike h
unfolding Throughout
no_witness start max t h d = go h d.framed d.alone d.results d.own_aborts d.invokes_0
  where
    go : (h : List Entry) → Throughout CallFramed h → Throughout AbortAlone h → Throughout ResultExact h → Throughout OwnAborts h → Throughout Invoke0Exact h → Throughout Unlike h
    go [] f a r o i = tt
    go (e ∷ h) f a r o i = (
      record {
        w1 = no_two_records e h f.0;
        w2 = no_wrong_record e h f.0;
        w3 = no_abort_and_confirm e h a.0;
        w4 = no_others_result e h r.0;
        w5 = no_abort_unsent e h o.0;
        w6 = no_invoke_by_timer e h i.0;
        w7 = no_refused_change e h f.0;
      },
      go h f.1 a.1 r.1 o.1 i.1,
    )
