-- Over any calls from a fresh table on: TIDnew is due, and on the wire, exactly for the first request of class 1 or 2, and for the first after GenTID has come back to 0. Assumes nothing.
use Prim.Native.Nat.{ℕ, ◌%◌}
use native.Mathlib.Omega.{arith}
use mathlib.Core.Path.{◌≡◌, refl, sym, ap, ◌∙◌}
use mathlib.Core.Bool.{Bool, true, false, ◌&&◌, not}
use mathlib.Core.List.{List}
use lib.ListN.{length, get_or}
use lib.Dec.{eqb}
use Rattle.std.specs.Prelude.{Ok, Err}
use Rattle.base_lists.specs.Seq.{pick}
use Rattle.base_lists.proofs.StoresAndParts.{true_false}
use Rattle.table_layout.specs.Table.{gen_tid_of, tidnew_due_of}
use Rattle.table_tids.specs.Tids.{carries_tidnew}
use Rattle.step_plan.specs.Steps.{Plan}
use Rattle.call_request.proofs.Accepted.{place_of, request_accepted}
use Rattle.step_outcome.specs.Carry.{Lent, Done, carried_out, outcome}
use Rattle.call_plans.specs.Calls.{Call, promised, plan_for, as_request}
use Rattle.law_history.specs.Trace.{Entry, Promise, Run, start, called, Throughout}
use Rattle.law_history.specs.Tally.{accepted}
use Rattle.law_tidnew.specs.TidNew.{due_by, first_due, invoke_octet, Carries}
use Rattle.law_tidnew.proofs.Wire.{request_octet}
use Rattle.law_tidnew.proofs.Due.{due_after_call}

-- class 0 never carries it
as_carried : (class : ℕ) (due : Bool) → carries_tidnew class due ≡ (not (eqb class 0) && due)
unfolding carries_tidnew
as_carried class due = go (eqb class 0)
  where
    go : (b : Bool) → pick b false due ≡ (not b && due)
    go true = refl
    go false = refl

module _ (l : Lent) (time peer class : ℕ) (up : Bool) where
  abbrev call : Call
  call = Call.Request time peer class up

  -- the octet of an accepted request, by what is due before it
  pub octet_sent : accepted (promised call l).answer ≡ true → get_or (promised call l).output 3 0 ≡ invoke_octet (not (eqb class 0) && tidnew_due_of l.table) up class
  unfolding promised outcome carried_out
  octet_sent ok = go (plan_for call l) refl ok
    where
      go : (p : Plan) → plan_for call l ≡ p → accepted (outcome l p).answer ≡ true → get_or (outcome l p).output 3 0 ≡ invoke_octet (not (eqb class 0) && tidnew_due_of l.table) up class
      go (Err r) e k = true_false (sym k)
      go (Ok step) e k =
          let a = request_accepted l.table (length l.store) (length l.output) (as_request time peer class up (length l.given)) step e in
          let small : class % 256 ≡ class = omega (arith, a.admits.class_known) in
          rw a.step_is
          (request_octet l (place_of l.table) (as_request time peer class up (length l.given)) refl a.admits.data_fits a.admits.enters.fitting.room
          ∙ rw (small, as_carried class (tidnew_due_of l.table)) refl)

carries : (e : Entry) (h : List Entry) → Promise e → tidnew_due_of e.lent.table ≡ first_due h → Carries e h
carries e h p due time peer class up is ok =
    let k : e.done ≡ promised (Call.Request time peer class up) e.lent = p.keeps ∙ ap (λ (c : Call). promised c e.lent) is in
    ap (λ (d : Done). get_or d.output 3 0) k
    ∙ (octet_sent e.lent time peer class up (sym (ap (λ (d : Done). accepted d.answer) k) ∙ ok) ∙ ap (λ (b : Bool). invoke_octet (not (eqb class 0) && b) up class) due)

-- THE FLAG IS DUE AND SENT EXACTLY FOR THE FIRST
pub tidnew_first : {table store t s : List ℕ} {h : List Entry} → tidnew_due_of table ≡ true → Run table store t s h → (tidnew_due_of t ≡ first_due h) × Throughout Carries h
unfolding first_due Throughout
tidnew_first fresh start = (fresh, tt)
tidnew_first fresh (called {t} {s} {h} r e p table store) =
    let before = tidnew_first fresh r in
    let due : tidnew_due_of e.lent.table ≡ first_due h = ap tidnew_due_of table ∙ before.0 in (
      ap (λ (d : Done). tidnew_due_of d.table) p.keeps
          ∙ (due_after_call e.call e.lent p.lends
          ∙ (ap (due_by e.call (promised e.call e.lent).answer (gen_tid_of (promised e.call e.lent).table)) due
          ∙ ap (λ (d : Done). due_by e.call d.answer (gen_tid_of d.table) (first_due h)) (sym p.keeps))),
      (carries e h p due, before.1),
    )
