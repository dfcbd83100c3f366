-- A refused call is quiet: it counts nothing, opens nothing and changes no record. Assumes nothing.
use Prim.Native.Nat.{ℕ, ◌%◌}
use mathlib.Core.Path.{◌≡◌, refl, sym, ap, ◌∙◌}
use mathlib.Core.Bool.{Bool, true, false}
use mathlib.Core.List.{[]}
use Rattle.std.specs.Prelude.{Err}
use Rattle.base_lists.specs.Seq.{pick}
use Rattle.base_lists.proofs.StoresAndParts.{true_false}
use Rattle.base_numbers.specs.declared.Refusal.{Refusal}
use Rattle.table_record.specs.declared.Role.{Role}
use Rattle.table_record.specs.declared.Role.TheVariants.{Initiator, Responder}
use Rattle.table_layout.specs.Table.{record_at}
use Rattle.step_arrivals.specs.Arrivals.{tid_of}
use Rattle.law_counting.specs.Counting.{none}
use Rattle.step_plan.specs.declared.Told.TheVariants as Told
use Rattle.step_outcome.specs.Carry.{Done, done, outcome}
use Rattle.c_answers.specs.Handed.{plan_cost}
use Rattle.call_plans.specs.Calls.{Call, plan_for, promised, is_request}
use Rattle.law_history.specs.Trace.{Entry, Promise}
use Rattle.law_history.specs.Tally.{Name, is_named, of_type, sender_role, of_sent, peer_of, adds, lives, accepts_by, opens_for, opens}
use Rattle.law_history.specs.Cost.{length_for, charged, cost_told}
use Rattle.law_history.specs.Moves.{Quiet}

-- no octets are no PDU
type_none : (role : Role) → of_type role 0 0 ≡ none
unfolding of_type
type_none Initiator = refl
type_none Responder = refl

pub none_sent : (n : Name) (peer : ℕ) → of_sent n peer [] ≡ none
unfolding of_sent
none_sent n peer = go (is_named n (sender_role []) peer (tid_of [] % 32768))
  where
    go : (b : Bool) → pick b (of_type n.role 0 0) none ≡ none
    go true = type_none n.role
    go false = refl

none_weighs : (n : Name) (peer : ℕ) → length_for n peer [] ≡ 0
unfolding length_for
none_weighs n peer = go (is_named n (sender_role []) peer (tid_of [] % 32768))
  where
    go : (b : Bool) → ◌≡◌ {A = ℕ} (pick b 0 0) 0
    go true = refl
    go false = refl

-- no TID is told
none_accepted : (c : Call) (n : Name) → accepts_by c Told.Nothing n ≡ false
none_accepted c n = go (is_request c)
  where
    go : (b : Bool) → pick b false false ≡ false
    go true = refl
    go false = refl

module _ (e : Entry) (r : Refusal) (is : e.done ≡ done (Err r) e.lent.table e.lent.store e.lent.output) where
  nothing_added : (n : Name) → adds e n ≡ none
  unfolding adds
  nothing_added n = rw (is, none_sent n (peer_of e.call (Err r))) refl

  nothing_opened : (n : Name) (role : Role) → opens_for role e n ≡ false
  nothing_opened n Initiator = rw is (none_accepted e.call n)
  nothing_opened n Responder = rw is (go (lives e.lent.table n))
    where
      go : (b : Bool) → pick b false b ≡ false
      go true = refl
      go false = refl

  nothing_charged : (n : Name) → charged e n ≡ 0
  unfolding charged
  nothing_charged n = rw (is, none_weighs n (peer_of e.call (Err r))) refl

  quiet : plan_for e.call e.lent ≡ Err r → Quiet e
  unfolding opens cost_told plan_cost
  quiet plan = record {
    silent = λ n. record { adds_none = nothing_added n; not_opened = nothing_opened n n.role; uncharged = nothing_charged n };
    same = λ j. ap (λ (d : Done). record_at d.table j) is;
    unmeant = λ taken. true_false (sym (rw is at taken));
    untold = rw plan refl;
  }

-- "A refusal gives only its number and changes no lent byte"
pub refused_is : (e : Entry) → Promise e → (r : Refusal) → plan_for e.call e.lent ≡ Err r → e.done ≡ done (Err r) e.lent.table e.lent.store e.lent.output
unfolding promised outcome
refused_is e p r q = p.keeps ∙ ap (outcome e.lent) q

pub refused_quiet : (e : Entry) → Promise e → (r : Refusal) → plan_for e.call e.lent ≡ Err r → Quiet e
refused_quiet e p r q = quiet e r (refused_is e p r q) q
