-- The bound is attained: RCR_MAX firings of a request of class 1 leave it with (1 + RCR_MAX) times (4 + n) octets sent. Assumes nothing.
use Prim.Native.Nat.{ℕ, zero, suc, ◌+◌, ◌*◌, ◌≤◌, ◌<◌}
use native.Mathlib.Nat.{zero-add, one-mul}
use native.Mathlib.Omega.{arith}
use mathlib.Core.Path.{◌≡◌, refl, sym, ap, subst, ◌∙◌}
use mathlib.Core.Bool.{Bool, true}
use mathlib.Core.List.{List}
use borrow.Author.Tests.{lt-ltb}
use lib.Dec.{ltb}
use Rattle.base_layout.specs.Layout.{cell_size}
use Rattle.table_record.specs.Record.{sent_most}
use Rattle.table_record.specs.declared.State.{State}
use Rattle.table_record.specs.declared.State.TheVariants.{IResultWait1}
use Rattle.table_record.specs.declared.Record.{Record}
use Rattle.table_layout.specs.declared.Settings.{Settings}
use Rattle.row_events.specs.declared.Conditions.{Conditions}
use Rattle.row_events.specs.declared.Event.TheVariants.{Timer}
use Rattle.row_events.specs.declared.Row.{Row}
use Rattle.row_events.specs.declared.Row.TheVariants.{Resent}
use Rattle.row_events.specs.declared.Opening.TheVariants.{Requested1}
use Rattle.row_choice.specs.Rows.{row_of}
use Rattle.row_conditions.specs.Conditions.{more_of, conditions_of}
use Rattle.row_columns.specs.Columns.{act_with, stored}
use Rattle.row_entries.specs.Acts.{resent_of, act_of, opening_act}
use Rattle.row_turns.specs.Turns.{cost_of, new_record, moved_to, record_after, turn_of, row_turn, opening_turn}
use Rattle.row_turns.specs.declared.Given.{Given}
use Rattle.law_rows.proofs.Range.{up_exact}
use Rattle.law_counting.proofs.Charged.{one_more, most_full, sum_kept}
use Rattle.law_cost.specs.Attained.{fired_once, fired_times, AllInvokes}

-- below RCR_MAX the Invoke is sent again
again_row : (c : Conditions) → c.more ≡ true → row_of IResultWait1 Timer c ≡ Resent
unfolding row_of
again_row c e = rw e refl

own_more : (s : Settings) (r : Record) → r.state ≡ IResultWait1 → r.rcr.0 < s.rcr_max → (conditions_of s r).more ≡ true
unfolding conditions_of
own_more s r e less = ap (λ (x : State). more_of x (ltb r.rcr.0 s.rcr_max) (ltb r.aec.0 s.aec_max)) e ∙ lt-ltb r.rcr.0 s.rcr_max less

module _ (s : Settings) (rows : List (List ℕ)) (small : s.rcr_max ≤ 8) (n : ℕ) (short : n ≤ cell_size) where
  row_is : (r : Record) → r.state ≡ IResultWait1 → r.rcr.0 < s.rcr_max → row_of r.state Timer (conditions_of s r) ≡ Resent
  row_is r e less = ap (λ (x : State). row_of x Timer (conditions_of s r)) e ∙ again_row (conditions_of s r) (own_more s r e less)

  resent_sum : (r : Record) (g : Given) (k : ℕ) → AllInvokes k n r → k < s.rcr_max → (row_turn Resent r g s rows).after.sent ≡ (1 + (k + 1)) * (4 + n)
  unfolding row_turn turn_of act_of act_with record_after moved_to
  resent_sum r g k v less =
      let full : (1 + (k + 1)) * (4 + n) ≤ sent_most s.rcr_max = most_full (k + 1) s.rcr_max n (omega arith) short in
      let sum : r.sent + cost_of (resent_of r.tidok_sent) r.len ≡ (1 + (k + 1)) * (4 + n) = rw (v.no_tidok, v.data_len, v.sum, one_more k (4 + n)) refl in
      rw sum (sum_kept ((1 + (k + 1)) * (4 + n)) (sent_most s.rcr_max) full)

  resent_rcr : (r : Record) (g : Given) (k : ℕ) → AllInvokes k n r → k < s.rcr_max → (row_turn Resent r g s rows).after.rcr.0 ≡ k + 1
  unfolding row_turn turn_of act_of act_with record_after moved_to
  resent_rcr r g k v less = rw v.again (up_exact k s.rcr_max less small)

  resent_all : (r : Record) (g : Given) (k : ℕ) → AllInvokes k n r → k < s.rcr_max → AllInvokes (k + 1) n (row_turn Resent r g s rows).after
  unfolding row_turn turn_of act_of act_with record_after moved_to
  resent_all r g k v less = record { waits = v.waits; no_tidok = v.no_tidok; again = resent_rcr r g k v less; data_len = v.data_len; sum = resent_sum r g k v less }

  fired_all : (r : Record) (g : Given) (k : ℕ) → AllInvokes k n r → k < s.rcr_max → AllInvokes (k + 1) n (fired_once g s rows r)
  unfolding fired_once
  fired_all r g k v less = subst (λ (x : Row). AllInvokes (k + 1) n (row_turn x r g s rows).after) (sym (row_is r v.waits (rw v.again less))) (resent_all r g k v less)

  times_all : (gs : ℕ → Given) (r : Record) → AllInvokes 0 n r → (k : ℕ) → k ≤ s.rcr_max → AllInvokes k n (fired_times gs s rows k r)
  unfolding fired_times
  times_all gs r v zero h = v
  times_all gs r v (suc k) h = rw one_up at (fired_all (fired_times gs s rows k r) (gs k) k (times_all gs r v k (omega arith)) (omega arith))
    where
      one_up : k + 1 ≡ suc k
      one_up = omega arith

-- ATTAINED: a request of class 1 that is fired RCR_MAX times, whatever comes with the firings
pub attained : (gs : ℕ → Given) (s : Settings) (rows : List (List ℕ)) (g : Given) (peer tid : ℕ) (user_ack tidnew : Bool) → s.rcr_max ≤ 8 → g.len ≤ cell_size
    → AllInvokes s.rcr_max g.len (fired_times gs s rows s.rcr_max (opening_turn Requested1 (new_record peer tid user_ack tidnew) g s rows).after)
unfolding opening_turn turn_of opening_act stored record_after moved_to new_record
attained gs s rows g peer tid user_ack tidnew small short =
    times_all s rows small g.len short gs (opening_turn Requested1 (new_record peer tid user_ack tidnew) g s rows).after
    (record {
      waits = refl;
      no_tidok = refl;
      again = refl;
      data_len = refl;
      sum = rw (zero-add (4 + g.len), one-mul (4 + g.len)) (sum_kept (4 + g.len) (sent_most s.rcr_max) (omega arith));
    })
    s.rcr_max (omega arith)
