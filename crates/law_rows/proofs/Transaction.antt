-- After its turn a record is freed, or still that of its transaction. Assumes nothing.
use Prim.Native.Nat.{ℕ}
use mathlib.Core.Path.{◌≡◌, refl}
use mathlib.Core.List.{List}
use mathlib.Core.Logic.{inl, inr}
use Rattle.table_record.specs.Record.{role_of, class_of}
use Rattle.table_record.specs.declared.State.{State}
use Rattle.table_record.specs.declared.Record.{Record}
use Rattle.table_layout.specs.declared.Settings.{Settings}
use Rattle.row_events.specs.declared.Event.{Event}
use Rattle.row_choice.specs.Rows.{row_of}
use Rattle.row_conditions.specs.Conditions.{conditions_of}
use Rattle.row_columns.specs.declared.Next.{Next}
use Rattle.row_columns.specs.declared.Next.TheVariants.{Stays, Ends, Goes}
use Rattle.row_columns.specs.declared.Act.{Act}
use Rattle.row_turns.specs.Turns.{moved_to, record_after, turn_of, row_turn}
use Rattle.row_turns.specs.declared.Given.{Given}
use Rattle.law_rows.specs.Shown.{act_at, living_state}
use Rattle.law_rows.specs.Transaction.{FreedOrSame}
use Rattle.law_rows.proofs.Rows.{keeps_role, keeps_class}

module _ (g : Given) (s : Settings) (rows : List (List ℕ)) (r : Record) where
  moved_same : (a : Act) (t : State) → role_of t ≡ role_of r.state → class_of t ≡ class_of r.state → FreedOrSame r (moved_to t a r g s rows)
  unfolding moved_to
  moved_same a t role class = inr (record { role = role; class = class; peer = refl; tid = refl; user_ack = refl; tidnew = refl })

  after_same : (a : Act) (n : Next) → role_of (living_state n r.state) ≡ role_of r.state → class_of (living_state n r.state) ≡ class_of r.state
      → FreedOrSame r (record_after n a r g s rows)
  unfolding record_after
  after_same a Stays role class = moved_same a r.state role class
  after_same a Ends role class = inl refl
  after_same a (Goes t) role class = moved_same a t role class

  pub turn_keeps : (e : Event) → FreedOrSame r (row_turn (row_of r.state e (conditions_of s r)) r g s rows).after
  unfolding row_turn turn_of
  turn_keeps e =
      let a = act_at r.state e (conditions_of s r) r.tidok_sent g.kind g.reason in
      after_same a a.next (keeps_role g.kind g.reason r.tidok_sent r.state e (conditions_of s r))
      (keeps_class g.kind g.reason r.tidok_sent r.state e (conditions_of s r))
