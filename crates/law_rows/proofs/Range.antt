-- A turn of a record within its bounds under the row for its own conditions gives one within its bounds, and so does an opening. Assumes nothing.
use Prim.Native.Nat.{ℕ, ◌+◌, ◌≤◌, ◌<◌, ◌%◌}
use native.Mathlib.Omega.{arith}
use mathlib.Core.Path.{◌≡◌, refl}
use mathlib.Core.Bool.{Bool, true, false, beq}
use mathlib.Core.List.{List, [], ◌∷◌}
use borrow.Author.Tests.{ltb-true, lt-ltb, eqb-true}
use lib.Dec.{ltb, eqb}
use lib.ListN.{get_or}
use Rattle.base_layout.specs.Layout.{interval_bound, deadline_bound, tid_bound, peers, exit_bound, cell_size}
use Rattle.base_lists.specs.Seq.{pick, bit, every}
use Rattle.base_lists.proofs.StoresAndParts.{bit_le, both_fst, both_snd}
use Rattle.table_record.specs.Record.{state_of, role_of, class_of, role_number, sent_most}
use Rattle.table_record.specs.declared.Role.{Role}
use Rattle.table_record.specs.declared.Role.TheVariants.{Initiator, Responder}
use Rattle.table_record.specs.declared.State.{State}
use Rattle.table_record.specs.declared.Record.{Record}
use Rattle.table_record.specs.declared.Rcr.{Rcr}
use Rattle.table_record.specs.declared.Aec.{Aec}
use Rattle.table_layout.specs.declared.Settings.{Settings}
use Rattle.table_ranges.specs.Ranges.{UnknownOk, none}
use Rattle.row_events.specs.declared.Event.{Event}
use Rattle.row_events.specs.declared.Conditions.{Conditions}
use Rattle.row_events.specs.declared.Opening.{Opening}
use Rattle.row_events.proofs.Finite.{all_flags, at_flags, at_state, at_opening}
use Rattle.row_choice.specs.Rows.{row_of}
use Rattle.row_conditions.specs.Conditions.{more_of, conditions_of}
use Rattle.row_columns.specs.Columns.{act_with, taken, acked, stored, shown}
use Rattle.row_columns.specs.declared.Next.{Next}
use Rattle.row_columns.specs.declared.Next.TheVariants.{Stays, Ends, Goes}
use Rattle.row_columns.specs.declared.Timer.{Timer}
use Rattle.row_columns.specs.declared.Count.{Count}
use Rattle.row_columns.specs.declared.ExitInfo.{ExitInfo}
use Rattle.row_columns.specs.declared.Act.{Act}
use Rattle.row_entries.specs.Acts.{act_of, opening_act}
use Rattle.table_tids.specs.Tids.{interval_of}
use Rattle.row_turns.specs.Turns.{up_of, rcr_after, aec_after, exit_len_after, len_after, stopped_at, deadline_after, limit_after, unknown_after, cost_of, sent_after, new_record, moved_to, record_after, turn_of, row_turn, opening_turn}
use Rattle.row_turns.specs.declared.Given.{Given}
use Rattle.row_turns.proofs.Costs.{costs_nothing}
use Rattle.law_rows.specs.Shown.{act_at, living_state}
use Rattle.table_record_ok.specs.OneRecord.{tidnew_bound, sent_bound, Bounded}
use Rattle.law_rows.specs.Range.{Within}
use Rattle.law_rows.proofs.Rows.{same_self, keeps_role}

-- a counter goes up only where it is below its maximum
abbrev pub allowed : Count → Bool → Bool → Bool
allowed Count.Same rcr aec = true
allowed Count.RcrZero rcr aec = true
allowed Count.RcrUp rcr aec = rcr
allowed Count.AecZero rcr aec = true
allowed Count.AecUp rcr aec = aec

module _ (kind reason : ℕ) (tidok : Bool) where
  asked : State → Event → Conditions → List Bool → Bool
  asked s e c l =
      pick (beq c.more (more_of s (get_or l 0 false) (get_or l 1 false)))
      (allowed (act_at s e c tidok kind reason).count (get_or l 0 false) (get_or l 1 false)) true

  all_asked : (s : State) (e : Event) (c : Conditions) → all_flags 2 (asked s e c) ≡ true
  unfolding asked all_flags every state_of row_of act_of act_with taken acked stored shown
  all_asked s e c = at_state (λ s e c. all_flags 2 (asked s e c)) refl s e c

  pub counts_allowed : (e : Event) (s : Settings) (r : Record)
      → allowed (act_at r.state e (conditions_of s r) tidok kind reason).count (ltb r.rcr.0 s.rcr_max) (ltb r.aec.0 s.aec_max) ≡ true
  unfolding asked conditions_of
  counts_allowed e s r =
      rw (same_self (conditions_of s r).more) at
      (at_flags (ltb r.rcr.0 s.rcr_max ∷ ltb r.aec.0 s.aec_max ∷ []) (asked r.state e (conditions_of s r)) (all_asked r.state e (conditions_of s r)))

up_within : (n max : ℕ) → ltb n max ≡ true → up_of n ≤ max
unfolding up_of
up_within n max less = go (ltb n 8)
  where
    go : (b : Bool) → pick b (n + 1) n ≤ max
    go true = omega (arith, ltb-true n max less)
    go false = omega (arith, ltb-true n max less)

-- "RCR + 1" and "AEC + 1" are just that below a maximum of at most 8
pub up_exact : (n max : ℕ) → n < max → max ≤ 8 → up_of n ≡ n + 1
unfolding up_of
up_exact n max less small = let below : n < 8 = omega arith in rw (lt-ltb n 8 below)

pub rcr_within : (k : Count) (n : Rcr) (max : ℕ) (aec : Bool) → allowed k (ltb n.0 max) aec ≡ true → n.0 ≤ max → (rcr_after k n).0 ≤ max
rcr_within Count.Same n max aec ok h = h
rcr_within Count.RcrZero n max aec ok h = omega arith
rcr_within Count.RcrUp n max aec ok h = up_within n.0 max ok
rcr_within Count.AecZero n max aec ok h = h
rcr_within Count.AecUp n max aec ok h = h

aec_within : (k : Count) (n : Aec) (max : ℕ) (rcr : Bool) → allowed k rcr (ltb n.0 max) ≡ true → n.0 ≤ max → (aec_after k n).0 ≤ max
aec_within Count.Same n max rcr ok h = h
aec_within Count.RcrZero n max rcr ok h = h
aec_within Count.RcrUp n max rcr ok h = h
aec_within Count.AecZero n max rcr ok h = omega arith
aec_within Count.AecUp n max rcr ok h = up_within n.0 max ok

exit_within : (x : ExitInfo) (was given : ℕ) → was ≤ exit_bound → given ≤ exit_bound → exit_len_after x was given ≤ exit_bound
exit_within ExitInfo.Same was given h k = h
exit_within ExitInfo.Given was given h k = k
exit_within ExitInfo.Empty was given h k = omega arith

len_within : (cell : Bool) (was given : ℕ) → was ≤ cell_size → given ≤ cell_size → len_after cell was given ≤ cell_size
len_within true was given h k = k
len_within false was given h k = h

unknown_within : (item : Bool) (was came : ℕ) → UnknownOk was → UnknownOk came → UnknownOk (unknown_after item was came)
unknown_within true was came h k = k
unknown_within false was came h k = h

-- the role of the record that an act leaves live
abbrev pub role_then : Next → State → Role
role_then Stays s = role_of s
role_then Ends s = Initiator
role_then (Goes t) s = role_of t

abbrev is_responder : Role → Bool
is_responder role = eqb (role_number role) (role_number Responder)

responder_is : (role : Role) → is_responder role ≡ true → role ≡ Responder
responder_is Initiator e = absurd (omega (arith, eqb-true 0 1 e))
responder_is Responder e = refl

-- a record that is left as a responder's was one, and its row sends nothing that counts
module _ (kind reason : ℕ) (tidok : Bool) where
  unpaid : State → Event → Conditions → Bool
  unpaid s e c =
      let a : Act = act_at s e c tidok kind reason in
      pick (is_responder (role_then a.next s)) (pick (is_responder (role_of s)) (eqb (cost_of a.send 0) 0) false) true

  rows_unpaid : (s : State) (e : Event) (c : Conditions) → role_then (act_at s e c tidok kind reason).next s ≡ Responder
      → (role_of s ≡ Responder) × (eqb (cost_of (act_at s e c tidok kind reason).send 0) 0 ≡ true)
  unfolding unpaid every state_of row_of act_of act_with taken acked stored shown
  rows_unpaid s e c is =
      let a : Act = act_at s e c tidok kind reason in
      let both = rw is at (at_state unpaid refl s e c) in
      (responder_is (role_of s) (both_fst (is_responder (role_of s)) (eqb (cost_of a.send 0) 0) both), both_snd (is_responder (role_of s)) (eqb (cost_of a.send 0) 0) both)

-- and so is one that an opening makes a responder's
openings_unpaid : (o : Opening) (s : State) → role_then (opening_act o).next s ≡ Responder → eqb (cost_of (opening_act o).send 0) 0 ≡ true
unfolding every opening_act act_with stored shown
openings_unpaid o s is = rw is at (at_opening (λ x. pick (is_responder (role_then (opening_act x).next s)) (eqb (cost_of (opening_act x).send 0) 0) true) refl o)

-- the count stops at its most, and a responder's stays 0
sent_within : (role : Role) (sum max : ℕ) → (role ≡ Responder → sum ≡ 0) → sent_after sum (sent_most max) ≤ sent_bound role max
unfolding sent_after
sent_within Initiator sum max unpaid = go (ltb sum (sent_most max)) refl
  where
    go : (b : Bool) → ltb sum (sent_most max) ≡ b → pick b sum (sent_most max) ≤ sent_most max
    go true e = omega (arith, ltb-true sum (sent_most max) e)
    go false e = omega arith
sent_within Responder sum max unpaid =
    let some : 0 < sent_most max = omega arith in
    rw (unpaid refl, lt-ltb 0 (sent_most max) some) (omega arith)

module _ (g : Given) (s : Settings) (rows : List (List ℕ)) (within : Within g s rows) where
  interval_within : (class : ℕ) (n : Rcr) → interval_of rows class n ≤ interval_bound
  unfolding interval_of
  interval_within class n = go (eqb class 1)
    where
      go : (c : Bool) → get_or (get_or rows (pick c 0 1) []) (n.0 % 9) 0 ≤ interval_bound
      go true = within.intervals 0 (n.0 % 9) (omega arith) (omega arith)
      go false = within.intervals 1 (n.0 % 9) (omega arith) (omega arith)

  stopped_within : (limit : ℕ) → limit ≤ interval_bound → stopped_at g.time limit ≤ deadline_bound
  unfolding stopped_at
  stopped_within limit h = go (eqb limit 0)
    where
      go : (b : Bool) → pick b 0 (g.time + limit) ≤ deadline_bound
      go true = omega arith
      go false = omega (arith, within.time)

  deadline_within : (t : Timer) (was r : ℕ) → was ≤ deadline_bound → r ≤ interval_bound → deadline_after t was g.time s r ≤ deadline_bound
  deadline_within Timer.Runs was r h k = h
  deadline_within Timer.Stop was r h k = stopped_within s.limit within.limit
  deadline_within Timer.A was r h k = omega (arith, within.time, within.a)
  deadline_within Timer.W was r h k = omega (arith, within.time, within.w)
  deadline_within Timer.R was r h k = omega (arith, within.time)

  limit_within : (t : Timer) (was : ℕ) → was ≤ interval_bound → limit_after t was s.limit ≤ interval_bound
  limit_within Timer.Runs was h = h
  limit_within Timer.Stop was h = within.limit
  limit_within Timer.A was h = omega arith
  limit_within Timer.W was h = omega arith
  limit_within Timer.R was h = omega arith

  pub new_in_range : (peer tid : ℕ) (user_ack tidnew : Bool) → peer < peers → tid ≤ tid_bound → Bounded s (new_record peer tid user_ack tidnew)
  unfolding new_record
  new_in_range peer tid user_ack tidnew p t =
      record { tid = t; rcr = omega arith; aec = omega arith; exit = omega arith; deadline = omega arith; message = omega arith; tidnew = bit_le tidnew; limit = omega arith; unknown = none refl; sent = omega arith; peer = p }

  module _ (r : Record) (a : Act) (ok : Bounded s r) (counts : allowed a.count (ltb r.rcr.0 s.rcr_max) (ltb r.aec.0 s.aec_max) ≡ true) where
    abbrev sum : ℕ
    sum = r.sent + cost_of a.send (len_after a.cell r.len g.len)

    moved_in_range : (state : State) → bit r.tidnew ≤ tidnew_bound (role_of state) → (role_of state ≡ Responder → sum ≡ 0) → Bounded s (moved_to state a r g s rows)
    unfolding moved_to
    moved_in_range state tidnew unpaid = record {
      tid = ok.tid;
      rcr = rcr_within a.count r.rcr s.rcr_max (ltb r.aec.0 s.aec_max) counts ok.rcr;
      aec = aec_within a.count r.aec s.aec_max (ltb r.rcr.0 s.rcr_max) counts ok.aec;
      exit = exit_within a.exit r.exit_len g.exit_len ok.exit within.exit_len;
      deadline = deadline_within a.timer r.deadline (interval_of rows (class_of state) (rcr_after a.count r.rcr)) ok.deadline (interval_within (class_of state) (rcr_after a.count r.rcr));
      message = len_within a.cell r.len g.len ok.message within.len;
      tidnew = tidnew;
      limit = limit_within a.timer r.limit ok.limit;
      unknown = unknown_within a.item r.unknown g.unknown ok.unknown within.unknown;
      sent = sent_within (role_of state) sum s.rcr_max unpaid;
      peer = ok.peer;
    }

    after_in_range : (n : Next) → bit r.tidnew ≤ tidnew_bound (role_of (living_state n r.state)) → (role_then n r.state ≡ Responder → sum ≡ 0) → Bounded s (record_after n a r g s rows)
    unfolding record_after
    after_in_range Stays tidnew unpaid = moved_in_range r.state tidnew unpaid
    after_in_range Ends tidnew unpaid = new_in_range 0 0 false false (omega arith) (omega arith)
    after_in_range (Goes state) tidnew unpaid = moved_in_range state tidnew unpaid

  -- a live record under the row for its own conditions
  pub turn_in_range : (e : Event) (r : Record) → Bounded s r → Bounded s (row_turn (row_of r.state e (conditions_of s r)) r g s rows).after
  unfolding row_turn turn_of
  turn_in_range e r ok =
      let a = act_at r.state e (conditions_of s r) r.tidok_sent g.kind g.reason in
      after_in_range r a ok (counts_allowed g.kind g.reason r.tidok_sent e s r) a.next
      (rw (keeps_role g.kind g.reason r.tidok_sent r.state e (conditions_of s r)) ok.tidnew)
      (λ is.
      let free = rows_unpaid g.kind g.reason r.tidok_sent r.state e (conditions_of s r) is in
      let nothing : r.sent ≤ 0 = rw free.0 at ok.sent in
      omega (arith, nothing, costs_nothing a.send (len_after a.cell r.len g.len) free.1))

  -- a new record, which has sent nothing, under an opening, with TIDnew only where that opens an initiator's
  pub opening_in_range : (o : Opening) (r : Record) → Bounded s r → r.sent ≡ 0 → bit r.tidnew ≤ tidnew_bound (role_of (living_state (opening_act o).next r.state)) → Bounded s (opening_turn o r g s rows).after
  unfolding opening_turn turn_of every opening_act act_with stored shown
  opening_in_range o r ok new tidnew =
      let counts : Opening → Bool = λ x. allowed (opening_act x).count (ltb r.rcr.0 s.rcr_max) (ltb r.aec.0 s.aec_max) in
      after_in_range r (opening_act o) ok (at_opening counts refl o) (opening_act o).next tidnew
      (λ is. omega (arith, new, costs_nothing (opening_act o).send (len_after (opening_act o).cell r.len g.len) (openings_unpaid o r.state is)))
