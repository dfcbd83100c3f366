-- A turn of an initiator's record that counts what was sent leaves one that counts what it sends too, within its bound, or frees it; and so does a request's opening. Assumes nothing.
use Prim.Native.Nat.{ℕ, ◌+◌, ◌*◌, ◌≤◌, ◌<◌}
use native.Mathlib.Nat.{zero-add, add-mul, one-mul, mul-le-mul}
use native.Mathlib.Omega.{arith}
use mathlib.Core.Path.{◌≡◌, refl, ap, ◌∙◌}
use mathlib.Core.Bool.{Bool, true, false, false≢true}
use mathlib.Core.List.{List}
use mathlib.Core.Logic.{◌⊎◌, inl, inr}
use borrow.Author.Tests.{ltb-true, ltb-false, le-leb}
use lib.Dec.{ltb, leb, eqb}
use Rattle.base_layout.specs.Layout.{cell_size, output_least}
use Rattle.base_lists.specs.Seq.{pick, every}
use Rattle.table_record.specs.Record.{state_number, state_of, role_of, role_number, sent_most}
use Rattle.table_record.specs.declared.Role.TheVariants.{Initiator, Responder}
use Rattle.table_record.specs.declared.State.{State}
use Rattle.table_record.specs.declared.State.TheVariants.{IResultWait1, IResultWait2}
use Rattle.table_record.specs.declared.Record.{Record}
use Rattle.table_record.specs.declared.Rcr.{Rcr}
use Rattle.table_layout.specs.declared.Settings.{Settings}
use Rattle.table_record_ok.specs.OneRecord.{Live, Bounded}
use Rattle.row_events.specs.declared.Event.{Event}
use Rattle.row_events.specs.declared.Conditions.{Conditions}
use Rattle.row_events.specs.declared.Opening.{Opening}
use Rattle.row_events.proofs.Finite.{at_state}
use Rattle.row_choice.specs.Rows.{row_of}
use Rattle.row_conditions.specs.Conditions.{conditions_of}
use Rattle.row_columns.specs.Columns.{act_with, taken, acked, stored, sent, shown}
use Rattle.row_columns.specs.declared.Next.{Next}
use Rattle.row_columns.specs.declared.Next.TheVariants.{Stays, Ends, Goes}
use Rattle.row_columns.specs.declared.Count.{Count}
use Rattle.row_columns.specs.declared.Send.{Send}
use Rattle.row_columns.specs.declared.Act.{Act}
use Rattle.row_entries.specs.Acts.{act_of, opening_act}
use Rattle.row_turns.specs.Turns.{rcr_after, len_after, cost_of, sent_after, new_record, moved_to, record_after, turn_of, row_turn, opening_turn}
use Rattle.row_turns.specs.declared.Given.{Given}
use Rattle.row_turns.specs.declared.Turn.{Turn}
use Rattle.row_turns.proofs.Costs.{cost_most, costs_nothing}
use Rattle.law_rows.specs.Shown.{act_at}
use Rattle.law_rows.proofs.Range.{allowed, counts_allowed, rcr_within, up_exact}
use Rattle.law_counting.specs.Paying.{Paid}

-- what isn't above its most doesn't stop
pub sum_kept : (sum most : ℕ) → sum ≤ most → sent_after sum most ≡ sum
unfolding sent_after
sum_kept sum most h = go (ltb sum most) refl
  where
    go : (b : Bool) → ltb sum most ≡ b → pick b sum most ≡ sum
    go true e = refl
    go false e = omega (arith, ltb-false sum most e)

-- RCR goes up where what is sent costs something, and never back to 0
abbrev pays : Count → ℕ → Bool
pays Count.Same cost = eqb cost 0
pays Count.RcrZero cost = false
pays Count.RcrUp cost = true
pays Count.AecZero cost = eqb cost 0
pays Count.AecUp cost = eqb cost 0

pub one_more : (k m : ℕ) → (1 + (k + 1)) * m ≡ (1 + k) * m + m
one_more k m =
    let e : 1 + (k + 1) ≡ (1 + k) + 1 = omega arith in
    ap (λ (x : ℕ). x * m) e ∙ add-mul (1 + k) 1 m ∙ ap (λ (x : ℕ). (1 + k) * m + x) (one-mul m)

-- the bound goes up with RCR
within_then : (k : Count) (n : Rcr) (max : ℕ) (aec : Bool) → (n.0 < max → n.0 < 8) → allowed k (ltb n.0 max) aec ≡ true → (send : Send) (bytes len : ℕ)
    → pays k (cost_of send 0) ≡ true → bytes ≤ (1 + n.0) * (4 + len) → bytes + cost_of send len ≤ (1 + (rcr_after k n).0) * (4 + len)
within_then Count.Same n max aec small ok send bytes len p h = omega (arith, h, costs_nothing send len p)
within_then Count.RcrZero n max aec small ok send bytes len p h = absurd (false≢true p)
within_then Count.RcrUp n max aec small ok send bytes len p h =
    rw (up_exact n.0 8 (small (ltb-true n.0 max ok)) (omega arith), one_more n.0 (4 + len)) (omega (arith, h, cost_most send len))
within_then Count.AecZero n max aec small ok send bytes len p h = omega (arith, h, costs_nothing send len p)
within_then Count.AecUp n max aec small ok send bytes len p h = omega (arith, h, costs_nothing send len p)

-- an act that keeps an initiator's record leaves its message
abbrev leaves : Bool → Bool → Bool
leaves cell right = pick cell false right

left_len : (cell right : Bool) (was given : ℕ) → leaves cell right ≡ true → len_after cell was given ≡ was
left_len true right was given e = absurd (false≢true e)
left_len false right was given e = refl

left_pays : (cell right : Bool) → leaves cell right ≡ true → right ≡ true
left_pays true right e = absurd (false≢true e)
left_pays false right e = e

abbrev charges : Next → Act → Bool
charges Stays a = leaves a.cell (pays a.count (cost_of a.send 0))
charges Ends a = true
charges (Goes t) a = leaves a.cell (pays a.count (cost_of a.send 0))

-- 1 + RCR Invokes of this length have room below the most that a record may count
pub most_full : (rcr max n : ℕ) → rcr ≤ max → n ≤ cell_size → (1 + rcr) * (4 + n) ≤ sent_most max
most_full rcr max n h small =
    let more : 1 + rcr ≤ 1 + max = omega arith in
    let long : 4 + n ≤ output_least = omega arith in
    mul-le-mul more long

not_asking : Responder ≡ Initiator → ⊥
not_asking e = let k : role_number Responder ≡ role_number Initiator = ap role_number e in omega (arith, k)

module _ (kind reason : ℕ) where
  tested : Bool → State → Event → Conditions → Bool
  tested tidok s e c =
      pick (leb 1 (state_number s)) (pick (eqb (role_number (role_of s)) (role_number Initiator)) (let a = act_at s e c tidok kind reason in charges a.next a) true) true

  all_tested : (tidok : Bool) (s : State) (e : Event) (c : Conditions) → tested tidok s e c ≡ true
  unfolding tested every state_of row_of act_of act_with taken acked stored shown
  all_tested true s e c = at_state (tested true) refl s e c
  all_tested false s e c = at_state (tested false) refl s e c

  rows_charge : (e : Event) (s : Settings) (r : Record) → Live r → role_of r.state ≡ Initiator
      → let a : Act = act_at r.state e (conditions_of s r) r.tidok_sent kind reason in charges a.next a ≡ true
  unfolding tested
  rows_charge e s r live asks = rw (le-leb 1 (state_number r.state) live, asks) at (all_tested r.tidok_sent r.state e (conditions_of s r))

-- a record after its turn is freed, or still counts
abbrev pub FreedOrPaid : Record → ℕ → ℕ → Type 0
FreedOrPaid after bytes n = (after ≡ new_record 0 0 false false) ⊎ Paid after bytes n

module _ (g : Given) (s : Settings) (rows : List (List ℕ)) where
  module _ (r : Record) (a : Act) (bytes n : ℕ) (ok : Bounded s r) (small : s.rcr_max ≤ 8)
      (counts : allowed a.count (ltb r.rcr.0 s.rcr_max) (ltb r.aec.0 s.aec_max) ≡ true) (paid : Paid r bytes n) where
    moved_charged : (t : State) → leaves a.cell (pays a.count (cost_of a.send 0)) ≡ true → Paid (moved_to t a r g s rows) (bytes + cost_of a.send n) n
    unfolding moved_to
    moved_charged t p =
        let same : len_after a.cell r.len g.len ≡ n = left_len a.cell _ r.len g.len p ∙ paid.data_len in
        let bound : bytes + cost_of a.send n ≤ (1 + (rcr_after a.count r.rcr).0) * (4 + n) = within_then a.count r.rcr s.rcr_max (ltb r.aec.0 s.aec_max) (λ less. omega arith) counts a.send bytes n (left_pays a.cell _ p) paid.within in
        let full : (1 + (rcr_after a.count r.rcr).0) * (4 + n) ≤ sent_most s.rcr_max = most_full (rcr_after a.count r.rcr).0 s.rcr_max n (rcr_within a.count r.rcr s.rcr_max (ltb r.aec.0 s.aec_max) counts ok.rcr) (rw paid.data_len at ok.message) in
        record {
          sum = rw (same, paid.sum) (sum_kept (bytes + cost_of a.send n) (sent_most s.rcr_max) (omega (arith, bound, full)));
          data_len = same;
          within = bound;
        }

    after_charged : (next : Next) → charges next a ≡ true → FreedOrPaid (record_after next a r g s rows) (bytes + cost_of a.send n) n
    unfolding record_after
    after_charged Stays p = inr (moved_charged r.state p)
    after_charged Ends p = inl refl
    after_charged (Goes t) p = inr (moved_charged t p)

  -- any event at an initiator's live record, under the row for its own conditions
  pub turn_charged : (e : Event) (r : Record) (bytes n : ℕ) → Live r → Bounded s r → role_of r.state ≡ Initiator → s.rcr_max ≤ 8 → Paid r bytes n
      → let turn : Turn = row_turn (row_of r.state e (conditions_of s r)) r g s rows in FreedOrPaid turn.after (bytes + cost_of turn.send n) n
  unfolding row_turn turn_of
  turn_charged e r bytes n live ok asks small paid =
      let a = act_at r.state e (conditions_of s r) r.tidok_sent g.kind g.reason in
      after_charged r a bytes n ok small (counts_allowed g.kind g.reason r.tidok_sent e s r) paid a.next (rows_charge g.kind g.reason e s r live asks)

  -- a request's record has paid for its first Invoke
  first_charged : (t : State) (send : Send) (peer tid : ℕ) (user_ack tidnew : Bool) → g.len ≤ cell_size → Paid (moved_to t (sent t send) (new_record peer tid user_ack tidnew) g s rows) (cost_of send g.len) g.len
  unfolding moved_to new_record stored
  first_charged t send peer tid user_ack tidnew h =
      let one : (1 + 0) * (4 + g.len) ≡ 4 + g.len = one-mul (4 + g.len) in
      let full : cost_of send g.len ≤ sent_most s.rcr_max = omega (arith, cost_most send g.len, h) in
      record {
        sum = rw (zero-add (cost_of send g.len)) (sum_kept (cost_of send g.len) (sent_most s.rcr_max) full);
        data_len = refl;
        within = rw one (cost_most send g.len);
      }

  pub opening_charged : (o : Opening) (peer tid : ℕ) (user_ack tidnew : Bool) → g.len ≤ cell_size
      → let turn : Turn = opening_turn o (new_record peer tid user_ack tidnew) g s rows in Live turn.after → role_of turn.after.state ≡ Initiator → Paid turn.after (cost_of turn.send g.len) g.len
  unfolding opening_turn turn_of record_after opening_act act_with stored shown moved_to new_record
  opening_charged Opening.Ignored peer tid user_ack tidnew h live asks = absurd (omega (arith, live))
  opening_charged Opening.Requested0 peer tid user_ack tidnew h live asks = absurd (omega (arith, live))
  opening_charged Opening.Requested1 peer tid user_ack tidnew h live asks = first_charged IResultWait1 (Send.Invoke false) peer tid user_ack tidnew h
  opening_charged Opening.Requested2 peer tid user_ack tidnew h live asks = first_charged IResultWait2 (Send.Invoke false) peer tid user_ack tidnew h
  opening_charged Opening.Malformed peer tid user_ack tidnew h live asks = absurd (omega (arith, live))
  opening_charged Opening.WrongVersion peer tid user_ack tidnew h live asks = absurd (omega (arith, live))
  opening_charged Opening.Unsupported peer tid user_ack tidnew h live asks = absurd (omega (arith, live))
  opening_charged Opening.TooLong peer tid user_ack tidnew h live asks = absurd (omega (arith, live))
  opening_charged Opening.Shown0 peer tid user_ack tidnew h live asks = absurd (omega (arith, live))
  opening_charged Opening.Valid1 peer tid user_ack tidnew h live asks = absurd (not_asking asks)
  opening_charged Opening.Valid2 peer tid user_ack tidnew h live asks = absurd (not_asking asks)
  opening_charged Opening.ToVerify1 peer tid user_ack tidnew h live asks = absurd (not_asking asks)
  opening_charged Opening.ToVerify2 peer tid user_ack tidnew h live asks = absurd (not_asking asks)
  opening_charged Opening.UnknownTidve peer tid user_ack tidnew h live asks = absurd (omega (arith, live))
  opening_charged Opening.Restarted1 peer tid user_ack tidnew h live asks = absurd (not_asking asks)
  opening_charged Opening.Restarted2 peer tid user_ack tidnew h live asks = absurd (not_asking asks)
