-- Every move keeps what is owed: a live request's record counts what the history says, and each request is reported once. Assumes nothing.
use Prim.Native.Nat.{ℕ, ◌+◌, ◌*◌, ◌≤◌, ◌<◌}
use native.Mathlib.Nat.{mul-le-mul_right}
use native.Mathlib.Omega.{arith}
use mathlib.Core.Path.{◌≡◌, refl, sym, ap, subst, ◌∙◌}
use mathlib.Core.Bool.{Bool, true, false, not, ◌&&◌}
use mathlib.Core.List.{List, ◌∷◌}
use mathlib.Core.Logic.{◌⊎◌, inl, inr}
use borrow.Author.Tests.{lt-leb, eq-eqb, ne_eqb}
use Rattle.base_lists.specs.Seq.{pick, bit}
use Rattle.base_lists.proofs.StoresAndParts.{lt_or_le}
use Rattle.table_record.specs.Record.{state_number, role_of, class_of}
use Rattle.table_record.specs.declared.Role.TheVariants.{Initiator}
use Rattle.table_record.specs.declared.Record.{Record}
use Rattle.table_layout.specs.Table.{count, record_at, settings_of, intervals_of}
use Rattle.table_record_ok.specs.OneRecord.{Live, Bounded}
use Rattle.law_places.proofs.Places.{live_range}
use Rattle.row_turns.specs.Turns.{cost_of}
use Rattle.row_turns.specs.declared.Turn.{Turn}
use Rattle.row_turns.proofs.Costs.{costs_nothing}
use Rattle.law_rows.specs.Transaction.{FreedOrSame}
use Rattle.law_rows.proofs.Transaction.{turn_keeps}
use Rattle.law_counting.specs.Paying.{Paid}
use Rattle.law_counting.proofs.Charged.{FreedOrPaid, turn_charged, opening_charged}
use Rattle.step_live.specs.Turning.{row_at, live_turn}
use Rattle.c_answers.specs.Answers.{role_cost, change_cost}
use Rattle.c_answers.specs.declared.Cost.{Cost}
use Rattle.step_commit.specs.declared.Change.TheVariants as Change
use Rattle.step_changes.specs.Changes.{change_of}
use Rattle.law_one_turn.proofs.Openings.{CalledBy}
use Rattle.law_plans_sound.proofs.Receives.{not_free}
use Rattle.law_history.specs.Trace.{Entry}
use Rattle.law_history.specs.Tally.{Name, lives, tally}
use Rattle.law_history.specs.Start.{Start}
use Rattle.law_history.specs.Cost.{charged, cost_told}
use Rattle.law_history.specs.Moves.{name_of, before, after, Silent, Quiet, Turned, opened_turn, Opened, Once, Move}
use Rattle.law_invariant.specs.Invariant.{Inv}
use Rattle.law_invariant.proofs.Names.{same_number, same_name, two_names, unused_name}
use Rattle.law_invariant.proofs.InvariantKept.{Around, freed_is_dead, name_kept}
use Rattle.law_cost.specs.Cost.{asked, class_in, data_in, over, spent, Counted, reported, reports}
use Rattle.law_cost.specs.Owed.{Bill, Owed}
use Rattle.law_cost.proofs.Rows.{closed, over_is, Fitting, live_fitting}
use Rattle.law_cost.proofs.Sums.{shut_asked, shut_class, shut_data, shut_spent, shut_reports, shut_counted, open_class, open_data, open_spent, open_reports, silent_spent}
use Rattle.law_cost.proofs.Living.{named_lives, quiet_lives, rest_lives, free_uncalled, other_uncalled, freed_gone}

-- a name that lives as before isn't reported
unreported : (x b : Bool) → x && (b && not b) ≡ false
unreported true true = refl
unreported true false = refl
unreported false true = refl
unreported false false = refl

-- nor is one that didn't live
not_lived : (x b : Bool) → x && (false && b) ≡ false
not_lived true b = refl
not_lived false b = refl

no_number : (n : ℕ) → (1 ≤ n → ⊥) → n ≡ 0
no_number n dead = omega (arith, dead)

-- a live record's change is that it is put; one that isn't live is freed
pub left_told : (r was : Record) → Live r → change_cost (change_of r Change.Clear) was ≡ role_cost (role_of r.state) r.sent false
unfolding change_of change_cost
left_told r was live = rw (ne_eqb (state_number r.state) 0 (λ d. absurd (omega (arith, live, d)))) refl

pub freed_told : (r was : Record) → (Live r → ⊥) → change_cost (change_of r Change.Clear) was ≡ role_cost (role_of was.state) was.sent true
unfolding change_of change_cost
freed_told r was dead = rw (eq-eqb (state_number r.state) 0 (no_number (state_number r.state) dead)) refl

module _ (start : Start) (max : ℕ) (e : Entry) (h : List Entry) (v : Inv start max (before e) h) (a : Around e) (o : Owed start.counts max (before e) h) where
  abbrev t : List ℕ
  t = before e

  abbrev Reported : Name → Type 0
  Reported n = Counted (e ∷ h) n → reports (e ∷ h) n + bit (lives (after e) n) ≡ 1

  abbrev Bound : Name → Type 0
  Bound n = Counted (e ∷ h) n → spent start.counts (e ∷ h) n ≤ (1 + max) * (4 + data_in (e ∷ h) n)

  silent_once : (n : Name) → Silent e n → lives (after e) n ≡ lives t n → Reported n
  silent_once n s same c =
      let k : reports h n + bit (lives t n) ≡ 1 = o.once n (shut_counted start.counts e h n s.not_opened c) in
      rw (shut_reports start.counts e h n s.not_opened, same, unreported (cost_told e).ended (lives t n)) (omega (arith, k))

  silent_bound : (n : Name) → Silent e n → Bound n
  silent_bound n s c = rw (silent_spent start.counts e h n s, shut_data start.counts e h n s.not_opened) (o.bound n (shut_counted start.counts e h n s.not_opened c))

  abbrev BillAt : ℕ → Type 0
  BillAt i = Live (record_at (after e) i) → role_of (record_at (after e) i).state ≡ Initiator → asked (e ∷ h) (name_of (record_at (after e) i)) ≡ true → Bill start.counts (after e) (e ∷ h) i

  -- a bill is within its bound
  bill_bound : (i : ℕ) → i < count (after e) → Live (record_at (after e) i) → (n : Name) → name_of (record_at (after e) i) ≡ n → Bill start.counts (after e) (e ∷ h) i → spent start.counts (e ∷ h) n ≤ (1 + max) * (4 + data_in (e ∷ h) n)
  bill_bound i inside live n is b =
      let small : (record_at (after e) i).rcr.0 ≤ max = rw (a.same_settings, v.rcr_max) at (live_range (after e) a.formed i (record { inside = inside; live = live })).bounds.rcr in
      let more : 1 + (record_at (after e) i).rcr.0 ≤ 1 + max = omega arith in
      let within : spent start.counts (e ∷ h) n ≤ (1 + (record_at (after e) i).rcr.0) * (4 + data_in (e ∷ h) n) = rw is at b.paid.within in
      omega (arith, within, mul-le-mul_right (4 + data_in (e ∷ h) n) more)

  -- a live record that didn't change, under a name that is silent
  still_bill : (i : ℕ) → i < count t → record_at (after e) i ≡ record_at t i → (Live (record_at t i) → Silent e (name_of (record_at t i))) → BillAt i
  still_bill i inside same quiet live asks known =
      let l : Live (record_at t i) = rw same at live in
      let s : Silent e (name_of (record_at t i)) = quiet l in
      let b : Bill start.counts t h i = o.bills i inside l (rw same at asks) (rw (same, shut_asked start.counts e h (name_of (record_at t i)) s.not_opened) at known) in
      record {
        paid = rw (same, silent_spent start.counts e h (name_of (record_at t i)) s, shut_data start.counts e h (name_of (record_at t i)) s.not_opened) b.paid;
        class = rw (same, shut_class start.counts e h (name_of (record_at t i)) s.not_opened) b.class;
      }

  next_owed : ((i : ℕ) → i < count t → BillAt i) → ((n : Name) → Reported n) → ((n : Name) → Bound n) → Owed start.counts max (after e) (e ∷ h)
  next_owed bills once bound = record { bills = λ i inside. bills i (rw a.same_count at inside); once = once; bound = bound }

  by_name : (P : Name → Type 0) (own : Name) → P own → ((n : Name) → (n ≡ own → ⊥) → P n) → (n : Name) → P n
  by_name P own here else n = go (same_name n own)
    where
      go : (n ≡ own) ⊎ (n ≡ own → ⊥) → P n
      go (inl q) = subst P (sym q) here
      go (inr d) = else n d

  quiet_owed : Quiet e → Owed start.counts max (after e) (e ∷ h)
  quiet_owed q = next_owed (λ i inside. still_bill i inside (q.same i) (λ l. q.silent (name_of (record_at t i)))) (λ n. silent_once n (q.silent n) (quiet_lives e a.same_count n q.same)) (λ n. silent_bound n (q.silent n))

  -- a request of class 0 isn't counted
  once_owed : Once e → Owed start.counts max (after e) (e ∷ h)
  once_owed m =
      next_owed
      (λ i inside live. still_bill i inside (m.same i) (λ l. m.others (name_of (record_at t i)) (unused_name t m.name m.unused i inside l)) live)
      (by_name Reported m.name (λ c. uncounted c) (λ n d. silent_once n (m.others n d) (quiet_lives e a.same_count n m.same)))
      (by_name Bound m.name (λ c. uncounted c) (λ n d. silent_bound n (m.others n d)))
    where
      uncounted : {A : Type 0} → Counted (e ∷ h) m.name → A
      uncounted c = absurd (omega (arith, c.class, open_class start.counts e h m.name m.opened, m.class_0))

  module _ (m : Turned e) where
    abbrev was : Record
    was = record_at t m.place

    abbrev own : Name
    own = name_of was

    abbrev pub turn : Turn
    turn = live_turn t m.place m.event m.given

    kept_or_freed : FreedOrSame was turn.after
    unfolding live_turn row_at
    kept_or_freed = turn_keeps m.given (settings_of t) (intervals_of t) was m.event

    pub same_own : Live turn.after → name_of turn.after ≡ own
    same_own = name_kept was turn.after kept_or_freed

    same_class : Live turn.after → class_of turn.after.state ≡ class_of was.state
    same_class live = go kept_or_freed
      where
        go : FreedOrSame was turn.after → class_of turn.after.state ≡ class_of was.state
        go (inl x) = absurd (freed_is_dead turn.after x live)
        go (inr x) = x.class

    pub live_or_dead : Live turn.after ⊎ (Live turn.after → ⊥)
    live_or_dead = go (lt_or_le (state_number turn.after.state) 1)
      where
        go : (state_number turn.after.state < 1) ⊎ (1 ≤ state_number turn.after.state) → Live turn.after ⊎ (Live turn.after → ⊥)
        go (inl z) = inr (λ (k : Live turn.after). omega (arith, k, z))
        go (inr k) = inl k

    pub other_lives : (n : Name) → (n ≡ own → ⊥) → lives (after e) n ≡ lives t n
    other_lives n d = rest_lives e a.same_count n m.place m.rest (other_uncalled n was d) (gone live_or_dead)
      where
        gone : Live turn.after ⊎ (Live turn.after → ⊥) → CalledBy n (record_at (after e) m.place) → ⊥
        gone (inl live) = other_uncalled n (record_at (after e) m.place) (λ q. d (q ∙ ap name_of (m.put live) ∙ same_own live))
        gone (inr dead) = free_uncalled n (record_at (after e) m.place) (m.freed dead)

    pub lived : lives t own ≡ true
    lived = named_lives t m.place m.inside m.live own refl

    pub lives_on : Live turn.after → lives (after e) own ≡ true
    lives_on live = named_lives (after e) m.place (rw a.same_count m.inside) (rw (m.put live) live) own (ap name_of (m.put live) ∙ same_own live)

    pub lives_not : (Live turn.after → ⊥) → lives (after e) own ≡ false
    lives_not dead = freed_gone e v.formed a.same_count m.place m.inside m.live m.rest (m.freed dead)

    -- what it tells of a request
    pub left_is : Live turn.after → cost_told e ≡ role_cost (role_of was.state) turn.after.sent false
    left_is live = m.told ∙ left_told turn.after was live ∙ ap (λ (n : Name). role_cost n.role turn.after.sent false) (same_own live)

    pub freed_is : (Live turn.after → ⊥) → cost_told e ≡ role_cost (role_of was.state) was.sent true
    freed_is dead = m.told ∙ freed_told turn.after was dead

    pub ended_told : role_of was.state ≡ Initiator → (Live turn.after → ⊥) → (cost_told e).ended ≡ true
    unfolding role_cost
    ended_told asks dead = ap (λ (c : Cost). c.ended) (freed_is dead) ∙ rw asks refl

    -- of a request that was accepted since the start
    module _ (asks : role_of was.state ≡ Initiator) (known : asked h own ≡ true) where
      pub bill : Bill start.counts t h m.place
      bill = o.bills m.place m.inside m.live asks known

      fit : Fitting was.state turn
      fit = live_fitting t m.place m.event m.given m.live asks

      paid_now : pick (over (class_in h own) (tally start.counts h own)) 0 (charged e own) ≡ cost_of turn.send was.len
      paid_now = rw (bill.class, v.says m.place m.inside m.live, over_is was.state was.rcr.0 was.hold_on m.live asks) (go (closed was.state) refl)
        where
          go : (b : Bool) → closed was.state ≡ b → pick b 0 (charged e own) ≡ cost_of turn.send was.len
          go true q = sym (costs_nothing turn.send was.len (fit.uncounted q))
          go false q = m.weighs (fit.counted q)

      spent_is : spent start.counts (e ∷ h) own ≡ spent start.counts h own + cost_of turn.send was.len
      spent_is = shut_spent start.counts e h own m.not_opened ∙ ap (λ (k : ℕ). spent start.counts h own + k) paid_now

      -- a turn that ends it adds nothing
      pub spent_same : (Live turn.after → ⊥) → spent start.counts (e ∷ h) own ≡ spent start.counts h own
      spent_same dead =
          let none : cost_of turn.send was.len ≡ 0 = costs_nothing turn.send was.len (fit.ended (lt-leb 1 (state_number turn.after.state) (omega (arith, no_number (state_number turn.after.state) dead)))) in
          spent_is ∙ omega (arith, none)

      now_paid : FreedOrPaid turn.after (spent start.counts h own + cost_of turn.send (data_in h own)) (data_in h own)
      unfolding live_turn row_at
      now_paid =
          let bounds : Bounded (settings_of t) was = (live_range t v.formed m.place (record { inside = m.inside; live = m.live })).bounds in
          turn_charged m.given (settings_of t) (intervals_of t) m.event was (spent start.counts h own) (data_in h own) m.live bounds asks v.formed.header.settings.rcr_max bill.paid

      then_paid : Live turn.after → Paid turn.after (spent start.counts (e ∷ h) own) (data_in (e ∷ h) own)
      then_paid live = rw (spent_is, bill.paid.data_len, shut_data start.counts e h own m.not_opened) (go now_paid)
        where
          go : FreedOrPaid turn.after (spent start.counts h own + cost_of turn.send (data_in h own)) (data_in h own) → Paid turn.after (spent start.counts h own + cost_of turn.send (data_in h own)) (data_in h own)
          go (inl x) = absurd (freed_is_dead turn.after x live)
          go (inr x) = x

      pub then_bill : Live turn.after → Bill start.counts (after e) (e ∷ h) m.place
      then_bill live = record {
        paid = rw (m.put live, same_own live) (then_paid live);
        class = rw (m.put live, same_own live, shut_class start.counts e h own m.not_opened, same_class live) bill.class;
      }

      own_bound : Bound own
      own_bound c = go live_or_dead
        where
          go : Live turn.after ⊎ (Live turn.after → ⊥) → spent start.counts (e ∷ h) own ≤ (1 + max) * (4 + data_in (e ∷ h) own)
          go (inl live) = bill_bound m.place (rw a.same_count m.inside) (rw (m.put live) live) own (ap name_of (m.put live) ∙ same_own live) (then_bill live)
          go (inr dead) = rw (spent_same dead, shut_data start.counts e h own m.not_opened) (o.bound own (shut_counted start.counts e h own m.not_opened c))

      own_once : Reported own
      own_once c = go live_or_dead
        where
          k : reports h own + bit (lives t own) ≡ 1
          k = o.once own (shut_counted start.counts e h own m.not_opened c)

          none : reports h own ≡ 0
          none = let x : reports h own + 1 ≡ 1 = rw lived at k in omega (arith, x)

          go : Live turn.after ⊎ (Live turn.after → ⊥) → reports (e ∷ h) own + bit (lives (after e) own) ≡ 1
          go (inl live) = rw (shut_reports start.counts e h own m.not_opened, lived, lives_on live, none, unreported (cost_told e).ended true) refl
          go (inr dead) = rw (shut_reports start.counts e h own m.not_opened, lived, lives_not dead, none, ended_told asks dead) refl

    its_bill : BillAt m.place
    its_bill live asks known = go live_or_dead
      where
        go : Live turn.after ⊎ (Live turn.after → ⊥) → Bill start.counts (after e) (e ∷ h) m.place
        go (inl k) =
            let is : name_of (record_at (after e) m.place) ≡ own = ap name_of (m.put k) ∙ same_own k in
            then_bill (sym (ap (λ (n : Name). n.role) is) ∙ asks) (sym (shut_asked start.counts e h own m.not_opened) ∙ rw is at known) k
        go (inr dead) = absurd (not_free (record_at (after e) m.place).state live (m.freed dead))

    turned_owed : Owed start.counts max (after e) (e ∷ h)
    turned_owed =
        next_owed (λ i inside. go i inside (same_number i m.place))
        (by_name Reported own (λ c. own_once c.role (knows c) c) (λ n d. silent_once n (m.others n d) (other_lives n d)))
        (by_name Bound own (λ c. own_bound c.role (knows c) c) (λ n d. silent_bound n (m.others n d)))
      where
        knows : Counted (e ∷ h) own → asked h own ≡ true
        knows c = sym (shut_asked start.counts e h own m.not_opened) ∙ c.was_asked

        go : (i : ℕ) → i < count t → (i ≡ m.place) ⊎ (i ≡ m.place → ⊥) → BillAt i
        go i inside (inl q) = subst BillAt (sym q) its_bill
        go i inside (inr d) = still_bill i inside (m.rest i d) (λ l. m.others (name_of (record_at t i)) (two_names t v.formed i m.place inside m.inside d l m.live))

  module _ (m : Opened e) where
    abbrev first : Turn
    first = opened_turn e m.opening m.name m.user_ack m.tidnew m.given

    abbrev its : Name
    its = m.name

    pub is_its : name_of (record_at (after e) m.place) ≡ its
    is_its = ap name_of m.put ∙ m.named

    pub its_live : Live (record_at (after e) m.place)
    its_live = rw m.put m.live

    pub its_lives : lives (after e) its ≡ true
    its_lives = named_lives (after e) m.place (rw a.same_count m.inside) its_live its is_its

    pub first_bill : its.role ≡ Initiator → Bill start.counts (after e) (e ∷ h) m.place
    first_bill asks =
        let k = m.asks asks in
        let paid : Paid first.after (cost_of first.send m.given.len) m.given.len = opening_charged m.given (settings_of t) (intervals_of t) m.opening its.peer its.tid m.user_ack m.tidnew m.given_ok.len m.live (ap (λ (n : Name). n.role) m.named ∙ asks) in
        record {
          paid = rw (m.put, m.named, open_spent start.counts e h its m.opened, open_data start.counts e h its m.opened, k.weighs, sym k.data_len) paid;
          class = rw (m.put, m.named, open_class start.counts e h its m.opened, k.class) refl;
        }

    new_bill : BillAt m.place
    new_bill live asks known = first_bill (sym (ap (λ (n : Name). n.role) is_its) ∙ asks)

    new_bound : Bound its
    new_bound c = bill_bound m.place (rw a.same_count m.inside) its_live its is_its (first_bill c.role)

    new_once : Reported its
    new_once c = rw (open_reports start.counts e h its m.opened, m.unused, its_lives, not_lived (cost_told e).ended (not true)) refl

    pub others_live : (n : Name) → (n ≡ its → ⊥) → lives (after e) n ≡ lives t n
    others_live n d = rest_lives e a.same_count n m.place m.rest (free_uncalled n (record_at t m.place) m.was_free) (other_uncalled n (record_at (after e) m.place) (λ q. d (q ∙ is_its)))

    opened_owed : Owed start.counts max (after e) (e ∷ h)
    opened_owed =
        next_owed (λ i inside. go i inside (same_number i m.place))
        (by_name Reported its new_once (λ n d. silent_once n (m.others n d) (others_live n d)))
        (by_name Bound its new_bound (λ n d. silent_bound n (m.others n d)))
      where
        go : (i : ℕ) → i < count t → (i ≡ m.place) ⊎ (i ≡ m.place → ⊥) → BillAt i
        go i inside (inl q) = subst BillAt (sym q) new_bill
        go i inside (inr d) = still_bill i inside (m.rest i d) (λ l. m.others (name_of (record_at t i)) (unused_name t its m.unused i inside l))

  -- any move
  pub move_owed : Move e → Owed start.counts max (after e) (e ∷ h)
  move_owed (inl q) = quiet_owed q
  move_owed (inr (inl m)) = turned_owed m
  move_owed (inr (inr (inl m))) = opened_owed m
  move_owed (inr (inr (inr m))) = once_owed m
