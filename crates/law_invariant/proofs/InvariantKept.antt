-- Every move keeps the invariant, is calm, and brings an abort alone. Assumes nothing.
use Prim.Native.Nat.{ℕ, ◌≤◌, ◌<◌}
use native.Mathlib.Omega.{arith}
use mathlib.Core.Path.{◌≡◌, refl, sym, ap, subst, ◌∙◌}
use mathlib.Core.Bool.{Bool, false}
use mathlib.Core.List.{List, ◌∷◌}
use mathlib.Core.Logic.{◌⊎◌, inl, inr}
use Rattle.base_lists.proofs.StoresAndParts.{true_false}
use Rattle.table_record.specs.declared.State.{State}
use Rattle.table_record.specs.declared.State.TheVariants.{Free, IResultWait1, IResultWait2, IResultRespWait, IWaitTimeout, RTidokWait1, RTidokWait2, RInvokeRespWait1, RInvokeRespWait2, RResultWait, RResultRespWait, RWaitTimeout}
use Rattle.table_record.specs.declared.Record.{Record}
use Rattle.table_layout.specs.Table.{count, record_at, settings_of, intervals_of}
use Rattle.table_record_ok.specs.OneRecord.{Live, Bounded}
use Rattle.table_well_formed.specs.WellFormed.{WellFormed}
use Rattle.law_places.proofs.Places.{live_range}
use Rattle.row_turns.specs.Turns.{new_record}
use Rattle.row_turns.specs.declared.Turn.{Turn}
use Rattle.step_live.specs.Turning.{row_at, live_turn}
use Rattle.law_rows.specs.Transaction.{FreedOrSame}
use Rattle.law_rows.proofs.Transaction.{turn_keeps}
use Rattle.law_counting.specs.Counting.{Counts, requested, counts_in, counted, Fits, Limits, FreedOrFits, Tallied}
use Rattle.law_counting.proofs.Turns.{turn_fits, opening_fits}
use Rattle.law_counting.proofs.Aborts.{Alone, turn_alone, opening_alone}
use Rattle.law_history.specs.Trace.{Entry}
use Rattle.law_history.specs.Tally.{Name, adds, opens, tally}
use Rattle.law_history.specs.Start.{Start}
use Rattle.law_history.specs.Moves.{name_of, turn_adds, before, after, Silent, Quiet, Turned, opened_turn, Opened, Once, Move}
use Rattle.law_history.specs.Demand.{brings, Calm, AbortAlone}
use Rattle.law_invariant.specs.Invariant.{Says, Inv}
use Rattle.law_invariant.proofs.Counted.{silent_tally, goes_on, starts_anew}
use Rattle.law_plans_sound.proofs.Receives.{not_free}
use Rattle.law_invariant.proofs.Names.{same_number, same_name, two_names, unused_name}

-- a live record says that no abort was counted
pub none_aborted : (s : State) (rcr : ℕ) (holdOn : Bool) → (counts_in s rcr holdOn).aborts ≡ 0
none_aborted Free rcr holdOn = refl
none_aborted IResultWait1 rcr holdOn = refl
none_aborted IResultWait2 rcr holdOn = refl
none_aborted IResultRespWait rcr holdOn = refl
none_aborted IWaitTimeout rcr holdOn = refl
none_aborted RTidokWait1 rcr holdOn = refl
none_aborted RTidokWait2 rcr holdOn = refl
none_aborted RInvokeRespWait1 rcr holdOn = refl
none_aborted RInvokeRespWait2 rcr holdOn = refl
none_aborted RResultWait rcr holdOn = refl
none_aborted RResultRespWait rcr holdOn = refl
none_aborted RWaitTimeout rcr holdOn = refl

-- a freed record isn't live
pub freed_is_dead : (r : Record) → r ≡ new_record 0 0 false false → Live r → ⊥
unfolding new_record
freed_is_dead r e live = not_free r.state live (ap (λ (x : Record). x.state) e)

-- a record whose turn leaves it live keeps its name
pub name_kept : (r then : Record) → FreedOrSame r then → Live then → name_of then ≡ name_of r
name_kept r then (inl e) live = absurd (freed_is_dead then e live)
name_kept r then (inr s) live = λ i. record { role = s.role i; peer = s.peer i; tid = s.tid i }

-- a record that a turn leaves live says what was counted
live_fits : (r : Record) (c : Counts) → FreedOrFits r c → Live r → Fits r c
live_fits r c (inl e) live = absurd (freed_is_dead r e live)
live_fits r c (inr f) live = f.1

-- the first Invoke
once_limits : (max : ℕ) → Limits max (requested 1 0 0)
once_limits max = record { sends = omega arith; results_sent = omega arith; confirms = omega arith; results = omega arith; aborts = omega arith; shows = omega arith }

-- what every call leaves: a well-formed table of its size and its settings
pub record Around (e : Entry) : Type 0 where
  pub formed : WellFormed (after e)
  pub same_count : count (after e) ≡ count (before e)
  pub same_settings : settings_of (after e) ≡ settings_of (before e)

-- what a call does for demand 3
pub record Stepped (start : Start) (max : ℕ) (e : Entry) (h : List Entry) : Type 0 where
  pub inv : Inv start max (after e) (e ∷ h)
  pub calm : Calm start e h
  pub alone : AbortAlone e h

module _ (start : Start) (max : ℕ) (e : Entry) (h : List Entry) (v : Inv start max (before e) h) (a : Around e) where
  abbrev t : List ℕ
  t = before e

  silent_limits : (n : Name) → Silent e n → Limits max (tally start.counts (e ∷ h) n)
  silent_limits n s = rw (silent_tally start.counts e h n s) (v.limits n)

  silent_brings : (n : Name) → Silent e n → 1 ≤ brings (adds e n) → ⊥
  silent_brings n s b = omega (arith, rw s.adds_none at b)

  abbrev CalmAt : Name → Type 0
  CalmAt n = opens e n ≡ false → 1 ≤ brings (adds e n) → (tally start.counts h n).aborts ≡ 0

  silent_calm : (n : Name) → Silent e n → CalmAt n
  silent_calm n s shut b = absurd (silent_brings n s b)

  abbrev AloneAt : Name → Type 0
  AloneAt n = Alone (adds e n)

  silent_alone : (n : Name) → Silent e n → AloneAt n
  silent_alone n s some = absurd (omega (arith, rw s.adds_none at some))

  -- what holds of the call's own name and of every silent one holds of all
  by_name : (P : Name → Type 0) (own : Name) → ((n : Name) → (n ≡ own → ⊥) → Silent e n) → P own → ((n : Name) → Silent e n → P n) → (n : Name) → P n
  by_name P own others here else n = go (same_name n own)
    where
      go : (n ≡ own) ⊎ (n ≡ own → ⊥) → P n
      go (inl q) = subst P (sym q) here
      go (inr d) = else n (others n d)

  -- a live record that didn't change, under a name that is silent
  still_says : (i : ℕ) → i < count t → record_at (after e) i ≡ record_at t i → (Live (record_at t i) → Silent e (name_of (record_at t i))) → Live (record_at (after e) i) → Says start (after e) (e ∷ h) i
  still_says i inside same quiet live =
      let l : Live (record_at t i) = rw same at live in
      rw (same, silent_tally start.counts e h (name_of (record_at t i)) (quiet l)) (v.says i inside l)

  next_inv : ((i : ℕ) → i < count t → Live (record_at (after e) i) → Says start (after e) (e ∷ h) i) → ((n : Name) → Limits max (tally start.counts (e ∷ h) n)) → Inv start max (after e) (e ∷ h)
  next_inv says limits = record {
    formed = a.formed;
    rcr_max = rw a.same_settings v.rcr_max;
    says = λ i inside live. says i (rw a.same_count at inside) live;
    limits = limits;
  }

  within_max : (r : Record) (c : Counts) → Tallied (settings_of t).rcr_max r c → Tallied max r c
  within_max r c = subst (λ (n : ℕ). Tallied n r c) v.rcr_max

  pub quiet_keeps : Quiet e → Stepped start max e h
  quiet_keeps q = record {
    inv = next_inv (λ i inside live. still_says i inside (q.same i) (λ l. q.silent (name_of (record_at t i))) live) (λ n. silent_limits n (q.silent n));
    calm = λ n shut b. silent_calm n (q.silent n) shut b;
    alone = λ n. silent_alone n (q.silent n);
  }

  pub once_keeps : Once e → Stepped start max e h
  once_keeps m = record {
    inv =
        next_inv
        (λ i inside live. still_says i inside (m.same i) (λ l. m.others (name_of (record_at t i)) (unused_name t m.name m.unused i inside l)) live)
        (by_name (λ n. Limits max (tally start.counts (e ∷ h) n)) m.name m.others (rw (starts_anew start.counts e h m.name (requested 1 0 0) m.opened m.own) (once_limits max)) silent_limits);
    calm = by_name CalmAt m.name m.others (λ shut b. true_false (sym m.opened ∙ shut)) silent_calm;
    alone = by_name AloneAt m.name m.others (rw m.own (λ some. absurd (omega (arith, some)))) silent_alone;
  }

  module _ (m : Turned e) where
    abbrev was : Record
    was = record_at t m.place

    abbrev turn : Turn
    turn = live_turn t m.place m.event m.given

    tallied : Tallied max turn.after (counted (tally start.counts h (name_of was)) turn)
    unfolding live_turn row_at
    tallied =
        let bounds : Bounded (settings_of t) was = (live_range t v.formed m.place (record { inside = m.inside; live = m.live })).bounds in
        within_max turn.after (counted (tally start.counts h (name_of was)) turn)
        (turn_fits m.given (settings_of t) (intervals_of t) m.event was (tally start.counts h (name_of was)) m.live bounds v.formed.header.settings.rcr_max (v.says m.place m.inside m.live))

    kept_or_freed : FreedOrSame was turn.after
    unfolding live_turn row_at
    kept_or_freed = turn_keeps m.given (settings_of t) (intervals_of t) was m.event

    own_alone : Alone (turn_adds turn)
    unfolding live_turn row_at
    own_alone = turn_alone was m.given (settings_of t) (intervals_of t) (row_at t m.place m.event)

    tally_is : tally start.counts (e ∷ h) (name_of was) ≡ counted (tally start.counts h (name_of was)) turn
    tally_is = goes_on start.counts e h (name_of was) (turn_adds turn) m.not_opened m.own

    here_says : Live (record_at (after e) m.place) → Says start (after e) (e ∷ h) m.place
    here_says live = go tallied.state
      where
        go : FreedOrFits turn.after (counted (tally start.counts h (name_of was)) turn) → Says start (after e) (e ∷ h) m.place
        go (inl x) = absurd (not_free (record_at (after e) m.place).state live (m.freed (freed_is_dead turn.after x)))
        go (inr x) = rw (m.put x.0, name_kept was turn.after kept_or_freed x.0, tally_is) x.1

    all_say : (i : ℕ) → i < count t → Live (record_at (after e) i) → Says start (after e) (e ∷ h) i
    all_say i inside live = go (same_number i m.place)
      where
        go : (i ≡ m.place) ⊎ (i ≡ m.place → ⊥) → Says start (after e) (e ∷ h) i
        go (inl q) = subst (λ j. Says start (after e) (e ∷ h) j) (sym q) (here_says (rw q at live))
        go (inr d) = still_says i inside (m.rest i d) (λ l. m.others (name_of (record_at t i)) (two_names t v.formed i m.place inside m.inside d l m.live)) live

    pub turned_keeps : Stepped start max e h
    turned_keeps = record {
      inv = next_inv all_say (by_name (λ n. Limits max (tally start.counts (e ∷ h) n)) (name_of was) m.others (rw tally_is tallied.limits) silent_limits);
      calm = by_name CalmAt (name_of was) m.others (λ shut b. rw (v.says m.place m.inside m.live) (none_aborted was.state was.rcr.0 was.hold_on)) silent_calm;
      alone = by_name AloneAt (name_of was) m.others (rw m.own own_alone) silent_alone;
    }

  module _ (m : Opened e) where
    abbrev first : Turn
    first = opened_turn e m.opening m.name m.user_ack m.tidnew m.given

    new_tallied : Tallied max first.after (turn_adds first)
    new_tallied = within_max first.after (turn_adds first) (opening_fits m.given (settings_of t) (intervals_of t) m.opening m.name.peer m.name.tid m.user_ack m.tidnew)

    new_tally : tally start.counts (e ∷ h) m.name ≡ turn_adds first
    new_tally = starts_anew start.counts e h m.name (turn_adds first) m.opened m.own

    new_says : Says start (after e) (e ∷ h) m.place
    new_says = rw (m.put, m.named, new_tally) (live_fits first.after (turn_adds first) new_tallied.state m.live)

    each_says : (i : ℕ) → i < count t → Live (record_at (after e) i) → Says start (after e) (e ∷ h) i
    each_says i inside live = go (same_number i m.place)
      where
        go : (i ≡ m.place) ⊎ (i ≡ m.place → ⊥) → Says start (after e) (e ∷ h) i
        go (inl q) = subst (λ j. Says start (after e) (e ∷ h) j) (sym q) new_says
        go (inr d) = still_says i inside (m.rest i d) (λ l. m.others (name_of (record_at t i)) (unused_name t m.name m.unused i inside l)) live

    pub opened_keeps : Stepped start max e h
    opened_keeps = record {
      inv = next_inv each_says (by_name (λ n. Limits max (tally start.counts (e ∷ h) n)) m.name m.others (rw new_tally new_tallied.limits) silent_limits);
      calm = by_name CalmAt m.name m.others (λ shut b. true_false (sym m.opened ∙ shut)) silent_calm;
      alone = by_name AloneAt m.name m.others (rw m.own (opening_alone (new_record m.name.peer m.name.tid m.user_ack m.tidnew) m.given (settings_of t) (intervals_of t) m.opening)) silent_alone;
    }

  -- any move
  pub move_keeps : Move e → Stepped start max e h
  move_keeps (inl q) = quiet_keeps q
  move_keeps (inr (inl m)) = turned_keeps m
  move_keeps (inr (inr (inl m))) = opened_keeps m
  move_keeps (inr (inr (inr m))) = once_keeps m
