-- What a call tells of the request that it means: the sum in the history, and its end; nothing where it means none. Assumes nothing.
use Prim.Native.Nat.{ℕ}
use native.Mathlib.Omega.{arith}
use mathlib.Core.Path.{◌≡◌, refl, sym, ap, subst, ◌∙◌}
use mathlib.Core.Bool.{Bool, true, false}
use mathlib.Core.List.{List, ◌∷◌}
use mathlib.Core.Logic.{◌⊎◌, inl, inr}
use Rattle.std.specs.Prelude.{Option, Some, None}
use Rattle.base_lists.proofs.StoresAndParts.{true_false}
use Rattle.table_record.specs.Record.{role_of, role_number}
use Rattle.table_record.specs.declared.Role.{Role}
use Rattle.table_record.specs.declared.Role.TheVariants.{Initiator, Responder}
use Rattle.table_record.specs.declared.Record.{Record}
use Rattle.table_record_ok.specs.OneRecord.{Live}
use Rattle.table_layout.specs.Table.{record_at}
use Rattle.step_plan.specs.declared.Told.{Told}
use Rattle.step_plan.specs.declared.Told.TheVariants as Told
use Rattle.step_outcome.specs.Carry.{Lent, Answer}
use Rattle.c_answers.specs.Answers.{no_cost, role_cost, change_cost}
use Rattle.c_answers.specs.declared.Cost.{Cost}
use Rattle.call_plans.specs.Calls.{Call}
use Rattle.law_history.specs.Trace.{Entry}
use Rattle.law_history.specs.Tally.{Name, told_of_is, lives}
use Rattle.law_history.specs.Start.{Start}
use Rattle.law_history.specs.Cost.{cost_told, GivenAs, MeantBy}
use Rattle.law_history.specs.Moves.{name_of, before, after, SameRecords, Turned, Opened, Move}
use Rattle.law_invariant.specs.Invariant.{Inv}
use Rattle.law_invariant.proofs.Names.{same_name}
use Rattle.law_invariant.proofs.InvariantKept.{Around}
use Rattle.law_cost.specs.Cost.{asked, spent, Counted, TellsSum, TellsNothing, Ended, EndsTold}
use Rattle.law_cost.specs.Owed.{Owed}
use Rattle.law_cost.proofs.Sums.{shut_asked, open_class}
use Rattle.law_cost.proofs.Living.{quiet_lives}
use Rattle.law_cost.proofs.Kept as Kept

-- a name is its role, peer and TID
same_parts : (m n : Name) → m.role ≡ n.role → m.peer ≡ n.peer → m.tid ≡ n.tid → m ≡ n
same_parts m n r p t = λ i. record { role = r i; peer = p i; tid = t i }

role_back_holds : (a b : Role) → role_number a ≡ role_number b → a ≡ b
role_back_holds Initiator Initiator e = refl
role_back_holds Initiator Responder e = absurd (omega (arith, e))
role_back_holds Responder Initiator e = absurd (omega (arith, e))
role_back_holds Responder Responder e = refl

-- a call means one name at the most
given_one : (role peer tid : ℕ) (m n : Name) → GivenAs role peer tid m → GivenAs role peer tid n → m ≡ n
given_one role peer tid m n j k = same_parts m n (role_back_holds m.role n.role (j.role_is ∙ sym k.role_is)) (j.peer_is ∙ sym k.peer_is) (j.tid_is ∙ sym k.tid_is)

fired_one : (told : Told) (m n : Name) → told ≡ Told.Fired m.role m.peer m.tid → told ≡ Told.Fired n.role n.peer n.tid → m ≡ n
fired_one told m n j k = ap fired_name (sym j ∙ k)
  where
    fired_name : Told → Name
    fired_name Told.Nothing = m
    fired_name (Told.Tid tid) = m
    fired_name (Told.Fired role peer tid) = record { role = role; peer = peer; tid = tid }

tid_one : (told : Told) (i j : ℕ) → told ≡ Told.Tid i → told ≡ Told.Tid j → i ≡ j
tid_one told i j p q = ap tid_in (sym p ∙ q)
  where
    tid_in : Told → ℕ
    tid_in Told.Nothing = i
    tid_in (Told.Tid k) = k
    tid_in (Told.Fired role peer tid) = i

borne_one : (b : Option (Role × ℕ)) (m n : Name) → b ≡ Some (m.role, m.tid) → b ≡ Some (n.role, n.tid) → m.peer ≡ n.peer → m ≡ n
borne_one b m n j k p = same_parts m n (ap role_in (sym j ∙ k)) p (ap tid_in (sym j ∙ k))
  where
    role_in : Option (Role × ℕ) → Role
    role_in None = m.role
    role_in (Some (role, tid)) = role

    tid_in : Option (Role × ℕ) → ℕ
    tid_in None = m.tid
    tid_in (Some (role, tid)) = tid

means_one : (c : Call) (l : Lent) (a : Answer) (m n : Name) → MeantBy c l a m → MeantBy c l a n → m ≡ n
means_one (Call.Request time peer class user_ack) l a m n (r, (p, t)) (s, (q, u)) = same_parts m n (r ∙ sym s) (p ∙ sym q) (tid_one (told_of_is a) m.tid n.tid t u)
means_one (Call.Answer time role peer tid) l a m n j k = given_one role peer tid m n j k
means_one (Call.Result time role peer tid) l a m n j k = given_one role peer tid m n j k
means_one (Call.Abort time role peer tid reason) l a m n j k = given_one role peer tid m n j k
means_one (Call.Receive time peer) l a m n (j, p) (k, q) = borne_one _ m n j k (p ∙ sym q)
means_one (Call.Timer time) l a m n j k = fired_one (told_of_is a) m n j k
means_one (Call.Fire time role peer tid) l a m n j k = fired_one (told_of_is a) m n j k

-- of an initiator's record a cost is its count, of a responder's none
asked_sent : (role : Role) (sent : ℕ) (ended : Bool) → role ≡ Initiator → (role_cost role sent ended).sent ≡ sent
unfolding role_cost
asked_sent role sent ended e = rw e refl

not_ended : (role : Role) (sent : ℕ) → (role_cost role sent false).ended ≡ false
unfolding role_cost no_cost
not_ended Initiator sent = refl
not_ended Responder sent = refl

answered_none : (role : Role) (sent : ℕ) (ended : Bool) → role ≡ Responder → role_cost role sent ended ≡ no_cost
unfolding role_cost
answered_none role sent ended e = rw e refl

none_ended : no_cost.ended ≡ false
unfolding no_cost
none_ended = refl

asks_or_not : (role : Role) → (role ≡ Initiator) ⊎ (role ≡ Responder)
asks_or_not Initiator = inl refl
asks_or_not Responder = inr refl

module _ (start : Start) (max : ℕ) (e : Entry) (h : List Entry) (v : Inv start max (before e) h) (a : Around e) (o : Owed start.counts max (before e) h) where
  abbrev sentIs : Name → Type 0
  sentIs n = (cost_told e).sent ≡ spent start.counts (e ∷ h) n

  abbrev Alive : Name → Type 0
  Alive n = (lives (before e) n ≡ true) ⊎ (lives (after e) n ≡ true)

  -- where no record changes none lives that didn't
  not_alive : SameRecords e → (n : Name) → lives (before e) n ≡ false → Alive n → ⊥
  not_alive same n dead (inl k) = true_false (sym k ∙ dead)
  not_alive same n dead (inr k) = true_false (sym k ∙ quiet_lives e a.same_count n same ∙ dead)

  sent_of_holds : (role : Role) (sent : ℕ) (ended : Bool) → cost_told e ≡ role_cost role sent ended → role ≡ Initiator → (cost_told e).sent ≡ sent
  sent_of_holds role sent ended told asks = ap (λ (c : Cost). c.sent) told ∙ asked_sent role sent ended asks

  turned_sum : (m : Turned e) → Counted (e ∷ h) (name_of (record_at (before e) m.place)) → sentIs (name_of (record_at (before e) m.place))
  turned_sum m c = go (Kept.live_or_dead start max e h v a o m)
    where
      was : Record
      was = record_at (before e) m.place

      known : asked h (name_of was) ≡ true
      known = sym (shut_asked start.counts e h (name_of was) m.not_opened) ∙ c.was_asked

      go : Live (Kept.turn start max e h v a o m).after ⊎ (Live (Kept.turn start max e h v a o m).after → ⊥) → sentIs (name_of was)
      go (inl live) =
          sent_of_holds (role_of was.state) _ false (Kept.left_is start max e h v a o m live) c.role
          ∙ rw (m.put live, Kept.same_own start max e h v a o m live) at (Kept.then_bill start max e h v a o m c.role known live).paid.sum
      go (inr dead) =
          sent_of_holds (role_of was.state) was.sent true (Kept.freed_is start max e h v a o m dead) c.role
          ∙ (Kept.bill start max e h v a o m c.role known).paid.sum ∙ sym (Kept.spent_same start max e h v a o m c.role known dead)

  put_told : (m : Opened e) → cost_told e ≡ role_cost m.name.role (record_at (after e) m.place).sent false
  unfolding change_cost
  put_told m = m.told ∙ ap (λ (r : Record). role_cost (role_of r.state) r.sent false) (sym m.put) ∙ ap (λ (n : Name). role_cost n.role (record_at (after e) m.place).sent false) (Kept.is_its start max e h v a o m)

  opened_sum : (m : Opened e) → Counted (e ∷ h) m.name → sentIs m.name
  opened_sum m c =
      sent_of_holds m.name.role _ false (put_told m) c.role
      ∙ rw (Kept.is_its start max e h v a o m) at (Kept.first_bill start max e h v a o m c.role).paid.sum

  -- the sum of its PDUs' lengths
  pub tells_sum : Move e → TellsSum start.counts e h
  tells_sum (inl q) taken n meant c alive = absurd (not_alive q.same n (q.unmeant taken n meant) alive)
  tells_sum (inr (inl m)) taken n meant c alive =
      let is : n ≡ name_of (record_at (before e) m.place) = means_one e.call e.lent e.done.answer n _ meant m.meant in
      subst sentIs (sym is) (turned_sum m (subst (Counted (e ∷ h)) is c))
  tells_sum (inr (inr (inl m))) taken n meant c alive =
      let is : n ≡ m.name = means_one e.call e.lent e.done.answer n m.name meant m.meant in
      subst sentIs (sym is) (opened_sum m (subst (Counted (e ∷ h)) is c))
  tells_sum (inr (inr (inr m))) taken n meant c alive =
      let is : n ≡ m.name = means_one e.call e.lent e.done.answer n m.name meant m.meant in
      absurd (omega (arith, (subst (Counted (e ∷ h)) is c).class, open_class start.counts e h m.name m.opened, m.class_0))

  responder_none : (m : Turned e) → role_of (record_at (before e) m.place).state ≡ Responder → cost_told e ≡ no_cost
  responder_none m role = go (Kept.live_or_dead start max e h v a o m)
    where
      go : Live (Kept.turn start max e h v a o m).after ⊎ (Live (Kept.turn start max e h v a o m).after → ⊥) → cost_told e ≡ no_cost
      go (inl live) = Kept.left_is start max e h v a o m live ∙ answered_none _ _ false role
      go (inr dead) = Kept.freed_is start max e h v a o m dead ∙ answered_none _ _ true role

  -- nothing where it means none
  pub tells_nothing : Move e → TellsNothing e h
  tells_nothing (inl q) none = q.untold
  tells_nothing (inr (inl m)) none = go (asks_or_not (role_of (record_at (before e) m.place).state))
    where
      go : (role_of (record_at (before e) m.place).state ≡ Initiator) ⊎ (role_of (record_at (before e) m.place).state ≡ Responder) → cost_told e ≡ no_cost
      go (inl asks) = absurd (none (name_of (record_at (before e) m.place)) asks m.meant (inl (Kept.lived start max e h v a o m)))
      go (inr role) = responder_none m role
  tells_nothing (inr (inr (inl m))) none = go (asks_or_not m.name.role)
    where
      go : (m.name.role ≡ Initiator) ⊎ (m.name.role ≡ Responder) → cost_told e ≡ no_cost
      go (inl asks) = absurd (none m.name asks m.meant (inr (Kept.its_lives start max e h v a o m)))
      go (inr role) = put_told m ∙ answered_none m.name.role _ false role
  tells_nothing (inr (inr (inr m))) none = m.untold

  -- nothing ends where no record changes
  same_ends : SameRecords e → cost_told e ≡ no_cost → EndsTold e h
  same_ends same untold = record {
    told = λ n k. true_false (sym k.lived ∙ sym (quiet_lives e a.same_count n same) ∙ k.gone);
    only = λ k. true_false (sym k ∙ (ap (λ (c : Cost). c.ended) untold ∙ none_ended));
  }

  turned_ends : (m : Turned e) → EndsTold e h
  turned_ends m = record { told = told; only = only }
    where
      was : Record
      was = record_at (before e) m.place

      told : (n : Name) → Ended e n → (cost_told e).ended ≡ true
      told n k = go (same_name n (name_of was)) (Kept.live_or_dead start max e h v a o m)
        where
          go : (n ≡ name_of was) ⊎ (n ≡ name_of was → ⊥) → Live (Kept.turn start max e h v a o m).after ⊎ (Live (Kept.turn start max e h v a o m).after → ⊥) → (cost_told e).ended ≡ true
          go (inl q) (inl live) = true_false (sym (Kept.lives_on start max e h v a o m live) ∙ rw q at k.gone)
          go (inl q) (inr dead) = Kept.ended_told start max e h v a o m (sym (ap (λ (x : Name). x.role) q) ∙ k.role) dead
          go (inr d) x = true_false (sym k.lived ∙ sym (Kept.other_lives start max e h v a o m n d) ∙ k.gone)

      only : (cost_told e).ended ≡ true → (n : Name) × Ended e n
      only ended = go (asks_or_not (role_of was.state)) (Kept.live_or_dead start max e h v a o m)
        where
          go : (role_of was.state ≡ Initiator) ⊎ (role_of was.state ≡ Responder) → Live (Kept.turn start max e h v a o m).after ⊎ (Live (Kept.turn start max e h v a o m).after → ⊥) → (n : Name) × Ended e n
          go (inl asks) (inl live) = true_false (sym ended ∙ (ap (λ (c : Cost). c.ended) (Kept.left_is start max e h v a o m live) ∙ not_ended (role_of was.state) _))
          go (inl asks) (inr dead) = (name_of was, record { role = asks; lived = Kept.lived start max e h v a o m; gone = Kept.lives_not start max e h v a o m dead })
          go (inr role) x = true_false (sym ended ∙ (ap (λ (c : Cost). c.ended) (responder_none m role) ∙ none_ended))

  opened_ends : (m : Opened e) → EndsTold e h
  opened_ends m = record {
    told = λ n k. go n k (same_name n m.name);
    only = λ ended. true_false (sym ended ∙ (ap (λ (c : Cost). c.ended) (put_told m) ∙ not_ended m.name.role _));
  }
    where
      go : (n : Name) → Ended e n → (n ≡ m.name) ⊎ (n ≡ m.name → ⊥) → (cost_told e).ended ≡ true
      go n k (inl q) = true_false (sym k.lived ∙ rw (sym q) at m.unused)
      go n k (inr d) = true_false (sym k.lived ∙ sym (Kept.others_live start max e h v a o m n d) ∙ k.gone)

  -- word 33 in the call that ends it, and only there
  pub ends_told : Move e → EndsTold e h
  ends_told (inl q) = same_ends q.same q.untold
  ends_told (inr (inl m)) = turned_ends m
  ends_told (inr (inr (inl m))) = opened_ends m
  ends_told (inr (inr (inr m))) = same_ends m.same m.untold
