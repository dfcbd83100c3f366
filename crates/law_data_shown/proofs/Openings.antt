-- A PDU that opens a record is an Invoke of its class and U/P, and opens its name. Assumes nothing.
use Prim.Native.Nat.{ℕ, ◌<◌, ◌≤◌}
use native.Mathlib.Omega.{arith}
use borrow.Author.Tests.{eqb-true, eqb-false}
use mathlib.Core.Path.{◌≡◌, refl, sym, ap, ◌∙◌}
use mathlib.Core.Bool.{Bool, true, false, not}
use mathlib.Core.List.{List}
use mathlib.Core.Logic.{◌⊎◌, inl, inr}
use lib.ListN.{length}
use lib.Dec.{ltb, eqb}
use Rattle.std.specs.Prelude.{Option, None, Some}
use Rattle.base_layout.specs.Layout.{tid_count}
use Rattle.base_lists.specs.Seq.{pick}
use Rattle.base_lists.proofs.StoresAndParts.{true_false}
use Rattle.table_record.specs.Record.{class_of, state_number}
use Rattle.table_record.specs.declared.Role.TheVariants.{Responder}
use Rattle.table_record.specs.declared.State.{State}
use Rattle.table_record.specs.declared.Record.{Record}
use Rattle.codec_pdu.specs.declared.Pdu.{Pdu}
use Rattle.codec_reading.specs.Read.{type_of, pdu_of}
use Rattle.table_layout.specs.Table.{count, record_at, settings_of, intervals_of}
use Rattle.table_finding.specs.Finding.{free_of}
use Rattle.table_finding.specs.Searched.{Called, NoneOf}
use Rattle.row_events.specs.declared.Opening.{Opening}
use Rattle.row_events.specs.declared.Opening.TheVariants as Opening
use Rattle.row_choice.specs.Rows.{requested_of, opening_of, invoke0_of, by_class, invoke12_of}
use Rattle.row_choice.specs.declared.Arrived.{Arrived as Tests}
use Rattle.step_arrivals.specs.Arrivals.{tid_of, name_of, invokes_us, arrived_of}
use Rattle.step_arrivals.proofs.Names.{invoke_names_responder}
use Rattle.row_turns.specs.Turns.{new_record}
use Rattle.row_turns.specs.declared.Given.{Given}
use Rattle.row_turns.specs.declared.Turn.{Turn}
use Rattle.step_commit.specs.declared.Change.{Change}
use Rattle.step_commit.specs.declared.Change.TheVariants as Change
use Rattle.step_commit.specs.declared.GenTid.{GenTid}
use Rattle.step_changes.specs.Changes.{change_of}
use Rattle.step_opening.specs.Opens.{place_for, opened_turn, opening_changes, opening_step}
use Rattle.step_plan.specs.Steps.{step_of}
use Rattle.step_plan.specs.declared.Holder.{Holder}
use Rattle.step_plan.specs.declared.Call.{Call as Asked}
use Rattle.call_receive.specs.Receives.{arriver_of, opened_given, opened_call, arrival_opening}
use Rattle.call_receive.proofs.Ways.{Unmatched}
use Rattle.law_plans_sound.proofs.Openings.{opened_role, OpenedAs, opened_as}
use Rattle.law_plans_sound.proofs.Receives.{not_free, same_role}
use Rattle.law_history.specs.Trace.{Entry}
use Rattle.call_plans.specs.Calls.{Call}
use Rattle.law_history.specs.Tally.{lives, opens}
use Rattle.law_history.specs.Changed.{IsInvoke, ByInvoke}
use Rattle.law_one_turn.proofs.Roles.{class_some}
use Rattle.law_history.specs.Demand.{responder}
use Rattle.law_data_shown.proofs.Effects.{Left}
use Rattle.law_data_shown.proofs.Living.{called_lives, none_lives, opens_now}
use Rattle.law_data_shown.proofs.Verifying.{is_to_verify, is_shown0, opens_class, opened_class, opened_ack}
use Rattle.law_data_shown.proofs.InvokeKind.{invoke_read}

-- ---- what the tests of a PDU say of its opening

picked : (P : Opening → Type 0) (b : Bool) (x y : Opening) → (b ≡ true → P x) → (b ≡ false → P y) → P (pick b x y)
picked P true x y p q = p refl
picked P false x y p q = q refl

-- an Invoke shown without a record is of class 0, one that opens a record of that record's class; one to be verified isn't too long; what is opened is a responder's
pub record Fitting (a : Tests) (o : Opening) : Type 0 where
  pub of_class_0 : is_shown0 o ≡ true → a.class ≡ 0
  pub of_class : 1 ≤ opens_class o → a.class ≤ 2 → opens_class o ≡ a.class
  pub invokes : (is_shown0 o ≡ true) ⊎ (1 ≤ opens_class o) → (a.invoke ≡ true) × (a.malformed ≡ false)
  pub short : is_to_verify o ≡ true → a.too_long ≡ false
  pub responds : opened_role o ≡ Responder

module _ (a : Tests) where
  -- an opening that shows no Invoke and leaves no record
  neither : (o : Opening) → is_shown0 o ≡ false → opens_class o ≡ 0 → is_to_verify o ≡ false → opened_role o ≡ Responder → Fitting a o
  neither o x n y r = record {
    of_class_0 = λ e. true_false (sym e ∙ x);
    of_class = λ some most. absurd (omega (arith, some, n));
    invokes = not_so;
    short = λ e. true_false (sym e ∙ y);
    responds = r;
  }
    where
      not_so : (is_shown0 o ≡ true) ⊎ (1 ≤ opens_class o) → (a.invoke ≡ true) × (a.malformed ≡ false)
      not_so (inl e) = true_false (sym e ∙ x)
      not_so (inr some) = absurd (omega (arith, some, n))

  module _ (i : a.invoke ≡ true) (m : a.malformed ≡ false) where
    invoke_0 : eqb a.class 0 ≡ true → Fitting a (invoke0_of a)
    unfolding invoke0_of
    invoke_0 zero =
        picked P a.wrong_version _ _ (λ w. neither _ refl refl refl refl)
        (λ w. picked P a.ttr_clear _ _ (λ c. neither _ refl refl refl refl)
        (λ c. picked P a.too_long _ _ (λ l. neither _ refl refl refl refl)
        (λ l. record { of_class_0 = λ e. eqb-true a.class 0 zero; of_class = λ some most. absurd (omega (arith, some)); invokes = λ e. (i, m); short = λ e. true_false (sym e); responds = refl })))
      where
        P : Opening → Type 0
        P o = Fitting a o

    -- a record of class 1 or 2
    with_record : (o : Opening) → is_shown0 o ≡ false → (a.class ≤ 2 → opens_class o ≡ a.class) → (is_to_verify o ≡ true → a.too_long ≡ false) → opened_role o ≡ Responder → Fitting a o
    with_record o x c l r = record { of_class_0 = λ e. true_false (sym e ∙ x); of_class = λ some most. c most; invokes = λ e. (i, m); short = l; responds = r }

    is_1 : eqb a.class 1 ≡ true → 1 ≡ a.class
    is_1 e = sym (eqb-true a.class 1 e)

    is_2 : eqb a.class 0 ≡ false → eqb a.class 1 ≡ false → a.class ≤ 2 → 2 ≡ a.class
    is_2 z o most = omega (arith, most, eqb-false a.class 0 z, eqb-false a.class 1 o)

    invoke_12 : eqb a.class 0 ≡ false → Fitting a (invoke12_of a)
    unfolding by_class invoke12_of
    invoke_12 z =
        picked P a.wrong_version _ _ (λ w. neither _ refl refl refl refl)
        (λ w. picked P a.ttr_clear _ _ (λ c. neither _ refl refl refl refl)
        (λ c. picked P a.too_long _ _ (λ l. neither _ refl refl refl refl)
        (λ l. picked P a.full _ _ (λ f. neither _ refl refl refl refl)
        (λ f. picked P a.tidnew _ _
        (λ n. picked P (eqb a.class 1) _ _ (λ o. with_record Opening.Restarted1 refl (λ most. is_1 o) (λ e. l) refl) (λ o. with_record Opening.Restarted2 refl (is_2 z o) (λ e. l) refl))
        (λ n. picked P a.valid _ _
        (λ v. picked P (eqb a.class 1) _ _ (λ o. with_record Opening.Valid1 refl (λ most. is_1 o) (λ e. l) refl) (λ o. with_record Opening.Valid2 refl (is_2 z o) (λ e. l) refl))
        (λ v. picked P (eqb a.class 1) _ _ (λ o. with_record Opening.ToVerify1 refl (λ most. is_1 o) (λ e. l) refl) (λ o. with_record Opening.ToVerify2 refl (is_2 z o) (λ e. l) refl)))))))
      where
        P : Opening → Type 0
        P o = Fitting a o

  pub arrival_fits : Fitting a (opening_of a)
  unfolding opening_of
  arrival_fits =
      picked P a.invoke _ _
      (λ i. picked P a.malformed _ _ (λ m. neither _ refl refl refl refl) (λ m. picked P (eqb a.class 0) _ _ (invoke_0 i m) (invoke_12 i m)))
      (λ i. picked P a.malformed _ _ (λ m. neither _ refl refl refl refl) (λ m. picked P a.tidve _ _ (λ t. neither _ refl refl refl refl) (λ t. neither _ refl refl refl refl)))
    where
      P : Opening → Type 0
      P o = Fitting a o

-- a request is of one of three openings
pub requested_one : (P : Opening → Type 0) → P Opening.Requested0 → P Opening.Requested1 → P Opening.Requested2 → (class : ℕ) → P (requested_of class)
unfolding requested_of
requested_one P a b c class = picked P (eqb class 0) _ _ (λ e. a) (λ e. picked P (eqb class 1) _ _ (λ q. b) (λ q. c))

-- ---- the change of an opening

module _ (t : List ℕ) (opening : Opening) (h : Holder) (g : Given) (gen_tid : Option GenTid) (c : Asked) where
  abbrev opened : Record
  opened = (opened_turn t opening h g).after

  pub opening_leaves : eqb (state_number opened.state) 0 ≡ true → (opening_step t opening h g gen_tid c).changes.change ≡ Change.Nothing
  unfolding opening_step step_of opening_changes change_of
  opening_leaves e = rw e refl

  pub opening_puts : eqb (state_number opened.state) 0 ≡ false → (opening_step t opening h g gen_tid c).changes.change ≡ Change.Put opened
  unfolding opening_step step_of opening_changes change_of
  opening_puts e = rw e refl

live_tested : (s : State) → 1 ≤ state_number s → eqb (state_number s) 0 ≡ false
live_tested s h = go (eqb (state_number s) 0) refl
  where
    go : (b : Bool) → eqb (state_number s) 0 ≡ b → b ≡ false
    go true e = absurd (omega (arith, h, eqb-true (state_number s) 0 e))
    go false e = refl

-- ---- a PDU without a live record

-- a record is opened: it is there, under the name that the PDU brings, and that PDU is its Invoke
pub record OpenedNow (e : Entry) (opened : Record) (place peer tid : ℕ) : Type 0 where
  pub there : record_at e.done.table place ≡ opened
  pub peer_is : opened.peer ≡ peer
  pub tid_is : opened.tid ≡ tid
  pub opens_is : opens e (responder peer tid) ≡ true
  pub by : ByInvoke e opened

module _ (e : Entry) (time peer : ℕ) (called : e.call ≡ Call.Receive time peer) (u : Unmatched e.lent.table time peer e.lent.given) where
  abbrev t : List ℕ
  t = e.lent.table

  abbrev p : Pdu
  p = pdu_of e.lent.given

  abbrev pub opening : Opening
  opening = arrival_opening t peer u.tid e.lent.given p

  abbrev pub holder : Holder
  holder = arriver_of (place_for (free_of t (count t))) u.role peer u.tid p.kind

  abbrev pub turn : Turn
  turn = opened_turn t opening holder (opened_given time p)

  -- the PDU is an Invoke to a responder, of the class and U/P that are shown
  pub record Invoking : Type 0 where
    pub responder_is : u.role ≡ Responder
    pub invoke : IsInvoke e.lent.given holder.class holder.up
    pub of_class : 1 ≤ opens_class opening → opens_class opening ≡ holder.class

  us_type : (s : List ℕ) → invokes_us s ≡ true → type_of s ≡ 1
  unfolding invokes_us
  us_type s = go (ltb (length s) 3) (eqb (type_of s) 1) refl (ltb (tid_of s) tid_count)
    where
      go : (x b : Bool) → eqb (type_of s) 1 ≡ b → (c : Bool) → pick x false (pick b c false) ≡ true → type_of s ≡ 1
      go true b q c h = true_false (sym h)
      go false true q c h = eqb-true (type_of s) 1 q
      go false false q c h = true_false (sym h)

  not_malformed : (b : Bool) → not b ≡ false → b ≡ true
  not_malformed true h = refl
  not_malformed false h = true_false h

  pub invoking : (is_shown0 opening ≡ true) ⊎ (1 ≤ opens_class opening) → Invoking
  unfolding arrival_opening arrived_of arriver_of
  invoking which =
      let f = arrival_fits _ in
      let sound = f.invokes which in
      let k = invoke_read e.lent.given (us_type e.lent.given sound.0) (not_malformed _ sound.1) in
      record {
        responder_is = same_role (name_of e.lent.given) u.role Responder u.tid (tid_of e.lent.given) u.names (invoke_names_responder e.lent.given sound.0);
        invoke = record { gtr = k.gtr; ttr = k.ttr; rid = k.rid; version = k.version; tid_new = k.tid_new; is = k.is };
        of_class = λ some. f.of_class some k.class_known;
      }

  -- the PDU names the responder's TID
  pub names_it : Invoking → name_of e.lent.given ≡ Some (Responder, u.tid)
  names_it k = rw k.responder_is at u.names

  none_before : Invoking → NoneOf (Called Responder peer u.tid) t (count t)
  none_before k = rw k.responder_is at u.none

  pub lived_not : Invoking → lives t (responder peer u.tid) ≡ false
  lived_not k = none_lives t peer u.tid (none_before k)

  of_opening : class_of turn.after.state ≡ opens_class opening
  unfolding opened_turn
  of_opening = opened_class _ (opened_given time p) (settings_of t) (intervals_of t) opening

  pub some_opened : 1 ≤ state_number turn.after.state → 1 ≤ opens_class opening
  some_opened live = rw of_opening at (class_some turn.after.state live)

  module _ (left : Left e.lent (opening_step t opening holder (opened_given time p) None (opened_call p)) e.done) (live : 1 ≤ state_number turn.after.state) where
    abbrev place : ℕ
    place = place_for (free_of t (count t))

    there_is : record_at e.done.table place ≡ turn.after
    unfolding opening_step step_of opening_changes arriver_of
    there_is = left.put_is turn.after (opening_puts t opening holder (opened_given time p) None (opened_call p) (live_tested turn.after.state live))

    inside : place < count e.done.table
    unfolding opening_step step_of opening_changes arriver_of
    inside = rw left.same_length left.inside

    named : OpenedAs opening (new_record peer u.tid holder.up holder.tidnew) turn.after
    unfolding opened_turn arriver_of
    named = opened_as opening (new_record peer u.tid _ _) (opened_given time p) (settings_of t) (intervals_of t) live

    responds_so : opened_role opening ≡ Responder
    unfolding arrival_opening
    responds_so = (arrival_fits _).responds

    some_class : 1 ≤ opens_class opening
    some_class = some_opened live

    its_invoke : Invoking
    its_invoke = invoking (inr some_class)

    same_ack : turn.after.user_ack ≡ holder.up
    unfolding opened_turn new_record
    same_ack = opened_ack _ (opened_given time p) (settings_of t) (intervals_of t) opening some_class

    called_so : (r : Record) → r ≡ turn.after → Called Responder peer u.tid r
    unfolding new_record
    called_so r is = rw is (record { live = not_free turn.after.state live; role_is = named.role ∙ responds_so; peer_is = named.peer; tid_is = named.tid })

    by_invoke : ByInvoke e turn.after
    unfolding new_record
    by_invoke = record {
      time = time;
      received = called ∙ ap (Call.Receive time) (sym named.peer);
      role = named.role ∙ responds_so;
      names = names_it its_invoke ∙ ap (λ (n : ℕ). Some (Responder, n)) (sym named.tid);
      invoke = rw (of_opening ∙ its_invoke.of_class some_class, same_ack) its_invoke.invoke;
    }

    pub opened_now : OpenedNow e turn.after place peer u.tid
    unfolding new_record
    opened_now = record {
      there = there_is;
      peer_is = named.peer;
      tid_is = named.tid;
      opens_is = opens_now e peer u.tid (lived_not its_invoke) (called_lives e.done.table peer u.tid place inside (called_so _ there_is));
      by = by_invoke;
    }
