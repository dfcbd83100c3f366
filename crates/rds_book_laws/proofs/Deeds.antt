-- What a frame from the peer does to a well-formed book: one of six deeds, by its row. Assumes nothing.
use mathlib.Core.Path.{◌≡◌, refl, sym, ap, ◌∙◌}
use mathlib.Core.List.{List}
use mathlib.Core.Bool.{Bool, true, false}
use mathlib.Core.Logic.{◌⊎◌, inl, inr}
use Prim.Native.Nat.{ℕ, ◌/◌, ◌%◌, ◌≤◌, ◌<◌}
use native.Mathlib.Omega.{arith}
use lib.ListN.{length, get_or}
use lib.Dec.{eqb}
use lib.Seq.{ext_get_or}
use borrow.Author.Tests.{eqb-true, eqb-false}
use Rattle.base_lists.specs.Seq.{pick, part}
use Rattle.base_lists.proofs.StoresAndParts.{both_fst, both_snd, every_at, true_false}
use Rattle.rds_frame.specs.declared.Kind.{Kind}
use Rattle.rds_frame.specs.declared.Kind.TheVariants as K
use Rattle.rds_body.specs.declared.Body.{Body}
use Rattle.rds_body.specs.declared.Body.TheVariants as B
use Rattle.rds_book.specs.Book.{place_of, app_of_is, keep, cleared, same}
use Rattle.rds_rows.specs.declared.Row.{Row}
use Rattle.rds_rows.specs.declared.Row.TheVariants.{R1, R2, R3, R4, R5, R10, R11, R12, R13, R14}
use Rattle.rds_rows.specs.Rows.{common, best, reserve_row, release_row, answer_row, event_of, format_of}
use Rattle.rds_turn.specs.declared.Turn.{Turn}
use Rattle.rds_turn.specs.Turn as T
use Rattle.rds_receiving.specs.Receiving.{reservation, book_by}
use Rattle.rds_book_laws.specs.Formed.{CommandRange, PlaceFormed, IsApp, Formed}
use Rattle.rds_book_laws.proofs.FormedTest.{free_tag}
use Rattle.rds_book_laws.proofs.FrameFacts.{Asked, BodyFacts}

-- Success is answered to a Reserve: by its Status, its event and its Action
abbrev pub succeeds : ℕ → ℕ → ℕ → Bool
succeeds status event action = pick (eqb status 0) (pick (pick (eqb event 1) true (eqb event 2)) (pick (eqb action 2) false true) false) false

abbrev pub wins : Turn → Bool
wins t = succeeds t.status (event_of t.row) t.action

-- Success answered to a Reserve of a port that is reserved: for port 0, or for the same pair and application
abbrev pub Lawful : List ℕ → List ℕ → Turn → Type 0
Lawful b app t = wins t ≡ true → (t.own ≡ 0) ⊎ (((place_of b t.own).tag ≡ 0) ⊎ ((t.peer ≡ (place_of b t.own).peer) × (app ≡ app_of_is b t.own)))

-- our outstanding command
pub record Ours (b : List ℕ) (t : Turn) : Type 0 where
  pub there : 1 ≤ (place_of b 0).tag
  pub event : event_of t.row ≡ 2
  pub action : t.action ≡ (place_of b 0).tag
  pub own : t.own ≡ (place_of b 0).own
  pub peer : t.peer ≡ (place_of b 0).peer

pub data Deed (b app frame : List ℕ) (t : Turn) : Type 0 where
  -- R1 to R4, R6, R8, R9, R15
  still : book_by b app t t.row ≡ b → t.changed ≡ false → (event_of t.row ≡ 2 → ⊥) → Lawful b app t → (wins t ≡ true → part frame t.start t.len ≡ app) → Deed b app frame t
  -- R5
  reserves : book_by b app t t.row ≡ keep b t.own (reservation 2 t) app → t.changed ≡ true → event_of t.row ≡ 1 → eqb t.action 2 ≡ false → t.status ≡ 0 → (place_of b t.own).tag ≡ 0 → (1 ≤ t.own) × (t.own < 16)
      → (t.peer ≤ 15) × (t.format ≤ 7) → IsApp app → part frame t.start t.len ≡ app → T.engaged b app t.own t.peer ≡ false → Deed b app frame t
  -- R7
  frees : book_by b app t t.row ≡ cleared b t.own → t.changed ≡ true → event_of t.row ≡ 1 → eqb t.action 2 ≡ true → (1 ≤ t.own) × (t.own < 16) → Deed b app frame t
  -- R10
  gains : book_by b app t t.row ≡ cleared (keep b t.own (reservation 1 t) (app_of_is b 0)) 0 → t.changed ≡ true → Ours b t → eqb t.action 2 ≡ false → t.status ≡ 0 → t.format ≤ 7 → Deed b app frame t
  -- R11, R13, R14
  ends : book_by b app t t.row ≡ cleared b 0 → t.changed ≡ false → Ours b t → wins t ≡ false → Deed b app frame t
  -- R12
  loses : book_by b app t t.row ≡ cleared (cleared b t.own) 0 → t.changed ≡ T.own_reserved b → Ours b t → eqb t.action 2 ≡ true → Deed b app frame t

-- two lists that are the same octets are the same
pub same_lists : (s t : List ℕ) → same s t ≡ true → s ≡ t
unfolding same
same_lists s t h =
    let e : length s ≡ length t = eqb-true _ _ (both_fst (eqb (length s) (length t)) _ h) in
    ext_get_or 0 s t e (λ (i : ℕ) (l : i < length s). eqb-true _ _ (every_at (λ k. eqb (get_or s k 0) (get_or t k 0)) (length t) (both_snd (eqb (length s) (length t)) _ h) i (rw (sym e) l)))

-- the outstanding command of a well-formed book is in range
pub command_range : (b : List ℕ) → Formed b → 1 ≤ (place_of b 0).tag → CommandRange (place_of b 0)
command_range b f h = go (f.places 0 (omega arith)) where
  go : PlaceFormed b 0 → CommandRange (place_of b 0)
  go (inl z) = absurd (omega (arith, free_tag b 0 z, h))
  go (inr u) = u.range

best_small : (o s : ℕ) → best o s ≤ 7
unfolding best
best_small o s = go (common o s) (common (o / 2) (s / 2)) (common (o / 4) (s / 4)) where
  go : (x y z : Bool) → pick x 1 (pick y 2 (pick z 4 0)) ≤ 7
  go true y z = omega arith
  go false true z = omega arith
  go false false true = omega arith
  go false false false = omega arith

-- the rows of a Reserve command, each with what holds
reserve_cases : (P : Row → Type 0) (again mine taken none : Bool) → (again ≡ true → P R1) → (again ≡ false → P R2) → P R3 → (mine ≡ false → P R4) → (again ≡ false → mine ≡ true → taken ≡ false → none ≡ false → P R5) → P (reserve_row again mine taken none)
unfolding reserve_row
reserve_cases P true mine taken none p q r s u = p refl
reserve_cases P false true true none p q r s u = q refl
reserve_cases P false true false true p q r s u = r
reserve_cases P false true false false p q r s u = u refl refl refl refl
reserve_cases P false false taken true p q r s u = r
reserve_cases P false false taken false p q r s u = s refl

pub unless : (x y : Bool) → pick x false y ≡ true → y ≡ true
unless true y h = true_false (sym h)
unless false y h = h

both_false : (x y : Bool) → pick x y true ≡ false → (x ≡ true) × (y ≡ false)
both_false true y h = (refl, h)
both_false false y h = true_false h

given_small : (action offered ours : ℕ) → T.given_format action offered ours ≤ 7
unfolding T.given_format
given_small action offered ours = go (eqb action 5) where
  go : (x : Bool) → pick x (best offered ours) 0 ≤ 7
  go true = best_small offered ours
  go false = omega arith

module _ (b : List ℕ) (f : Formed b) (frame app : List ℕ) where
  quiet_deed : Deed b app frame T.quiet
  unfolding book_by
  quiet_deed = still refl refl (λ e. omega (arith, e)) (λ e. true_false (sym e)) (λ e. true_false (sym e))

  module _ (action s d start len : ℕ) (small : d < 16) (asked : Asked frame s start len) (here : part frame start len ≡ app) (is_app_holds : IsApp app) where
    own_port : d % 16 ≡ d
    own_port = omega arith

    release_deed : eqb action 2 ≡ true → Deed b app frame (T.release_turn b app action s d start len)
    unfolding T.release_turn T.released T.answering release_row book_by
    release_deed a = go (eqb d 0) refl (T.held b app d) refl where
      go : (z : Bool) → eqb d 0 ≡ z → (h : Bool) → T.held b app d ≡ h → Deed b app frame (T.answering (pick z (release_row false false) (release_row true h)) action 0 d s start len)
      go true e h k = still refl refl (λ x. omega (arith, x)) (λ w. inl (eqb-true d 0 e)) (λ w. here)
      go false e true k = frees (ap (cleared b) own_port) refl refl a (omega (arith, eqb-false d 0 e), small)
      go false e false k = still refl refl (λ x. omega (arith, x)) (λ w. true_false (sym w)) (λ w. here)

    reserve_deed : (given : ℕ) → eqb action 2 ≡ false → given ≤ 7 → Deed b app frame (T.reserve_turn b app action s d start len given)
    unfolding T.reserve_turn T.reserved T.repeats T.taken T.answering book_by
    reserve_deed given a g = go (eqb d 0) refl where
      none : Bool
      none = T.wanting action given

      P : Row → Type 0
      P r = Deed b app frame (T.answering r action (format_of r given (get_or b 1 0)) d s start len)

      -- a row that is answered with another Status, and changes nothing
      refusing : (r : Row) → P R2 × P R3
      refusing r = (still refl refl (λ x. omega (arith, x)) (λ w. true_false (sym w)) (λ w. here), still refl refl (λ x. omega (arith, x)) (λ w. true_false (sym w)) (λ w. here))

      repeat : T.repeats b app d s given none ≡ true → P R1
      repeat h =
          let h1 = unless none _ h in
          let h2 = unless (eqb (place_of b d).tag 0) _ h1 in
          let h3 = both_snd (eqb (place_of b d).peer s) _ h2 in
          let e : (place_of b d).peer ≡ s = eqb-true _ _ (both_fst (eqb (place_of b d).peer s) _ h2) in
          let g : app_of_is b d ≡ app = same_lists _ _ (both_snd (eqb (place_of b d).format given) _ h3) in
          still refl refl (λ x. omega (arith, x)) (λ w. inr (inr (sym e, sym g))) (λ w. here)

      gained : eqb d 0 ≡ false → T.taken b app d s ≡ false → P R5
      gained e h =
          let k = both_false (eqb (place_of b d).tag 0) _ h in
          reserves (ap (λ (n : ℕ). keep b n (reservation 2 (T.answering R5 action given d s start len)) app) own_port) refl refl a refl (eqb-true _ _ k.0) (omega (arith, eqb-false d 0 e), small) (asked.port, g) is_app_holds here k.1

      go : (z : Bool) → eqb d 0 ≡ z → P (pick z (reserve_row false false false none) (reserve_row (T.repeats b app d s given none) true (T.taken b app d s) none))
      go true e =
          reserve_cases P false false false none (λ x. true_false (sym x)) (λ x. (refusing R2).0) (refusing R3).1
          (λ x. still refl refl (λ y. omega (arith, y)) (λ w. inl (eqb-true d 0 e)) (λ w. here))
          (λ x m. true_false (sym m))
      go false e =
          reserve_cases P (T.repeats b app d s given none) true (T.taken b app d s) none repeat (λ x. (refusing R2).0) (refusing R3).1 (λ m. true_false m) (λ x m t n. gained e t)

    asking_deed : (offered : ℕ) → Deed b app frame (T.asking_turn b app action s d start len offered)
    unfolding T.asking_turn
    asking_deed offered = go (eqb action 2) refl where
      go : (z : Bool) → eqb action 2 ≡ z → Deed b app frame (pick z (T.release_turn b app action s d start len) (T.reserve_turn b app action s d start len (T.given_format action offered (get_or b 1 0))))
      go true e = release_deed e
      go false e = reserve_deed (T.given_format action offered (get_or b 1 0)) e (given_small action offered (get_or b 1 0))

  -- our outstanding command, of which a row tells
  ours : (row : Row) (status format : ℕ) (changed : Bool) → eqb (place_of b 0).tag 0 ≡ false → event_of row ≡ 2 → Ours b (T.told b row status format changed)
  unfolding T.told
  ours row status format changed e v = record { there = omega (arith, eqb-false (place_of b 0).tag 0 e); event = v; action = refl; own = refl; peer = refl }

  own_of : eqb (place_of b 0).tag 0 ≡ false → (place_of b 0).own % 16 ≡ (place_of b 0).own
  own_of e = omega (arith, (command_range b f (omega (arith, eqb-false (place_of b 0).tag 0 e))).own_most)

  -- the Action of the answer is the command's
  as_asked : (action : ℕ) (r : Bool) → eqb (place_of b 0).tag action ≡ true → eqb action 2 ≡ r → eqb (place_of b 0).tag 2 ≡ r
  as_asked action r k g = ap (λ (n : ℕ). eqb n 2) (eqb-true (place_of b 0).tag action k) ∙ g

  lost : (status : ℕ) → eqb (place_of b 0).tag 2 ≡ true → eqb status 0 ≡ false → succeeds status 2 (place_of b 0).tag ≡ false
  lost status k h = rw h refl

  answer_deed : (action format status : ℕ) → format ≤ 7 → Deed b app frame (T.answer_turn b action format status)
  unfolding T.answer_turn T.told answer_row book_by
  answer_deed action format status small = go (eqb (place_of b 0).tag 0) refl (eqb (place_of b 0).tag action) refl (eqb action 2) refl (eqb status 0) refl (eqb status 2) where
    go : (o : Bool) → eqb (place_of b 0).tag 0 ≡ o → (m : Bool) → eqb (place_of b 0).tag action ≡ m → (r : Bool) → eqb action 2 ≡ r → (x : Bool) → eqb status 0 ≡ x → (y : Bool)
        → Deed b app frame (pick o T.quiet (pick m (T.told b (pick r (pick x R12 (pick y R12 R13)) (pick x R10 R11)) status format (T.changes (pick r (pick x R12 (pick y R12 R13)) (pick x R10 R11)) (T.own_reserved b))) T.quiet))
    go true e m k r g x h y = quiet_deed
    go false e false k r g x h y = quiet_deed
    go false e true k true g true h y = loses (ap (λ (n : ℕ). cleared (cleared b n) 0) (own_of e)) refl (ours R12 status format (T.own_reserved b) e refl) (as_asked action true k g)
    go false e true k true g false h true = loses (ap (λ (n : ℕ). cleared (cleared b n) 0) (own_of e)) refl (ours R12 status format (T.own_reserved b) e refl) (as_asked action true k g)
    go false e true k true g false h false = ends refl refl (ours R13 status format false e refl) (lost status (as_asked action true k g) h)
    go false e true k false g true h y = gains (ap (λ (n : ℕ). cleared (keep b n (reservation 1 (T.told b R10 status format true)) (app_of_is b 0)) 0) (own_of e)) refl (ours R10 status format true e refl) (as_asked action false k g) (eqb-true status 0 h) small
    go false e true k false g false h y = ends refl refl (ours R11 status format false e refl) (rw h refl)

  error_deed : (ads : Bool) → Deed b app frame (T.error_turn b ads)
  unfolding T.error_turn T.told book_by
  error_deed true = quiet_deed
  error_deed false = go (eqb (place_of b 0).tag 0) refl where
    go : (o : Bool) → eqb (place_of b 0).tag 0 ≡ o → Deed b app frame (pick o T.quiet (T.told b R14 256 0 false))
    go true e = quiet_deed
    go false e = ends refl refl (ours R14 256 0 false e refl) refl

  unbuilt_deed : (action m : ℕ) → Deed b app frame (T.unbuilt action m)
  unfolding T.unbuilt book_by
  unbuilt_deed action m = still refl refl (λ x. omega (arith, x)) (λ w. true_false (sym w)) (λ w. true_false (sym w))

  either : (t : Bool) (x y : Turn) → Deed b app frame x → Deed b app frame y → Deed b app frame (pick t x y)
  either true x y p q = p
  either false x y p q = q

  plain_deed : (m : ℕ) → Deed b app frame (T.plain_command m)
  unfolding T.plain_command
  plain_deed m = either (eqb m 1) _ _ quiet_deed (unbuilt_deed 0 m)

  answered_deed : (ads : Bool) (m : ℕ) → Deed b app frame (T.plain_response b ads m)
  unfolding T.plain_response
  answered_deed ads m = either (eqb m 1) _ _ (error_deed ads) quiet_deed

module _ (b : List ℕ) (f : Formed b) (frame : List ℕ) where
  abbrev app : Body → List ℕ
  app body = T.application_of frame body

  command_deed : (m : ℕ) (body : Body) → BodyFacts frame body → Deed b (app body) frame (T.command_turn b (app body) m body)
  unfolding T.command_turn T.application_of
  command_deed m B.Empty h = plain_deed b f frame _ m
  command_deed m (B.Information a l) h = plain_deed b f frame _ m
  command_deed m (B.Asking n s d start len o) h = asking_deed b f frame (T.application_in frame start) n s (d % 16) start len (omega arith) h h.same h.app o
  command_deed m (B.Answer n g t) h = plain_deed b f frame _ m
  command_deed m (B.Query n p) h = unbuilt_deed b f frame _ n m
  command_deed m (B.List n p c) h = unbuilt_deed b f frame _ n m

  response_deed : (ads : Bool) (m : ℕ) (body : Body) → BodyFacts frame body → Deed b (app body) frame (T.response_turn b ads m body)
  unfolding T.response_turn T.application_of
  response_deed ads m B.Empty h = answered_deed b f frame _ ads m
  response_deed ads m (B.Information a l) h = answered_deed b f frame _ ads m
  response_deed ads m (B.Asking n s d start len o) h = answered_deed b f frame _ ads m
  response_deed ads m (B.Answer n g t) h = answer_deed b f frame _ n g t h
  response_deed ads m (B.Query n p) h = answered_deed b f frame _ ads m
  response_deed ads m (B.List n p c) h = answered_deed b f frame _ ads m

  -- A FRAME'S DEED
  pub deed : (ads : Bool) (body : Body) (kind : Kind) → BodyFacts frame body → Deed b (app body) frame (T.turn_by b (app body) ads body kind)
  unfolding T.turn_by
  deed ads body (K.I a ns nr r) h = quiet_deed b f frame (app body)
  deed ads body (K.S a nr r) h = quiet_deed b f frame (app body)
  deed ads body (K.Ui nu) h = quiet_deed b f frame (app body)
  deed ads body (K.U m response) h = either b f frame (app body) response _ _ (response_deed ads m body h) (command_deed m body h)
