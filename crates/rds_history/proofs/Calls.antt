-- Promises 7, 8 and 9 over any calls from a fresh book. Assumes nothing.
use mathlib.Core.Path.{◌≡◌, refl, sym, ap, subst, ◌∙◌}
use mathlib.Core.List.{List, [], ◌∷◌}
use mathlib.Core.Bool.{Bool, true, false}
use Rattle.std.specs.Prelude.{Option, Some, None}
use Rattle.rds_book_laws.proofs.FrameFacts.{Each}
use Rattle.rds_book_laws.proofs.Deeds.{Deed}
use Prim.Native.Nat.{ℕ, ◌+◌, ◌≤◌, ◌<◌}
use native.Mathlib.Omega.{arith}
use lib.ListN.{length, get_or}
use lib.Dec.{ltb, eqb}
use borrow.Author.Tests.{ltb-false, eqb-true, ne_eqb, le-ltb}
use Rattle.base_lists.specs.Seq.{pick, put}
use Rattle.base_lists.proofs.StoresAndParts.{true_false}
use Rattle.base_octets.proofs.StoredAndRead.{get_same}
use Rattle.rds_reading.specs.declared.Frame.{Frame}
use Rattle.rds_reading.specs.Read.{frame_of}
use Rattle.rds_book.specs.Book.{book_size, place_of, app_of_is, keep, cleared, well_formed}
use Rattle.rds_turn.specs.declared.Turn.{Turn}
use Rattle.rds_turn.specs.Turn.{application_of}
use Rattle.rds_lent.specs.Left.{Left, left, lent_well}
use Rattle.rds_lent.specs.Asked.{outstanding, is_reserved, not_now, out_of_range_is, is_app, sending, reserving, releasing}
use Rattle.rds_ports.specs.Ports.{reserve_in, reserve_of, release_in, release_of, again_in, again_of, abandon_number, abandon_after}
use Rattle.rds_shown.specs.Shown.{fresh_book, fresh_number, fresh_after, port_in, port_of}
use Rattle.rds_receiving.specs.Receiving.{book_by, reply_of, turn_words, turned, turn_in, receive_frame, from_peer, receive_of}
use Rattle.rds_book_laws.specs.Formed.{Octets}
use Rattle.rds_book_laws.proofs.FormedTest.{free_tag, of_formed}
use Rattle.rds_book_laws.proofs.AnsweredFrames.{answer_long}
use Rattle.rds_book_laws.proofs.Kept.{app_of, is_app_holds, in_range_holds, reserved_port, reserving_formed, releasing_formed, turn_deed, fresh_zero, fresh_formed}
use Rattle.rds_history.specs.History.{Call, leaves, Lends, Entry, History, made, refused, called}
use Rattle.rds_history.specs.History.Call.{Reserve, Release, Again, Abandon, Receive, Port}
use Rattle.rds_history.specs.Counted.{commands, answers, abandons, AnsweredOnce}
use Rattle.rds_history.specs.Listed.{last_app, names, ListedAnswered, listed_words, listed_app}
use Rattle.rds_history.specs.Twice.{succeeded, NotTwice, NeverZero, Throughout, NoPortTwice}
use Rattle.rds_history.proofs.Views.{kept_free, words_kept, app_told, zero_listed}
use Rattle.rds_history.proofs.Steps.{Holds, nothing, stored, ended, is_none, not_asking}
use Rattle.rds_history.proofs.Received.{Words, received, not_twice, not_zero}

-- what an entry brings: the invariant goes on, and promise 7 holds of it
pub record Goes (h : List Entry) (e : Entry) : Type 0 where
  pub holds : Holds e.seen.book (e ∷ h)
  pub once : NotTwice e h
  pub zero : NeverZero e

module _ (b : List ℕ) (h : List Entry) (i : Holds b h) (o a : List ℕ) where
  abbrev entry : Call → Left → Entry
  entry c x = record { call = c; book = b; output = o; answer = a; seen = x }

  abbrev After : Call → Left → Type 0
  After c x = Goes h (entry c x)

  either : (c : Call) (t : Bool) (x y : Left) → (t ≡ true → After c x) → (t ≡ false → After c y) → After c (pick t x y)
  either c true x y p q = p refl
  either c false x y p q = q refl

  -- nothing is counted, and the book is as it was
  quiet : (c : Call) (x : Left) → x.book ≡ b → commands (entry c x) ≡ false → answers (entry c x) ≡ false → abandons (entry c x) ≡ false → ((p : ℕ) → names (entry c x) p ≡ false)
      → last_app (entry c x ∷ h) ≡ last_app h → succeeded (entry c x) ≡ false → After c x
  quiet c x s m v w n l k = record {
    holds = nothing b h i (entry c x) s m v w n l;
    once = λ z. true_false (sym z ∙ k);
    zero = record { named = n 0; listed = zero_listed x.book };
  }

  -- a refused call
  refusing : (c : Call) (n : ℕ) → eqb n 0 ≡ false → After c (left n b o a)
  refusing (Reserve own peers with app) n e = quiet (Reserve own peers with app) (left n b o a) refl e refl refl (λ p. refl) (rw e refl) refl
  refusing (Release own) n e = quiet (Release own) (left n b o a) refl e refl refl (λ p. refl) refl refl
  refusing Again n e = quiet Again (left n b o a) refl refl refl refl (λ p. refl) refl refl
  refusing Abandon n e = quiet Abandon (left n b o a) refl refl refl e (λ p. refl) refl refl
  refusing (Receive s) n e = quiet (Receive s) (left n b o a) refl refl (rw e refl) refl (λ p. rw e refl) refl (rw e refl)
  refusing (Port p) n e = quiet (Port p) (left n b o a) refl refl refl refl (λ p. refl) refl refl

  -- a command that is stored
  storing : (c : Call) (x : Left) → Holds x.book (entry c x ∷ h) → ((p : ℕ) → names (entry c x) p ≡ false) → succeeded (entry c x) ≡ false → After c x
  storing c x f n k = record { holds = f; once = λ z. true_false (sym z ∙ k); zero = record { named = n 0; listed = zero_listed x.book } }

  now_free : (own : ℕ) (with : Bool) → not_now b own with ≡ false → (outstanding b ≡ false) × (is_reserved b own ≡ false)
  unfolding not_now
  now_free own with m = go (outstanding b) (is_reserved b own) m where
    go : (x y : Bool) → pick x true (pick y true (pick with (eqb (get_or b 1 0) 0) false)) ≡ false → (x ≡ false) × (y ≡ false)
    go true y k = true_false k
    go false true k = true_false k
    go false false k = (refl, refl)

  port_free : (own peers : ℕ) → out_of_range_is own peers ≡ false → is_reserved b own ≡ false → (1 ≤ own) × (own < 16) × ((place_of b own).tag ≡ 0)
  unfolding is_reserved
  port_free own peers r k =
      let q = in_range_holds own peers r in
      (q.0, omega (arith, q.1), go (eqb (place_of b own).tag 0) refl (rw (ne_eqb own 0 (omega (arith, q.0)), le-ltb 15 own q.1) at k)) where
        go : (z : Bool) → eqb (place_of b own).tag 0 ≡ z → pick z false true ≡ false → (place_of b own).tag ≡ 0
        go true e m = eqb-true _ _ e
        go false e m = true_false m

  reserve_stored : (own peers : ℕ) (with : Bool) (app : List ℕ) → not_now b own with ≡ false → out_of_range_is own peers ≡ false → is_app app ≡ true → After (Reserve own peers with app) (sending (keep b 0 (reserving own peers with) app) o a)
  unfolding sending reserving
  reserve_stored own peers with app m r k =
      let f = now_free own with m in
      let q = port_free own peers r f.1 in
      let c = Reserve own peers with app in
      storing c (sending (keep b 0 (reserving own peers with) app) o a)
      (stored b h i (entry c (sending (keep b 0 (reserving own peers with) app) o a)) (reserving own peers with) app refl (reserving_formed b own peers with app i.formed r k) (is_app_holds app k) (action with) f.0
      refl refl refl (λ p. refl) (λ z. (refl, q.0, q.1, q.2)))
      (λ p. refl) refl where
        action : (x : Bool) → 1 ≤ pick x 5 1
        action true = omega arith
        action false = omega arith

  release_stored : (own : ℕ) → is_reserved b own ≡ true → outstanding b ≡ false → After (Release own) (sending (keep b 0 (releasing b own) (app_of_is b own)) o a)
  unfolding sending releasing
  release_stored own r f =
      let q = reserved_port b own r in
      storing (Release own) (sending (keep b 0 (releasing b own) (app_of_is b own)) o a)
      (stored b h i (entry (Release own) (sending (keep b 0 (releasing b own) (app_of_is b own)) o a)) (releasing b own) (app_of_is b own) refl (releasing_formed b own i.formed r) (app_of b own i.formed q.1 q.2) (omega arith) f
      refl refl refl (λ p. refl) (λ z. true_false z))
      (λ p. refl) refl

  reserve_goes : (own peers : ℕ) (with : Bool) (app : List ℕ) → After (Reserve own peers with app) (reserve_of b o a own peers with app)
  unfolding reserve_of reserve_in
  reserve_goes own peers with app =
      let c = Reserve own peers with app in
      either c (lent_well b o a) _ _
      (λ w. either c (not_now b own with) _ _ (λ n. refusing c 9 refl) (λ n. either c (out_of_range_is own peers) _ _ (λ r. refusing c 10 refl) (λ r. either c (is_app app) _ _ (λ k. reserve_stored own peers with app n r k) (λ k. refusing c 11 refl))))
      (λ w. refusing c 1 refl)

  release_goes : (own : ℕ) → After (Release own) (release_of b o a own)
  unfolding release_of release_in
  release_goes own =
      let c = Release own in
      either c (lent_well b o a) _ _
      (λ w. either c (is_reserved b own) _ _ (λ r. either c (outstanding b) _ _ (λ f. refusing c 9 refl) (λ f. release_stored own r f)) (λ r. refusing c 8 refl))
      (λ w. refusing c 1 refl)

  again_goes : After Again (again_of b o a)
  unfolding again_of again_in sending
  again_goes =
      either Again (lent_well b o a) _ _
      (λ w. either Again (outstanding b) _ _ (λ f. quiet Again (sending b o a) refl refl refl refl (λ p. refl) refl refl) (λ f. refusing Again 8 refl)) (λ w. refusing Again 1 refl)

  port_goes : (p : ℕ) → After (Port p) (port_of b o a p)
  unfolding port_of port_in
  port_goes p =
      either (Port p) (lent_well b o a) _ _
      (λ w. either (Port p) (ltb 15 p) _ _ (λ f. refusing (Port p) 10 refl) (λ f. quiet (Port p) (left 0 b _ _) refl refl refl refl (λ p. refl) refl refl)) (λ w. refusing (Port p) 1 refl)

  abandon_goes : After Abandon (left (abandon_number b) (abandon_after b) o a)
  unfolding abandon_number abandon_after
  abandon_goes = go (well_formed b) (outstanding b) refl where
    go : (x y : Bool) → outstanding b ≡ y → After Abandon (left (pick x (pick y 0 8) 1) (pick x (pick y (cleared b 0) b) b) o a)
    go true true f = storing Abandon (left 0 (cleared b 0) o a) (ended b h i (entry Abandon (left 0 (cleared b 0) o a)) refl f refl refl (λ p. refl)) (λ p. refl) refl
    go true false f = refusing Abandon 8 refl
    go false y f = refusing Abandon 1 refl

  -- the answer that is long enough has the words of the turn
  words_of : (n : ℕ) (t : Turn) → 16 ≤ length a → Words (put a 0 (turn_words n t)) t
  unfolding turn_words
  words_of n t l = record {
    event = word 1 (omega arith);
    action = word 2 (omega arith);
    status = word 3 (omega arith);
    own = word 4 (omega arith);
    peer = word 5 (omega arith);
    format = word 6 (omega arith);
    changed = word 7 (omega arith);
    start = word 8 (omega arith);
    len = word 9 (omega arith);
  } where
    word : (k : ℕ) → k < 16 → get_or (put a 0 (turn_words n t)) (0 + k) 0 ≡ get_or (turn_words n t) k 0
    word k m = get_same (turn_words n t) a 0 k l m

  receive_goes : (s : List ℕ) → Octets s → After (Receive s) (receive_of b o a s)
  unfolding receive_of receive_frame turned
  receive_goes s octet =
      either (Receive s) (lent_well b o a) _ _ (λ w. go (answer_long b o a w) (frame_of s (from_peer b)) (turn_deed b s i.formed octet)) (λ w. refusing (Receive s) 1 refl) where
        took : 16 ≤ length a → (f : Frame) → Deed b (application_of s f.body) s (turn_in b s f) → After (Receive s) (receive_frame b o a s (Some f))
        took l f d =
            let t = turn_in b s f in
            let app = application_of s f.body in
            let reply = reply_of b t f.head in
            let w = words_of (length reply) t l in
            let x = book_by b app t t.row in
            record {
              holds = received b h i s o a (put o 0 reply) (put a 0 (turn_words (length reply) t)) t w app d;
              once = not_twice b h i s o a (put o 0 reply) (put a 0 (turn_words (length reply) t)) t w x app d;
              zero = record { named = not_zero b h i s o a (put o 0 reply) (put a 0 (turn_words (length reply) t)) t w x app d; listed = zero_listed x };
            }

        go : 16 ≤ length a → (f : Option Frame) → Each (λ (f : Frame). Deed b (application_of s f.body) s (turn_in b s f)) f → After (Receive s) (receive_frame b o a s f)
        go l (Some f) d = took l f d
        go l None d = refusing (Receive s) 16 refl

  -- ANY CALL
  pub goes : (c : Call) → Lends c → After c (leaves c b o a)
  goes (Reserve own peers with app) l = reserve_goes own peers with app
  goes (Release own) l = release_goes own
  goes Again l = again_goes
  goes Abandon l = abandon_goes
  goes (Receive s) l = receive_goes s l
  goes (Port p) l = port_goes p

-- ANY CALLS FROM A FRESH BOOK
fresh_holds : (network : Bool) (formats : ℕ) → formats ≤ 7 → Holds (fresh_book network formats) []
fresh_holds network formats l = record {
  formed = fresh_formed network formats l;
  counted = rw (is_none (fresh_book network formats) (tag 0 (omega arith))) refl;
  listed = λ p lo hi. kept_free (fresh_book network formats) p (tag p (omega arith));
  asked = λ k. absurd (not_asking (fresh_book network formats) (tag 0 (omega arith)) k);
  paired = λ k. absurd (not_asking (fresh_book network formats) (tag 0 (omega arith)) k);
} where
  tag : (p : ℕ) → p < 16 → (place_of (fresh_book network formats) p).tag ≡ 0
  tag p m = free_tag (fresh_book network formats) p (fresh_zero network formats p m)

made_holds : (old : List ℕ) (network : Bool) (formats : ℕ) → fresh_number old formats ≡ 0 → Holds (fresh_after old network formats) []
unfolding fresh_number fresh_after
made_holds old network formats m = go (eqb (length old) book_size) (ltb 7 formats) refl m where
  go : (x y : Bool) → ltb 7 formats ≡ y → ◌≡◌ {A = ℕ} (pick x (pick y 10 0) 1) 0 → Holds (pick x (pick y old (fresh_book network formats)) old) []
  go true true g k = absurd (omega (arith, k))
  go true false g k = fresh_holds network formats (ltb-false 7 formats g)
  go false y g k = absurd (omega (arith, k))

refused_same : (b : List ℕ) (network : Bool) (formats : ℕ) → (fresh_number b formats ≡ 0 → ⊥) → fresh_after b network formats ≡ b
unfolding fresh_number fresh_after
refused_same b network formats n = go (eqb (length b) book_size) (ltb 7 formats) n where
  go : (x y : Bool) → (◌≡◌ {A = ℕ} (pick x (pick y 10 0) 1) 0 → ⊥) → pick x (pick y b (fresh_book network formats)) b ≡ b
  go true true k = refl
  go true false k = absurd (k refl)
  go false y k = refl

-- what holds of a book and its history, and promise 7
pub record Kept (b : List ℕ) (h : List Entry) : Type 0 where
  pub holds : Holds b h
  pub once : Throughout NotTwice h
  pub zero : Throughout (λ e h. NeverZero e) h

pub history_kept : {b : List ℕ} {h : List Entry} → History b h → Kept b h
unfolding Throughout
history_kept (made old network formats m) = record { holds = made_holds old network formats m; once = tt; zero = tt }
history_kept (refused {b} {h} r network formats n) = rw (refused_same b network formats n) (history_kept r)
history_kept (called {b} {h} r e k l) =
    let p = history_kept r in
    let g = subst (λ (x : Left). Goes h (record { call = e.call; book = e.book; output = e.output; answer = e.answer; seen = x })) (sym k.keeps)
    (goes e.book h (rw l p.holds) e.output e.answer e.call k.lends) in
    record { holds = g.holds; once = (g.once, p.once); zero = (g.zero, p.zero) }

-- PROMISE 7
pub no_port_twice : {b : List ℕ} {h : List Entry} → History b h → NoPortTwice h
no_port_twice r = record { once = (history_kept r).once; zero = (history_kept r).zero }

-- PROMISE 8, the count
pub answered_once : {b : List ℕ} {h : List Entry} → History b h → AnsweredOnce b h
answered_once r = (history_kept r).holds.counted

-- PROMISE 9
pub listed_answered : {b : List ℕ} {h : List Entry} → History b h → ListedAnswered b h
listed_answered {b} {h} r p lo hi =
    let k = (history_kept r).holds in
    record { words = words_kept b p k.formed lo hi ∙ ap (listed_words p) (k.listed p lo hi); app = app_told b p ∙ ap listed_app (k.listed p lo hi) }

-- PROMISE 6, over any calls
pub always_formed : {b : List ℕ} {h : List Entry} → History b h → well_formed b ≡ true
always_formed {b} {h} r = of_formed b (history_kept r).holds.formed
