-- A frame that was taken keeps what holds of a book and its history, deed by deed. Assumes nothing.
use mathlib.Core.Path.{◌≡◌, refl, sym, ap, ◌∙◌}
use mathlib.Core.List.{List, ◌∷◌}
use mathlib.Core.Bool.{Bool, true, false}
use mathlib.Core.Logic.{◌⊎◌, inl, inr}
use Prim.Native.Nat.{ℕ, ◌%◌, ◌≤◌, ◌<◌}
use native.Mathlib.Omega.{arith}
use lib.ListN.{get_or}
use lib.Dec.{eqb}
use borrow.Author.Tests.{eqb-true, eqb-false, eq-eqb, ne_eqb}
use Rattle.base_lists.specs.Seq.{pick, bit, part}
use Rattle.base_lists.proofs.StoresAndParts.{told, both_fst, both_snd, true_false}
use Rattle.rds_book.specs.declared.Place.{Place}
use Rattle.rds_book.specs.Book.{place_of, app_of_is, keep, cleared, same}
use Rattle.rds_rows.specs.Rows.{event_of}
use Rattle.rds_turn.specs.declared.Turn.{Turn}
use Rattle.rds_turn.specs.Turn.{collides, engaged, own_reserved}
use Rattle.rds_lent.specs.Left.{left}
use Rattle.rds_receiving.specs.Receiving.{reservation, book_by}
use Rattle.rds_book_laws.specs.Formed.{IsApp, Formed}
use Rattle.rds_book_laws.proofs.Stores.{place_same, app_same, clear_formed}
use Rattle.rds_book_laws.proofs.Deeds.{wins, Ours, Deed, still, reserves, frees, gains, ends, loses, same_lists, command_range}
use Rattle.rds_book_laws.proofs.Kept.{app_of, port_formed}
use Rattle.rds_history.specs.History.{Entry}
use Rattle.rds_history.specs.History.Call.{Receive}
use Rattle.rds_history.specs.Counted.{answers}
use Rattle.rds_history.specs.Listed.{last_app, event_app, names, said_by, listing}
use Rattle.rds_history.specs.Listed.Listing.{Free, Reserved}
use Rattle.rds_history.specs.Twice.{succeeded, NotTwice}
use Rattle.rds_history.proofs.Views.{kept, Same, keep_stays, clear_stays, cleared_tag, kept_stays, kept_free, kept_new, outstanding_stays, With, reserved_with}
use Rattle.rds_history.proofs.Steps.{Asking, Holds, nothing, ended, is_there, is_none, not_asking}

-- the words of an answer tell the turn
pub record Words (a : List ℕ) (t : Turn) : Type 0 where
  pub event : get_or a 1 0 ≡ event_of t.row
  pub action : get_or a 2 0 ≡ t.action
  pub status : get_or a 3 0 ≡ t.status
  pub own : get_or a 4 0 ≡ t.own
  pub peer : get_or a 5 0 ≡ t.peer
  pub format : get_or a 6 0 ≡ t.format
  pub changed : get_or a 7 0 ≡ bit t.changed
  pub start : get_or a 8 0 ≡ t.start
  pub len : get_or a 9 0 ≡ t.len

module _ (b : List ℕ) (h : List Entry) (i : Holds b h) (s o a o' a' : List ℕ) (t : Turn) (w : Words a' t) where
  -- the entry of a frame that was taken, and that left the book x
  abbrev pub taken : List ℕ → Entry
  taken x = record { call = Receive s; book = b; output = o; answer = a; seen = left 0 x o' a' }

  module _ (x : List ℕ) where
    names_is : (p : ℕ) → names (taken x) p ≡ pick t.changed (eqb t.own p) false
    names_is p = rw (w.changed, w.own) (go t.changed) where
      go : (c : Bool) → pick (eqb (bit c) 1) (eqb t.own p) false ≡ pick c (eqb t.own p) false
      go true = refl
      go false = refl

    answers_is : answers (taken x) ≡ eqb (event_of t.row) 2
    answers_is = ap (λ (n : ℕ). eqb n 2) w.event

    pub succeeded_is : succeeded (taken x) ≡ wins t
    succeeded_is = rw (w.status, w.event, w.action) refl

    -- what the event says of its port
    said_free : eqb t.action 2 ≡ true → said_by (taken x) h ≡ Free
    said_free e = rw (w.action, e) refl

    said_reserved : eqb t.action 2 ≡ false → t.status ≡ 0 → (whom : ℕ) (app : List ℕ) → pick (eqb (event_of t.row) 1) 2 1 ≡ whom → pick (eqb (event_of t.row) 1) (part s t.start t.len) (last_app h) ≡ app
        → said_by (taken x) h ≡ Reserved whom t.peer t.format app
    said_reserved e z whom app v l = rw (w.action, e, w.status, eq-eqb t.status 0 z, w.event, w.peer, w.format, w.start, w.len) (λ j. Reserved (v j) t.peer t.format (l j))

    -- the ports after an event that may change its own
    ports : ((q : ℕ) → 1 ≤ q → q ≤ 15 → (q ≡ t.own → ⊥) → kept x q ≡ kept b q) → kept x t.own ≡ pick t.changed (said_by (taken x) h) (listing t.own h)
        → (p : ℕ) → 1 ≤ p → p ≤ 15 → kept x p ≡ listing p (taken x ∷ h)
    ports others own p lo hi = rw (names_is p) (go (told (eqb t.own p))) where
      mine : (c : Bool) → pick (pick c true false) (said_by (taken x) h) (listing p h) ≡ pick c (said_by (taken x) h) (listing p h)
      mine true = refl
      mine false = refl

      not_mine : (c : Bool) → pick (pick c false false) (said_by (taken x) h) (listing p h) ≡ listing p h
      not_mine true = refl
      not_mine false = refl

      go : (eqb t.own p ≡ true) ⊎ (eqb t.own p ≡ false) → kept x p ≡ pick (pick t.changed (eqb t.own p) false) (said_by (taken x) h) (listing p h)
      go (inl e) = rw e (ap (kept x) (sym (eqb-true t.own p e)) ∙ own ∙ ap (λ (n : ℕ). pick t.changed (said_by (taken x) h) (listing n h)) (eqb-true t.own p e) ∙ sym (mine t.changed))
      go (inr e) = rw e (others p lo hi (λ z. eqb-false t.own p e (sym z)) ∙ i.listed p lo hi ∙ sym (not_mine t.changed))

  -- a port of ours was changed by the peer's command: R5, R7
  changed : (x : List ℕ) → Formed x → ((q : ℕ) → q < 16 → (q ≡ t.own → ⊥) → Same b x q) → 1 ≤ t.own → kept x t.own ≡ said_by (taken x) h → t.changed ≡ true → event_of t.row ≡ 1
      → (Asking b → (place_of b 0).own ≡ t.own → 1 ≤ (place_of x t.own).tag → ((place_of x t.own).peer ≡ (place_of b 0).peer) × (app_of_is x t.own ≡ app_of_is b 0)) → Holds x (taken x ∷ h)
  changed x f stays lo own c v pair = record {
    formed = f;
    counted = rw (answers_is x, v, outstanding_stays b x command) (omega (arith, i.counted));
    listed = ports x (λ q l m d. kept_stays b x q (stays q (omega arith) d)) (rw c own);
    asked = λ k. command.app ∙ i.asked (asking k);
    paired = λ k u. go k u (told (eqb (place_of b 0).own t.own));
  } where
    command : Same b x 0
    command = stays 0 (omega arith) (λ z. omega (arith, z, lo))

    asking : Asking x → Asking b
    asking k = record { there = rw command.place at k.there; reserve = rw command.place at k.reserve }

    go : Asking x → 1 ≤ (place_of x (place_of x 0).own).tag → (eqb (place_of b 0).own t.own ≡ true) ⊎ (eqb (place_of b 0).own t.own ≡ false)
        → ((place_of x (place_of x 0).own).peer ≡ (place_of x 0).peer) × (app_of_is x (place_of x 0).own ≡ app_of_is x 0)
    go k u (inl e) =
        let z = eqb-true (place_of b 0).own t.own e in
        rw (command.place, command.app, z) (pair (asking k) z (rw (command.place, z) at u))
    go k u (inr e) =
        let n = (command_range b i.formed (asking k).there).own_most in
        let y = stays (place_of b 0).own (omega (arith, n)) (eqb-false (place_of b 0).own t.own e) in
        rw (command.place, command.app, y.place, y.app) (i.paired (asking k) (rw (command.place, y.place) at u))

  -- a port of ours was changed, or may have been, by the answer to our command: R10, R12
  answered : (y : List ℕ) → Formed y → ((q : ℕ) → q < 16 → (q ≡ t.own → ⊥) → Same b y q) → Ours b t → kept y t.own ≡ pick t.changed (said_by (taken (cleared y 0)) h) (listing t.own h) → Holds (cleared y 0) (taken (cleared y 0) ∷ h)
  answered y f stays u own = record {
    formed = clear_formed y 0 f (omega arith);
    counted = rw (answers_is (cleared y 0), u.event, is_none (cleared y 0) gone) (omega (arith, rw (is_there b u.there) at i.counted));
    listed = ports (cleared y 0) (λ q l m d. cleared_kept q l m ∙ kept_stays b y q (stays q (omega arith) d)) (cleared_kept t.own low high ∙ own);
    asked = λ k. absurd (not_asking (cleared y 0) gone k);
    paired = λ k. absurd (not_asking (cleared y 0) gone k);
  } where
    gone : (place_of (cleared y 0) 0).tag ≡ 0
    gone = cleared_tag y 0 f (omega arith)

    low : 1 ≤ t.own
    low = rw u.own (command_range b i.formed u.there).own

    high : t.own ≤ 15
    high = rw u.own (command_range b i.formed u.there).own_most

    cleared_kept : (q : ℕ) → 1 ≤ q → q ≤ 15 → kept (cleared y 0) q ≡ kept y q
    cleared_kept q l m = kept_stays y (cleared y 0) q (clear_stays y 0 f (omega arith) q (omega arith) (λ z. omega (arith, z, l)))

  -- 6.3.3 a: a Reserve of our command's port that isn't taken has its pair and its application
  collided : (app : List ℕ) → engaged b app t.own t.peer ≡ false → Asking b → (place_of b 0).own ≡ t.own → (t.peer ≡ (place_of b 0).peer) × (app ≡ app_of_is b 0)
  unfolding engaged collides
  collided app g k e = go (not_so (rw (ne_eqb (place_of b 0).tag 0 (omega (arith, k.there)), eq-eqb (place_of b 0).own t.own e, k.reserve) at g)) where
    not_so : pick (pick (eqb (place_of b 0).peer t.peer) (same (app_of_is b 0) app) false) false true ≡ false → pick (eqb (place_of b 0).peer t.peer) (same (app_of_is b 0) app) false ≡ true
    not_so m = turn (pick (eqb (place_of b 0).peer t.peer) (same (app_of_is b 0) app) false) m where
      turn : (z : Bool) → pick z false true ≡ false → z ≡ true
      turn true m = refl
      turn false m = true_false m

    go : pick (eqb (place_of b 0).peer t.peer) (same (app_of_is b 0) app) false ≡ true → (t.peer ≡ (place_of b 0).peer) × (app ≡ app_of_is b 0)
    go m = (sym (eqb-true _ _ (both_fst (eqb (place_of b 0).peer t.peer) _ m)), sym (same_lists _ _ (both_snd (eqb (place_of b 0).peer t.peer) _ m)))

  -- the place of a port that is reserved
  module _ (whom : ℕ) (app : List ℕ) (p : t.own < 16) (k : IsApp app) where
    abbrev reserved : List ℕ
    reserved = keep b t.own (reservation whom t) app

    new_place : place_of reserved t.own ≡ reservation whom t
    new_place = place_same b t.own (reservation whom t) app i.formed.size p k.most

    new_peer : (place_of reserved t.own).peer ≡ t.peer
    unfolding reservation
    new_peer = ap (λ (x : Place). x.peer) new_place

    new_app : app_of_is reserved t.own ≡ app
    new_app = app_same b t.own (reservation whom t) app i.formed.size p k.most k

    new_kept : 1 ≤ whom → kept reserved t.own ≡ Reserved whom t.peer t.format app
    unfolding reservation
    new_kept h = kept_new b t.own (reservation whom t) app i.formed p k h

  -- R5
  reserving : (app : List ℕ) → t.changed ≡ true → event_of t.row ≡ 1 → eqb t.action 2 ≡ false → t.status ≡ 0 → (1 ≤ t.own) × (t.own < 16) → (t.peer ≤ 15) × (t.format ≤ 7) → IsApp app
      → part s t.start t.len ≡ app → engaged b app t.own t.peer ≡ false → Holds (keep b t.own (reservation 2 t) app) (taken (keep b t.own (reservation 2 t) app) ∷ h)
  reserving app c v n st p r k g d =
      changed (reserved 2 app p.1 k) (port_formed b 2 t app i.formed (omega arith) (omega arith) p r.0 r.1 k)
      (keep_stays b t.own (reservation 2 t) app i.formed p.1 k.most) p.0
      (new_kept 2 app p.1 k (omega arith) ∙ sym (said_reserved (reserved 2 app p.1 k) n st 2 app (rw v refl) (rw v g))) c v
      (λ q m u.
      let z = collided app d q m in
      (new_peer 2 app p.1 k ∙ z.0, new_app 2 app p.1 k ∙ z.1))

  -- R7
  freeing : t.changed ≡ true → event_of t.row ≡ 1 → eqb t.action 2 ≡ true → (1 ≤ t.own) × (t.own < 16) → Holds (cleared b t.own) (taken (cleared b t.own) ∷ h)
  freeing c v n p =
      changed (cleared b t.own) (clear_formed b t.own i.formed p.1) (clear_stays b t.own i.formed p.1) p.0
      (kept_free _ _ gone ∙ sym (said_free (cleared b t.own) n)) c v (λ q m u. absurd (omega (arith, u, gone))) where
        gone : (place_of (cleared b t.own) t.own).tag ≡ 0
        gone = cleared_tag b t.own i.formed p.1

  -- R10
  asking : Ours b t → eqb t.action 2 ≡ false → Asking b
  asking u n = record { there = u.there; reserve = rw u.action at n }

  own_range : Ours b t → (1 ≤ t.own) × (t.own < 16)
  own_range u =
      let r = command_range b i.formed u.there in
      let low : 1 ≤ t.own = rw u.own r.own in
      let high : t.own ≤ 15 = rw u.own r.own_most in
      (low, omega (arith, high))

  gaining : t.changed ≡ true → Ours b t → eqb t.action 2 ≡ false → t.status ≡ 0 → t.format ≤ 7
      → Holds (cleared (keep b t.own (reservation 1 t) (app_of_is b 0)) 0) (taken (cleared (keep b t.own (reservation 1 t) (app_of_is b 0)) 0) ∷ h)
  gaining c u n st l =
      let p = own_range u in
      let k = app_of b 0 i.formed (omega arith) u.there in
      let r : t.peer ≤ 15 = rw u.peer (command_range b i.formed u.there).peer in
      answered (keep b t.own (reservation 1 t) (app_of_is b 0)) (port_formed b 1 t (app_of_is b 0) i.formed (omega arith) (omega arith) p r l k)
      (keep_stays b t.own (reservation 1 t) (app_of_is b 0) i.formed p.1 k.most) u
      (new_kept 1 (app_of_is b 0) p.1 k (omega arith) ∙ rw c (sym (said_reserved (cleared (keep b t.own (reservation 1 t) (app_of_is b 0)) 0) n st 1 (app_of_is b 0) (rw u.event refl) (rw u.event (sym (i.asked (asking u n)))))))

  -- R12
  losing : t.changed ≡ own_reserved b → Ours b t → eqb t.action 2 ≡ true → Holds (cleared (cleared b t.own) 0) (taken (cleared (cleared b t.own) 0) ∷ h)
  unfolding own_reserved
  losing c u n =
      let p = own_range u in
      answered (cleared b t.own) (clear_formed b t.own i.formed p.1) (clear_stays b t.own i.formed p.1) u
      (kept_free _ _ (cleared_tag b t.own i.formed p.1) ∙ sym (rw c (go (eqb (place_of b ((place_of b 0).own % 16)).tag 0) refl))) where
        here : (place_of b 0).own % 16 ≡ t.own
        here = omega (arith, u.own, (command_range b i.formed u.there).own_most)

        was_free : eqb (place_of b ((place_of b 0).own % 16)).tag 0 ≡ true → listing t.own h ≡ Free
        was_free e =
            let z : (place_of b t.own).tag ≡ 0 = ap (λ (q : ℕ). (place_of b q).tag) (sym here) ∙ eqb-true _ _ e in
            let p = own_range u in
            sym (i.listed t.own p.0 (omega (arith, p.1))) ∙ kept_free b t.own z

        go : (z : Bool) → eqb (place_of b ((place_of b 0).own % 16)).tag 0 ≡ z → pick (pick z false true) (said_by (taken (cleared (cleared b t.own) 0)) h) (listing t.own h) ≡ Free
        go true e = was_free e
        go false e = said_free (cleared (cleared b t.own) 0) n

  -- EVERY DEED
  pub received : (app : List ℕ) → Deed b app s t → Holds (book_by b app t t.row) (taken (book_by b app t t.row) ∷ h)
  received app (still e c v l k) =
      nothing b h i (taken (book_by b app t t.row)) e refl (answers_is (book_by b app t t.row) ∙ ne_eqb _ _ v) refl (λ p. names_is (book_by b app t t.row) p ∙ rw c refl) refl
  received app (ends e c u n) =
      ended b h i (taken (book_by b app t t.row)) e (is_there b u.there) refl (rw (answers_is (book_by b app t t.row), u.event) refl)
      (λ p. names_is (book_by b app t t.row) p ∙ rw c refl)
  received app (reserves e c v n st z p r k g d) = rw e (reserving app c v n st p r k g d)
  received app (frees e c v n p) = rw e (freeing c v n p)
  received app (gains e c u n st l) = rw e (gaining c u n st l)
  received app (loses e c u n) = rw e (losing c u n)

  -- PROMISE 7, of a frame that was taken
  first_or_second : wins t ≡ true → (eqb (event_of t.row) 1 ≡ true) ⊎ (eqb (event_of t.row) 2 ≡ true)
  first_or_second k = go (eqb t.status 0) (eqb (event_of t.row) 1) refl (eqb (event_of t.row) 2) refl k where
    go : (x y : Bool) → eqb (event_of t.row) 1 ≡ y → (z : Bool) → eqb (event_of t.row) 2 ≡ z → pick x (pick (pick y true z) (pick (eqb t.action 2) false true) false) false ≡ true
        → (eqb (event_of t.row) 1 ≡ true) ⊎ (eqb (event_of t.row) 2 ≡ true)
    go false y e z f m = true_false (sym m)
    go true true e z f m = inl e
    go true false e true f m = inr f
    go true false e false f m = true_false (sym m)

  no_release : wins t ≡ true → eqb t.action 2 ≡ true → ⊥
  no_release k n = go (eqb t.status 0) (pick (eqb (event_of t.row) 1) true (eqb (event_of t.row) 2)) (rw n at k) where
    go : (x y : Bool) → pick x (pick y false false) false ≡ true → ⊥
    go true true m = true_false (sym m)
    go true false m = true_false (sym m)
    go false y m = true_false (sym m)

  module _ (x : List ℕ) (q : ℕ) (y : List ℕ) (r : With b t.own q y) where
    abbrev Once : Type 0
    Once = (get_or a' 5 0 ≡ q) × (event_app (taken x) h ≡ y)

    once : (app : List ℕ) → Deed b app s t → wins t ≡ true → Once
    once app (still e c v l k) z = go (l z) (first_or_second z) where
      go : (t.own ≡ 0) ⊎ (((place_of b t.own).tag ≡ 0) ⊎ ((t.peer ≡ (place_of b t.own).peer) × (app ≡ app_of_is b t.own))) → (eqb (event_of t.row) 1 ≡ true) ⊎ (eqb (event_of t.row) 2 ≡ true) → Once
      go (inl m) n = absurd (omega (arith, m, r.port))
      go (inr (inl m)) n = absurd (omega (arith, m, r.tag))
      go (inr (inr m)) (inr n) = absurd (v (eqb-true _ _ n))
      go (inr (inr m)) (inl n) = (w.peer ∙ m.0 ∙ r.peer, rw (w.event, n, w.start, w.len) (k z ∙ m.1 ∙ r.app))
    once app (reserves e c v n st m p g k d j) z = absurd (omega (arith, m, r.tag))
    once app (frees e c v n p) z = absurd (no_release z n)
    once app (gains e c u n st l) z =
        let tag : 1 ≤ (place_of b (place_of b 0).own).tag = rw u.own at r.tag in
        let m = i.paired (asking u n) tag in
        let peer : (place_of b 0).peer ≡ q = sym m.0 ∙ (rw u.own at r.peer) in
        let app : app_of_is b 0 ≡ y = sym m.1 ∙ (rw u.own at r.app) in
        (w.peer ∙ u.peer ∙ peer, rw (w.event, u.event) (sym (i.asked (asking u n)) ∙ app))
    once app (ends e c u n) z = true_false (sym z ∙ n)
    once app (loses e c u n) z = absurd (no_release z n)

  pub not_twice : (x app : List ℕ) → Deed b app s t → NotTwice (taken x) h
  not_twice x app d k q y r = once x q y (reserved_with b t.own q y (rw w.own at r)) app d (sym (succeeded_is x) ∙ k)

  -- no event with word 7 set names port 0
  pub not_zero : (x app : List ℕ) → Deed b app s t → names (taken x) 0 ≡ false
  not_zero x app d = names_is x 0 ∙ go d where
    port : 1 ≤ t.own → pick t.changed (eqb t.own 0) false ≡ false
    port l = rw (ne_eqb t.own 0 (omega (arith, l))) (none t.changed) where
      none : (c : Bool) → pick c false false ≡ false
      none true = refl
      none false = refl

    go : Deed b app s t → pick t.changed (eqb t.own 0) false ≡ false
    go (still e c v l k) = rw c refl
    go (reserves e c v n st z p r k g j) = port p.0
    go (frees e c v n p) = port p.0
    go (gains e c u n st l) = port (own_range u).0
    go (ends e c u n) = rw c refl
    go (loses e c u n) = port (own_range u).0
