-- Promise 6: a well-formed book stays so over every call of the book. Assumes nothing.
use mathlib.Core.Path.{◌≡◌, refl, sym, ◌∙◌}
use mathlib.Core.List.{List, [], ◌∷◌}
use Rattle.std.specs.Prelude.{Option, Some, None}
use mathlib.Core.Bool.{Bool, true, false}
use mathlib.Core.Logic.{◌⊎◌, inl, inr}
use Prim.Native.Nat.{ℕ, zero, suc, ◌+◌, ◌*◌, ◌≤◌, ◌<◌}
use native.Mathlib.Omega.{arith}
use lib.ListN.{length, get_or, replicate, length-replicate, get_or-replicate}
use lib.Dec.{ltb, eqb}
use lib.Seq.{get_or-append-add}
use borrow.Author.Tests.{ltb-false, eqb-true, eqb-false}
use Rattle.base_lists.specs.Seq.{pick, bit}
use Rattle.base_lists.proofs.StoresAndParts.{bit_le, true_false}
use Rattle.rds_reading.specs.Read.{frame_of}
use Rattle.rds_reading.specs.declared.Frame.{Frame}
use Rattle.rds_book.specs.declared.Place.{Place}
use Rattle.rds_book.specs.Book.{book_size, place_size, app_most, place_at_is, place_of, app_of_is, keep, cleared, well_formed}
use Rattle.rds_turn.specs.declared.Turn.{Turn}
use Rattle.rds_turn.specs.Turn.{application_of}
use Rattle.rds_lent.specs.Left.{Left, lent_well}
use Rattle.rds_lent.specs.Asked.{outstanding, is_reserved, not_now, out_of_range_is, is_app, sending, reserving, releasing}
use Rattle.rds_ports.specs.Ports.{reserve_in, reserve_of, release_in, release_of, again_in, again_of, abandon_after}
use Rattle.rds_shown.specs.Shown.{fresh_book, fresh_number, fresh_after, port_in, port_of}
use Rattle.rds_receiving.specs.Receiving.{reservation, book_by, turned, turn_in, receive_frame, from_peer, receive_of}
use Rattle.rds_book_laws.specs.Formed.{PortRange, InRange, Zero, IsApp, Used, PlaceFormed, Formed, Octets, StaysFormed}
use Rattle.rds_book_laws.proofs.FormedTest.{free_tag, formed_of, of_formed}
use Rattle.rds_book_laws.proofs.Stores.{app_kept, keep_formed, clear_formed}
use Rattle.rds_book_laws.proofs.FrameFacts.{Each, BodyFacts, body_facts}
use Rattle.rds_book_laws.proofs.Deeds.{Deed, still, reserves, frees, gains, ends, loses, command_range, deed}

-- a place that keeps something keeps an Application ID
pub used_of : (b : List ℕ) (p : ℕ) → Formed b → p < 16 → 1 ≤ (place_of b p).tag → Used b p
used_of b p f l h = go (f.places p l) where
  go : PlaceFormed b p → Used b p
  go (inl z) = absurd (omega (arith, free_tag b p z, h))
  go (inr u) = u

pub app_of : (b : List ℕ) (p : ℕ) → Formed b → p < 16 → 1 ≤ (place_of b p).tag → IsApp (app_of_is b p)
app_of b p f l h = app_kept b p f.size l (used_of b p f l h).most

port_range : (p : ℕ) (x : Place) → 1 ≤ p → PortRange x → InRange p x
port_range zero x h r = elim h [ ]
port_range (suc p) x h r = r

-- the tests of `rds_reserve`
pub in_range_holds : (own peers : ℕ) → out_of_range_is own peers ≡ false → (1 ≤ own) × (own ≤ 15) × (peers ≤ 15)
unfolding out_of_range_is
in_range_holds own peers h = go (eqb own 0) refl (ltb 15 own) refl h where
  go : (x : Bool) → eqb own 0 ≡ x → (y : Bool) → ltb 15 own ≡ y → pick x true (pick y true (ltb 15 peers)) ≡ false → (1 ≤ own) × (own ≤ 15) × (peers ≤ 15)
  go true e y g k = true_false k
  go false e true g k = true_false k
  go false e false g k = (omega (arith, eqb-false own 0 e), ltb-false 15 own g, ltb-false 15 peers k)

pub is_app_holds : (app : List ℕ) → is_app app ≡ true → IsApp app
unfolding is_app
is_app_holds app h = go (ltb (length app) 17) (ltb app_most (length app)) refl h where
  go : (x y : Bool) → ltb app_most (length app) ≡ y → pick x false (pick y false (eqb (length app) (17 + get_or app 16 0))) ≡ true → IsApp app
  go true y g k = true_false (sym k)
  go false true g k = true_false (sym k)
  go false false g k = record { long = eqb-true _ _ k; most = ltb-false app_most (length app) g }

pub reserved_port : (b : List ℕ) (own : ℕ) → is_reserved b own ≡ true → (1 ≤ own) × (own < 16) × (1 ≤ (place_of b own).tag)
unfolding is_reserved
reserved_port b own h = go (eqb own 0) refl (ltb 15 own) refl (eqb (place_of b own).tag 0) refl h where
  go : (x : Bool) → eqb own 0 ≡ x → (y : Bool) → ltb 15 own ≡ y → (z : Bool) → eqb (place_of b own).tag 0 ≡ z → pick x false (pick y false (pick z false true)) ≡ true → (1 ≤ own) × (own < 16) × (1 ≤ (place_of b own).tag)
  go true e y g z k h = true_false (sym h)
  go false e true g z k h = true_false (sym h)
  go false e false g true k h = true_false (sym h)
  go false e false g false k h = (omega (arith, eqb-false own 0 e), omega (arith, ltb-false 15 own g), omega (arith, eqb-false (place_of b own).tag 0 k))

-- O1: the command that is stored
pub reserving_formed : (b : List ℕ) (own peers : ℕ) (with : Bool) (app : List ℕ) → Formed b → out_of_range_is own peers ≡ false → is_app app ≡ true → Formed (keep b 0 (reserving own peers with) app)
unfolding reserving
reserving_formed b own peers with app f r a =
    let k = in_range_holds own peers r in
    keep_formed b 0 _ app f (omega arith) (go with).1 (record { action = (go with).0; own = k.0; own_most = k.1; peer = k.2; format = refl }) (is_app_holds app a) where
      action : Bool → ℕ
      action x = pick x 5 1

      go : (x : Bool) → ((action x ≡ 1) ⊎ ((action x ≡ 2) ⊎ (action x ≡ 5))) × (1 ≤ action x)
      go true = (inr (inr refl), omega arith)
      go false = (inl refl, omega arith)

-- O2
pub releasing_formed : (b : List ℕ) (own : ℕ) → Formed b → is_reserved b own ≡ true → Formed (keep b 0 (releasing b own) (app_of_is b own))
unfolding releasing
releasing_formed b own f r =
    let k = reserved_port b own r in
    keep_formed b 0 _ (app_of_is b own) f (omega arith) (omega arith) (record { action = inr (inl refl); own = k.0; own_most = omega (arith, k.1); peer = peer_of_holds own k.0 (used_of b own f k.1 k.2).range; format = refl }) (app_of b own f k.1 k.2) where
      peer_of_holds : (p : ℕ) → 1 ≤ p → InRange p (place_of b own) → (place_of b own).peer ≤ 15
      peer_of_holds zero h r = elim h [ ]
      peer_of_holds (suc p) h r = r.peer

-- a port that is reserved by this side
port_fields : (whom : ℕ) (t : Turn) → 1 ≤ whom → whom ≤ 2 → t.peer ≤ 15 → t.format ≤ 7 → (1 ≤ (reservation whom t).tag) × PortRange (reservation whom t)
unfolding reservation
port_fields whom t h k p f = (h, record { whom = k; own = refl; peer = p; format = f })

pub port_formed : (b : List ℕ) (whom : ℕ) (t : Turn) (app : List ℕ) → Formed b → 1 ≤ whom → whom ≤ 2 → (1 ≤ t.own) × (t.own < 16) → t.peer ≤ 15 → t.format ≤ 7 → IsApp app → Formed (keep b t.own (reservation whom t) app)
port_formed b whom t app f h k p q r a =
    let x = port_fields whom t h k q r in
    keep_formed b t.own (reservation whom t) app f p.1 x.0 (port_range t.own (reservation whom t) p.0 x.1) a

-- R1 to R15
pub book_formed : (b app frame : List ℕ) (t : Turn) → Formed b → Deed b app frame t → Formed (book_by b app t t.row)
book_formed b app frame t f (still e c v l h) = rw e f
book_formed b app frame t f (reserves e c v n st z p r a h g) = rw e (port_formed b 2 t app f (omega arith) (omega arith) p r.0 r.1 a)
book_formed b app frame t f (frees e c v n p) = rw e (clear_formed b t.own f p.1)
book_formed b app frame t f (gains e c o n st l) =
    let r = command_range b f o.there in
    let low : 1 ≤ t.own = rw o.own r.own in
    let high : t.own ≤ 15 = rw o.own r.own_most in
    rw e (clear_formed _ 0 (port_formed b 1 t (app_of_is b 0) f (omega arith) (omega arith) (low, omega (arith, high)) (rw o.peer r.peer) l (app_of b 0 f (omega arith) o.there)) (omega arith))
book_formed b app frame t f (ends e c o w) = rw e (clear_formed b 0 f (omega arith))
book_formed b app frame t f (loses e c o n) =
    let high : t.own ≤ 15 = rw o.own (command_range b f o.there).own_most in
    rw e (clear_formed _ 0 (clear_formed b t.own f (omega (arith, high))) (omega arith))

pub turn_deed : (b s : List ℕ) → Formed b → Octets s → Each (λ (g : Frame). Deed b (application_of s g.body) s (turn_in b s g)) (frame_of s (from_peer b))
turn_deed b s f octet = go (frame_of s (from_peer b)) (body_facts s octet (from_peer b)) where
  go : (o : Option Frame) → Each (λ (g : Frame). BodyFacts s g.body) o → Each (λ (g : Frame). Deed b (application_of s g.body) s (turn_in b s g)) o
  go (Some g) h = deed b f s g.head.ads g.body g.head.kind h
  go None h = tt

-- `rds_ports_fresh`: every place is free
pub fresh_zero : (network : Bool) (formats p : ℕ) → p < 16 → Zero (fresh_book network formats) (place_at_is p) place_size
unfolding fresh_book
fresh_zero network formats p m k h =
    let e : place_at_is p + k ≡ 2 + (p * place_size + k) = omega arith in
    rw e (get_or-append-add (bit network ∷ formats ∷ []) (replicate 4416 0) (p * place_size + k) 0 ∙ get_or-replicate 4416 (p * place_size + k) 0 0 (omega arith))

pub fresh_formed : (network : Bool) (formats : ℕ) → formats ≤ 7 → Formed (fresh_book network formats)
unfolding fresh_book
fresh_formed network formats l = record {
  size = omega (arith, length-replicate {A = ℕ} 4416 0);
  side = bit_le network;
  formats = l;
  places = λ p m. inl (fresh_zero network formats p m);
}

-- PROMISE 6, call by call
module _ (b o a : List ℕ) where
  either : (t : Bool) (x y : Left) → (t ≡ true → Formed x.book) → (t ≡ false → Formed y.book) → Formed (pick t x y).book
  either true x y p q = p refl
  either false x y p q = q refl

  module _ (f : Formed b) where
    pub reserve_formed : (own peers : ℕ) (with : Bool) (app : List ℕ) → Formed (reserve_of b o a own peers with app).book
    unfolding reserve_of reserve_in sending
    reserve_formed own peers with app =
        either (lent_well b o a) _ _
        (λ w. either (not_now b own with) _ _ (λ n. f) (λ n. either (out_of_range_is own peers) _ _ (λ r. f) (λ r. either (is_app app) _ _ (λ k. reserving_formed b own peers with app f r k) (λ k. f))))
        (λ w. f)

    pub release_formed : (own : ℕ) → Formed (release_of b o a own).book
    unfolding release_of release_in sending
    release_formed own =
        either (lent_well b o a) _ _ (λ w. either (is_reserved b own) _ _ (λ r. either (outstanding b) _ _ (λ c. f) (λ c. releasing_formed b own f r)) (λ r. f)) (λ w. f)

    pub again_formed : Formed (again_of b o a).book
    unfolding again_of again_in sending
    again_formed = either (lent_well b o a) _ _ (λ w. either (outstanding b) _ _ (λ c. f) (λ c. f)) (λ w. f)

    pub port_stays : (p : ℕ) → Formed (port_of b o a p).book
    unfolding port_of port_in
    port_stays p = either (lent_well b o a) _ _ (λ w. either (ltb 15 p) _ _ (λ c. f) (λ c. f)) (λ w. f)

    pub receive_formed : (s : List ℕ) → Octets s → Formed (receive_of b o a s).book
    unfolding receive_of receive_frame turned
    receive_formed s octet =
        either (lent_well b o a) _ _ (λ w. go (frame_of s (from_peer b)) (turn_deed b s f octet)) (λ w. f) where
          go : (g : Option Frame) → Each (λ (g : Frame). Deed b (application_of s g.body) s (turn_in b s g)) g → Formed (receive_frame b o a s g).book
          go (Some g) d = book_formed b _ s _ f d
          go None d = f

pub abandon_formed : (b : List ℕ) → Formed b → Formed (abandon_after b)
unfolding abandon_after
abandon_formed b f = go (well_formed b) (outstanding b) where
  go : (x y : Bool) → Formed (pick x (pick y (cleared b 0) b) b)
  go true true = clear_formed b 0 f (omega arith)
  go true false = f
  go false y = f

-- PROMISE 6, as the test says it
pub reserve_stays : (b o a : List ℕ) (own peers : ℕ) (with : Bool) (app : List ℕ) → StaysFormed b (reserve_of b o a own peers with app).book
reserve_stays b o a own peers with app h = of_formed _ (reserve_formed b o a (formed_of b h) own peers with app)

pub release_stays : (b o a : List ℕ) (own : ℕ) → StaysFormed b (release_of b o a own).book
release_stays b o a own h = of_formed _ (release_formed b o a (formed_of b h) own)

pub again_stays : (b o a : List ℕ) → StaysFormed b (again_of b o a).book
again_stays b o a h = of_formed _ (again_formed b o a (formed_of b h))

pub abandon_stays : (b : List ℕ) → StaysFormed b (abandon_after b)
abandon_stays b h = of_formed _ (abandon_formed b (formed_of b h))

pub receive_stays : (b o a s : List ℕ) → Octets s → StaysFormed b (receive_of b o a s).book
receive_stays b o a s octet h = of_formed _ (receive_formed b o a (formed_of b h) s octet)

-- an accepted `rds_ports_fresh` makes one
pub fresh_well : (b : List ℕ) (network : Bool) (formats : ℕ) → fresh_number b formats ≡ 0 → well_formed (fresh_after b network formats) ≡ true
unfolding fresh_number fresh_after
fresh_well b network formats h = go (eqb (length b) book_size) (ltb 7 formats) refl h where
  go : (x y : Bool) → ltb 7 formats ≡ y → ◌≡◌ {A = ℕ} (pick x (pick y 10 0) 1) 0 → well_formed (pick x (pick y b (fresh_book network formats)) b) ≡ true
  go true true g k = absurd (omega (arith, k))
  go true false g k = of_formed _ (fresh_formed network formats (ltb-false 7 formats g))
  go false y g k = absurd (omega (arith, k))
