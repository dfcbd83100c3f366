-- What the octets of a frame say of the ports, the Application ID and the format in its body. Assumes nothing.
use mathlib.Core.Path.{◌≡◌, refl, ap}
use mathlib.Core.List.{List}
use mathlib.Core.Bool.{Bool, true, false}
use Prim.Native.Nat.{ℕ, ◌+◌, ◌-◌, ◌/◌, ◌%◌, ◌≤◌, ◌<◌}
use native.Mathlib.Omega.{arith}
use lib.ListN.{length, get_or, take, drop, replicate}
use lib.Dec.{ltb, leb, eqb}
use lib.Seq.{drop-drop, get_or-drop, get_or-take, length-take-le}
use borrow.Author.Tests.{ltb-false, eqb-false}
use Rattle.base_lists.specs.Seq.{pick, part}
use Rattle.rds_lists.specs.Sizes.{information_most}
use Rattle.rds_frame.specs.declared.Kind.{Kind}
use Rattle.rds_frame.specs.declared.Kind.TheVariants as K
use Rattle.rds_frame.specs.Frame.{head_of}
use Rattle.rds_entries.specs.declared.Entries.{Entries}
use Rattle.rds_entries.specs.Entries.{application_length, walk_from, no_entry}
use Rattle.rds_parameters.specs.Parameters.{items_from}
use Rattle.rds_body.specs.declared.Body.{Body}
use Rattle.rds_body.specs.declared.Body.TheVariants as B
use Rattle.rds_body.specs.declared.Form.{Form}
use Rattle.rds_body.specs.declared.Form.TheVariants as F
use Rattle.std.specs.Prelude.{Option, Some, None}
use Rattle.rds_entries.specs.declared.Entry.{Entry}
use Rattle.rds_body.specs.declared.Managed.{Managed}
use Rattle.rds_body.specs.Body.{form_of, optional_of, asking_with, asking_of, answer_of, query_by, query_of, no_list, lone, list_by, list_after, list_of, managed_by, managed_of}
use Rattle.rds_reading.specs.Read.{empty_of, items_of, manage_of, u_body, body_by, body_after, framed, frame_by, frame_of}
use Rattle.rds_reading.specs.declared.Frame.{Frame}
use Rattle.rds_frame.specs.declared.Head.{Head}
use Rattle.rds_turn.specs.Turn.{application_in}
use Rattle.rds_book_laws.specs.Formed.{IsApp, Octets}

-- a Reserve or Release command: the peer's port, and where its Application ID stands
pub record Asked (s : List ℕ) (peer start len : ℕ) : Type 0 where
  pub port : peer ≤ 15
  pub app : IsApp (application_in s start)
  pub same : part s start len ≡ application_in s start

abbrev pub BodyFacts : List ℕ → Body → Type 0
BodyFacts s B.Empty = Unit
BodyFacts s (B.Information a l) = Unit
BodyFacts s (B.Asking n p d start len f) = Asked s p start len
BodyFacts s (B.Answer n f t) = f ≤ 7
BodyFacts s (B.Query n p) = Unit
BodyFacts s (B.List n p c) = Unit

-- what is found, if anything, is as P says
abbrev pub Each : {A : Type 0} → (A → Type 0) → Option A → Type 0
Each P (Some x) = P x
Each P None = Unit

application_facts : (x : List ℕ) → get_or x 16 0 < 256 → (application_length x ≡ 0 → ⊥) → IsApp (take (application_length x) x)
unfolding application_length
application_facts x octet some = go (ltb (length x) 17) refl (ltb (length x) (17 + get_or x 16 0)) refl some where
  go : (a : Bool) → ltb (length x) 17 ≡ a → (b : Bool) → ltb (length x) (17 + get_or x 16 0) ≡ b → (pick a 0 (pick b 0 (17 + get_or x 16 0)) ≡ 0 → ⊥)
      → IsApp (take (pick a 0 (pick b 0 (17 + get_or x 16 0))) x)
  go true p b q n = elim (n refl) [ ]
  go false p true q n = elim (n refl) [ ]
  go false p false q n =
      let l : length (take (17 + get_or x 16 0) x) ≡ 17 + get_or x 16 0 = length-take-le (17 + get_or x 16 0) x (ltb-false (length x) (17 + get_or x 16 0) q) in
      let g : get_or (take (17 + get_or x 16 0) x) 16 0 ≡ get_or x 16 0 = get_or-take (17 + get_or x 16 0) x 16 0 (omega arith) in
      record { long = omega (arith, l, g); most = omega (arith, l, octet) }

module _ (s : List ℕ) (octet : Octets s) where
  -- the facts of a body and of what has one
  abbrev Facts : Managed → Type 0
  Facts m = BodyFacts s m.body

  either : (t : Bool) (x y : Option Body) → Each (BodyFacts s) x → Each (BodyFacts s) y → Each (BodyFacts s) (pick t x y)
  either true x y p q = p
  either false x y p q = q

  eitherway : (t : Bool) (x y : Option Managed) → Each Facts x → Each Facts y → Each Facts (pick t x y)
  eitherway true x y p q = p
  eitherway false x y p q = q

  lone_facts : (o : Option Body) → Each (BodyFacts s) o → Each Facts (lone o)
  unfolding no_list
  lone_facts (Some b) h = h
  lone_facts None h = tt

  module _ (at : ℕ) where
    abbrev t : List ℕ
    t = drop at s

    asking_facts : (a : ℕ) → Each (BodyFacts s) (asking_of t at a)
    unfolding asking_of application_in
    asking_facts a = either (ltb (length t) 2) _ _ tt (go (eqb (application_length (drop 2 t)) 0) refl) where
      here : drop 2 t ≡ drop (at + 2) s
      here = drop-drop 2 at s

      asked : eqb (application_length (drop 2 t)) 0 ≡ false → Asked s (get_or t 1 0 / 16) (at + 2) (application_length (drop 2 t))
      asked e =
          let o : get_or t 1 0 < 256 = rw (get_or-drop at s 1 0) (octet (at + 1)) in
          let u : get_or (drop (at + 2) s) 16 0 < 256 = rw (get_or-drop (at + 2) s 16 0) (octet (at + 2 + 16)) in
          record {
            port = omega (arith, o);
            app = application_facts (drop (at + 2) s) u (rw here at (eqb-false (application_length (drop 2 t)) 0 e));
            same = ap (λ (x : List ℕ). take (application_length x) (drop (at + 2) s)) here;
          }

      go : (z : Bool) → eqb (application_length (drop 2 t)) 0 ≡ z → Each (BodyFacts s) (asking_with t at a (application_length (drop 2 t)))
      go true e = rw e tt
      go false e = rw e (either (eqb a 5) _ _ (either (eqb (length t) _) _ _ (asked e) tt) (either (eqb (length t) _) _ _ (asked e) tt))

    answer_facts : (a : ℕ) → Each (BodyFacts s) (answer_of t a)
    unfolding answer_of
    answer_facts a =
        either (eqb a 5) _ _
        (either (eqb (length t) 3) _ _ (either (ltb (get_or t 2 0) 4) _ _ (omega arith) tt) tt)
        (either (eqb (length t) 2) _ _ (either (ltb (get_or t 1 0) 4) _ _ (omega arith) tt) tt)

    query_facts : (a : ℕ) (o : Option (Option ℕ)) → Each (BodyFacts s) (query_by a o)
    query_facts a (Some ports) = tt
    query_facts a None = tt

    list_facts : (a n : ℕ) (l : List Entry) (o : Option (Option ℕ)) → Each Facts (list_by a n l o)
    list_facts a n l (Some ports) = tt
    list_facts a n l None = tt

    list_after_holds : (a : ℕ) (e : Option Entries) → Each Facts (list_after t at a e)
    list_after_holds a (Some e) = list_facts a (get_or t 0 0 / 16) e.list (optional_of (drop (e.end - at) t))
    list_after_holds a None = tt

    form_facts : (a : ℕ) (f : Option Form) → Each Facts (managed_by t at a f)
    unfolding query_of list_of
    form_facts a (Some F.Asking) = lone_facts (asking_of t at a) (asking_facts a)
    form_facts a (Some F.Answer) = lone_facts (answer_of t a) (answer_facts a)
    form_facts a (Some F.Query) = lone_facts (query_by a (optional_of (drop 1 t))) (query_facts a (optional_of (drop 1 t)))
    form_facts a (Some F.List) = list_after_holds a (walk_from (get_or t 0 0 / 16) 0 (ltb 5 a) (at + 1) (drop 1 t) (replicate 15 no_entry))
    form_facts a None = tt

    manage_facts : (ads response : Bool) → Each Facts (manage_of s at ads response)
    unfolding manage_of managed_of
    manage_facts ads response = eitherway ads _ _ tt (eitherway (eqb (length t) 0) _ _ tt (form_facts (get_or t 0 0 % 16) (form_of (get_or t 0 0 % 16) response)))

    empty_facts : Each Facts (lone (empty_of (length s) at))
    unfolding empty_of
    empty_facts = lone_facts (pick (eqb (length s) at) (Some B.Empty) None) (either (eqb (length s) at) _ _ tt tt)

    items_facts : Each Facts (lone (items_of s at))
    unfolding items_of
    items_facts = lone_facts (pick (items_from (length s - at) (drop at s)) (Some (B.Information at (length s - at))) None) (either (items_from _ _) _ _ tt tt)

    kind_facts : (ads : Bool) (k : Kind) → Each Facts (body_by s at ads k)
    unfolding body_by u_body no_list
    kind_facts ads (K.I a ns nr r) = tt
    kind_facts ads (K.S a nr r) = empty_facts
    kind_facts ads (K.Ui nu) = tt
    kind_facts ads (K.U m response) =
        eitherway (eqb m 1) _ _ empty_facts (eitherway (eqb m 4) _ _ empty_facts (eitherway (eqb m 10) _ _ (manage_facts ads response) (eitherway (eqb m 11) _ _ items_facts tt)))

  framed_facts : (h : Head) (o : Option Managed) → Each Facts o → Each (λ (f : Frame). BodyFacts s f.body) (framed h o)
  framed_facts h (Some m) p = p
  framed_facts h None p = tt

  pub body_facts : (network : Bool) → Each (λ (f : Frame). BodyFacts s f.body) (frame_of s network)
  unfolding frame_of body_after
  body_facts network = go (head_of s network) where
    go : (h : Option Head) → Each (λ (f : Frame). BodyFacts s f.body) (frame_by s h)
    go (Some h) = framed_facts h (body_after s h) (eitherway (leb (length s - h.end) information_most) _ _ (kind_facts h.end h.ads h.kind) tt)
    go None = tt
