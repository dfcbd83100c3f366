-- The words of a frame whose parts lie elsewhere say that frame, starts and all. Assumes nothing.
use Prim.Native.Nat.{ℕ, ◌+◌, ◌%◌}
use mathlib.Core.Path.{◌≡◌, refl, sym, ap, ◌∙◌}
use mathlib.Core.List.{List, [], ◌∷◌, ◌++◌}
use Rattle.std.specs.Prelude.{Option, Some, None}
use Rattle.std.specs.Option.{option_map}
use mathlib.Core.Bool.{Bool, true, false}
use lib.ListN.{get_or}
use lib.Seq.{get_or-append-add}
use lib.Dec.{eqb}
use Rattle.base_lists.specs.Seq.{pick}
use Rattle.rds_frame.specs.declared.Kind.{Kind}
use Rattle.rds_frame.specs.declared.Kind.TheVariants as K
use Rattle.rds_body.specs.declared.Body.{Body}
use Rattle.rds_body.specs.declared.Body.TheVariants as B
use Rattle.rds_body.specs.declared.Form.{Form}
use Rattle.rds_body.specs.declared.Form.TheVariants as F
use Rattle.rds_body.specs.Body.{form_of}
use Rattle.rds_words.specs.Words.{kind_words, body_words}
use Rattle.rds_said.specs.Said.{word, format_said, ports_said, asking_said, form_said, manage_said, information_said, u_said, body_said}
use Rattle.rds_written.specs.Trips.{unplaced_body}

-- a body with its part at another start
abbrev pub place : ℕ → Body → Body
place x B.Empty = B.Empty
place x (B.Information a l) = B.Information x l
place x (B.Asking n s d a l f) = B.Asking n s d x l f
place x (B.Answer n f t) = B.Answer n f t
place x (B.Query n p) = B.Query n p
place x (B.List n p c) = B.List n p c

abbrev pub start_of : Body → ℕ
start_of B.Empty = 0
start_of (B.Information a l) = a
start_of (B.Asking n s d a l f) = a
start_of (B.Answer n f t) = 0
start_of (B.Query n p) = 0
start_of (B.List n p c) = 0

own_place : (b : Body) → b ≡ place (start_of b) (unplaced_body b)
unfolding unplaced_body
own_place B.Empty = refl
own_place (B.Information a l) = refl
own_place (B.Asking n s d a l f) = refl
own_place (B.Answer n f t) = refl
own_place (B.Query n p) = refl
own_place (B.List n p c) = refl

new_place : (x : ℕ) (b : Body) → place x (unplaced_body b) ≡ place x b
unfolding unplaced_body
new_place x B.Empty = refl
new_place x (B.Information a l) = refl
new_place x (B.Asking n s d a l f) = refl
new_place x (B.Answer n f t) = refl
new_place x (B.Query n p) = refl
new_place x (B.List n p c) = refl

-- bodies that are the same starts aside
pub placed : (x y : Body) → unplaced_body x ≡ unplaced_body y → x ≡ place (start_of x) y
placed x y e = own_place x ∙ ap (place (start_of x)) e ∙ new_place (start_of x) y

-- the words after those of a kind
pub past_kind : (k : Kind) (e p d : ℕ) (z : List ℕ) (j : ℕ) → get_or (kind_words k e p d ++ z) (11 + j) 0 ≡ get_or z j 0
unfolding kind_words
past_kind (K.I a ns nr r) e p d z j = get_or-append-add (kind_words (K.I a ns nr r) e p d) z j 0
past_kind (K.S a nr r) e p d z j = get_or-append-add (kind_words (K.S a nr r) e p d) z j 0
past_kind (K.Ui nu) e p d z j = get_or-append-add (kind_words (K.Ui nu) e p d) z j 0
past_kind (K.U m response) e p d z j = get_or-append-add (kind_words (K.U m response) e p d) z j 0

-- two lists of words whose bodies differ in starts alone
record Agree (w v : List ℕ) : Type 0 where
  w12 : word w 12 ≡ word v 12
  w13 : word w 13 ≡ word v 13
  w14 : word w 14 ≡ word v 14
  w15 : word w 15 ≡ word v 15
  w16 : word w 16 ≡ word v 16
  w18 : word w 18 ≡ word v 18
  w19 : word w 19 ≡ word v 19
  w20 : word w 20 ≡ word v 20
  w21 : word w 21 ≡ word v 21
  w22 : word w 22 ≡ word v 22

-- a body with its start as the words say it
abbrev moved : List ℕ → Body → Body
moved w B.Empty = B.Empty
moved w (B.Information a l) = B.Information (word w 11) l
moved w (B.Asking n s d a l f) = B.Asking n s d (word w 17) l f
moved w (B.Answer n f t) = B.Answer n f t
moved w (B.Query n p) = B.Query n p
moved w (B.List n p c) = B.List n p c

module _ (w v : List ℕ) (g : Agree w v) where
  form_moves : (a : ℕ) (form : Form) → form_said w a form ≡ moved w (form_said v a form)
  unfolding asking_said
  form_moves a F.Asking = λ i. B.Asking a (g.w15 i % 16) (g.w16 i % 16) (word w 17) (g.w18 i) (format_said (g.w19 i) (eqb a 5))
  form_moves a F.Answer = λ i. B.Answer a (format_said (g.w19 i) (eqb a 5)) (g.w14 i % 4)
  form_moves a F.Query = λ i. B.Query a (ports_said (g.w21 i) (eqb (g.w20 i) 1))
  form_moves a F.List = λ i. B.List a (ports_said (g.w21 i) (eqb (g.w20 i) 1)) (g.w22 i % 16)

  manage_moves : (response : Bool) → manage_said w response ≡ option_map (moved w) (manage_said v response)
  unfolding manage_said
  manage_moves response = ap (λ (n : ℕ). option_map (form_said w (n % 16)) (form_of (n % 16) response)) g.w13 ∙ go (form_of (word v 13 % 16) response) where
    go : (form : Option Form) → option_map (form_said w (word v 13 % 16)) form ≡ option_map (moved w) (option_map (form_said v (word v 13 % 16)) form)
    go None = refl
    go (Some form) = ap Some (form_moves (word v 13 % 16) form)

  information_moves : Some (information_said w) ≡ option_map (moved w) (Some (information_said v))
  information_moves = ap (λ (n : ℕ). Some (B.Information (word w 11) n)) g.w12

  u_moves : (m : ℕ) (response ads : Bool) → u_said w m response ads ≡ option_map (moved w) (u_said v m response ads)
  unfolding u_said
  u_moves m response ads = go (eqb m 1) (eqb m 4) (eqb m 10) ads where
    go : (x y z ads : Bool) → pick x (Some B.Empty) (pick y (Some B.Empty) (pick z (pick ads None (manage_said w response)) (Some (information_said w))))
        ≡ option_map (moved w) (pick x (Some B.Empty) (pick y (Some B.Empty) (pick z (pick ads None (manage_said v response)) (Some (information_said v)))))
    go true y z ads = refl
    go false true z ads = refl
    go false false true true = refl
    go false false true false = manage_moves response
    go false false false ads = information_moves

  said_moves : (ads : Bool) (k : Kind) → body_said w ads k ≡ option_map (moved w) (body_said v ads k)
  unfolding body_said
  said_moves ads (K.I a ns nr r) = information_moves
  said_moves ads (K.S a nr r) = refl
  said_moves ads (K.Ui nu) = information_moves
  said_moves ads (K.U m response) = u_moves m response ads

module _ (k : Kind) (e p d : ℕ) (l m : List ℕ) where
  abbrev with : Body → List ℕ → List ℕ
  with b z = kind_words k e p d ++ (body_words b ++ z)

  at_word : (b : Body) (z : List ℕ) (j : ℕ) → word (with b z) (11 + j) ≡ get_or (body_words b ++ z) j 0
  at_word b z j = past_kind k e p d (body_words b ++ z) j

  -- words 12 to 16 and 18 to 22 of a body
  abbrev others : List ℕ → List ℕ
  others z = get_or z 1 0 ∷ get_or z 2 0 ∷ get_or z 3 0 ∷ get_or z 4 0 ∷ get_or z 5 0 ∷ get_or z 7 0 ∷ get_or z 8 0 ∷ get_or z 9 0 ∷ get_or z 10 0 ∷ get_or z 11 0 ∷ []

  same_others : (x : ℕ) (b : Body) → others (body_words (place x b) ++ l) ≡ others (body_words b ++ m)
  unfolding body_words
  same_others x B.Empty = refl
  same_others x (B.Information a n) = refl
  same_others x (B.Asking n s d a c f) = refl
  same_others x (B.Answer n f t) = refl
  same_others x (B.Query n q) = refl
  same_others x (B.List n q c) = refl

  agree : (x : ℕ) (b : Body) → Agree (with (place x b) l) (with b m)
  agree x b = record {
    w12 = same 1 0 (λ z. refl);
    w13 = same 2 1 (λ z. refl);
    w14 = same 3 2 (λ z. refl);
    w15 = same 4 3 (λ z. refl);
    w16 = same 5 4 (λ z. refl);
    w18 = same 7 5 (λ z. refl);
    w19 = same 8 6 (λ z. refl);
    w20 = same 9 7 (λ z. refl);
    w21 = same 10 8 (λ z. refl);
    w22 = same 11 9 (λ z. refl);
  } where
    same : (j i : ℕ) → ((z : List ℕ) → get_or (others z) i 0 ≡ get_or z j 0) → word (with (place x b) l) (11 + j) ≡ word (with b m) (11 + j)
    same j i q = at_word (place x b) l j ∙ sym (q (body_words (place x b) ++ l)) ∙ ap (λ (z : List ℕ). get_or z i 0) (same_others x b) ∙ q (body_words b ++ m) ∙ sym (at_word b m j)

  start_said : (x : ℕ) (b : Body) → moved (with (place x b) l) b ≡ place x b
  unfolding body_words
  start_said x B.Empty = refl
  start_said x (B.Information a n) = ap (λ (y : ℕ). B.Information y n) (at_word (B.Information x n) l 0)
  start_said x (B.Asking n s d a c f) = ap (λ (y : ℕ). B.Asking n s d y c f) (at_word (B.Asking n s d x c f) l 6)
  start_said x (B.Answer n f t) = refl
  start_said x (B.Query n q) = refl
  start_said x (B.List n q c) = refl

  -- a body that its words say is said with its part elsewhere too
  pub body_elsewhere : (ads : Bool) (x : ℕ) (b : Body) → body_said (with b m) ads k ≡ Some b → body_said (with (place x b) l) ads k ≡ Some (place x b)
  body_elsewhere ads x b h = said_moves (with (place x b) l) (with b m) (agree x b) ads k ∙ ap (option_map (moved (with (place x b) l))) h ∙ ap Some (start_said x b)
