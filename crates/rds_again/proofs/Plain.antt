-- Bodies without a list, as they were read: their words say them, and they are no longer than an information field. Assumes nothing.
use Prim.Native.Nat.{ℕ, ◌+◌, ◌-◌, ◌/◌, ◌%◌, ◌<◌, ◌≤◌}
use native.Mathlib.Omega.{arith}
use mathlib.Core.Path.{◌≡◌, refl, sym, ap, subst, ◌∙◌}
use mathlib.Core.List.{List, ◌++◌}
use mathlib.Core.Bool.{Bool, true, false}
use lib.ListN.{length, get_or, take, drop, length-drop}
use lib.Seq.{drop-drop, get_or-take, get_or-drop, length-take-le}
use lib.Dec.{ltb, eqb}
use borrow.Author.Tests.{eqb-false, ltb-true, ltb-false, le-leb, le-ltb, eq-eqb, ne_eqb}
use Rattle.base_lists.specs.Seq.{pick, bit, part, tab}
use Rattle.base_lists.proofs.StoresAndParts.{true_false}
use Rattle.rds_lists.proofs.ListFacts.{rest}
use Rattle.rds_frame.specs.declared.Kind.{Kind}
use Rattle.rds_frame.specs.declared.Kind.TheVariants as K
use Rattle.rds_entries.specs.Entries.{application_length}
use Rattle.rds_parameters.specs.Parameters.{items_from}
use Rattle.rds_body.specs.declared.Body.{Body}
use Rattle.rds_body.specs.declared.Body.TheVariants as B
use Rattle.rds_body.specs.declared.Form.TheVariants as F
use Rattle.rds_body.specs.declared.Managed.{Managed}
use Rattle.std.specs.Prelude.{Option, Some, None, is_some}
use Rattle.std.specs.Option.{unwrap_or}
use Rattle.rds_body.specs.Body.{form_of, bitmap_of, optional_of, asking_of, answer_of, query_by, query_of, no_list, lone}
use Rattle.rds_words.specs.Words.{kind_words, body_words, list_words}
use Rattle.rds_size.specs.Size.{inside, is_application, information_size, asking_size, body_size}
use Rattle.rds_said.specs.Said.{format_said, ports_said, asking_said, manage_said, u_said, body_said, entry_said, list_said, entries_said}
use Rattle.rds_written.proofs.Forms.{Bitmap}
use Rattle.rds_writing.specs.Write.{is_items}

-- what is found, if anything, is as P says
abbrev pub Each : {A : Type 0} → (A → Type 0) → Option A → Type 0
Each P (Some x) = P x
Each P None = Unit

pub each_at : {A : Type 0} (P : A → Type 0) (o : Option A) (x : A) → o ≡ Some x → Each P o → P x
each_at P o x e h = subst (Each P) e h

-- the words of a kind, a body and its entries
abbrev pub words_by : Kind → ℕ → ℕ → ℕ → Managed → List ℕ
words_by k e p d m = kind_words k e p d ++ (body_words m.body ++ list_words m.list)

-- the body m, read in s after a header of kind k: its words say it, and it is no longer than an information field
pub record Kept (s : List ℕ) (k : Kind) (ads : Bool) (e p d : ℕ) (m : Managed) : Type 0 where
  pub said : body_said (words_by k e p d m) ads k ≡ Some m.body
  pub listed : entries_said (words_by k e p d m) m.body ≡ m.list
  pub small : body_size s m.list (is_items k) m.body ≤ 1520

module _ (s : List ℕ) (end : ℕ) (within : end ≤ length s) (short : length s - end ≤ 1520) where
  abbrev n : ℕ
  n = length s - end

  information_small : (items : Bool) → (items ≡ true → items_from n (drop end s) ≡ true) → information_size s end n items ≤ 1520
  unfolding information_size inside
  information_small true h =
      let it : items_from n (part s end n) ≡ true = ap (items_from n) (rest end s) ∙ h refl in
      let same : n ≤ length s - end = omega arith in
      rw (le-ltb 1520 n short, le-leb end (length s) within, le-leb n (length s - end) same, it) short
  information_small false h =
      let same : n ≤ length s - end = omega arith in
      rw (le-ltb 1520 n short, le-leb end (length s) within, le-leb n (length s - end) same) short

  module _ (e p d : ℕ) (ads : Bool) where
    pub i_kept : (a : Bool) (ns nr r : ℕ) → Kept s (K.I a ns nr r) ads e p d (no_list (B.Information end n))
    unfolding no_list kind_words body_words body_said entries_said list_said entry_said tab body_size is_items
    i_kept a ns nr r = record { said = refl; listed = refl; small = information_small false (λ q. true_false (sym q)) }

    pub ui_kept : (nu : ℕ) → Kept s (K.Ui nu) ads e p d (no_list (B.Information end n))
    unfolding no_list kind_words body_words body_said entries_said list_said entry_said tab body_size is_items
    ui_kept nu = record { said = refl; listed = refl; small = information_small false (λ q. true_false (sym q)) }

    pub s_kept : (a : Bool) (nr r : ℕ) → Kept s (K.S a nr r) ads e p d (no_list B.Empty)
    unfolding no_list kind_words body_words body_said entries_said list_said entry_said tab body_size
    s_kept a nr r = record { said = refl; listed = refl; small = omega arith }

    -- U frames but MANAGE_PORT
    pub u_empty : (m : ℕ) (response : Bool) → u_said (words_by (K.U m response) e p d (no_list B.Empty)) m response ads ≡ Some B.Empty → Kept s (K.U m response) ads e p d (no_list B.Empty)
    unfolding no_list kind_words body_words body_said entries_said list_said entry_said tab body_size
    u_empty m response h = record { said = h; listed = refl; small = omega arith }

    pub u_information : (m : ℕ) (response : Bool) → eqb m 1 ≡ false → eqb m 4 ≡ false → eqb m 10 ≡ false → (eqb m 11 ≡ true → items_from n (drop end s) ≡ true) → Kept s (K.U m response) ads e p d (no_list (B.Information end n))
    unfolding no_list kind_words body_words body_said entries_said list_said entry_said tab body_size is_items u_said
    u_information m response a b c h = record { said = rw (a, b, c) refl; listed = refl; small = information_small (eqb m 11) h }

-- an Application ID that x begins with is one by itself, and has at most 272 octets
record Alone (x : List ℕ) (len : ℕ) : Type 0 where
  bounded : len ≤ 272
  within : len ≤ length x
  same : application_length (take len x) ≡ len

alone : (x : List ℕ) (len : ℕ) → get_or x 16 0 < 256 → application_length x ≡ len → (len ≡ 0 → ⊥) → Alone x len
unfolding application_length
alone x len octet e some = go (ltb (length x) 17) refl (ltb (length x) (17 + get_or x 16 0)) refl e where
  go : (a : Bool) → ltb (length x) 17 ≡ a → (b : Bool) → ltb (length x) (17 + get_or x 16 0) ≡ b → pick a 0 (pick b 0 (17 + get_or x 16 0)) ≡ len → Alone x len
  go true p b q e = absurd (some (sym e))
  go false p true q e = absurd (some (sym e))
  go false p false q e =
      let in_x : 17 + get_or x 16 0 ≤ length x = ltb-false (length x) (17 + get_or x 16 0) q in
      let l : length (take len x) ≡ len = length-take-le len x (omega (arith, e, in_x)) in
      let g : get_or (take len x) 16 0 ≡ get_or x 16 0 = get_or-take len x 16 0 (omega (arith, e)) in
      let long : 17 ≤ length (take len x) = omega (arith, l, e) in
      let full : 17 + get_or (take len x) 16 0 ≤ length (take len x) = omega (arith, l, g, e) in
      record { bounded = omega (arith, e, octet); within = omega (arith, e, in_x); same = rw (le-ltb _ _ long, le-ltb _ _ full) (ap (λ (y : ℕ). 17 + y) g ∙ e) }

-- the same at a place of s
pub application_here : (s : List ℕ) (start len : ℕ) → ((i : ℕ) → get_or s i 0 < 256) → application_length (drop start s) ≡ len → (len ≡ 0 → ⊥) → is_application s start len ≡ true
unfolding is_application inside
application_here s start len octet e some =
    let o : get_or (drop start s) 16 0 < 256 = rw (get_or-drop start s 16 0) (octet (start + 16)) in
    let a = alone (drop start s) len o e some in
    let w : len ≤ length s - start = omega (arith, a.within, length-drop start s) in
    let h : start ≤ length s = omega (arith, w, positive len some) in
    rw (ne_eqb len 0 some, le-ltb 272 len a.bounded, le-leb start (length s) h, le-leb len (length s - start) w) (eq-eqb _ _ a.same) where
      positive : (m : ℕ) → (m ≡ 0 → ⊥) → 1 ≤ m
      positive m h = omega (arith, h)

-- a bitmap of ports that words say
pub ports_again : (p : Option ℕ) → Bitmap p → ports_said (unwrap_or p 0) (eqb (bit (is_some p)) 1) ≡ p
unfolding ports_said
ports_again (Some x) even = ap Some (omega (arith, even.0, even.1))
ports_again None even = refl

module _ (s : List ℕ) (octet : (i : ℕ) → get_or s i 0 < 256) (at : ℕ) (e p d : ℕ) (response : Bool) where
  -- MANAGE_PORT, without ports in the header
  abbrev pub k : Kind
  k = K.U 10 response

  asking_kept : (a q r len f : ℕ) → a < 16 → q < 16 → r < 16 → f < 8 → (eqb a 5 ≡ false → f ≡ 0) → form_of a response ≡ Some F.Asking → is_application s (at + 2) len ≡ true → len ≤ 272
      → Kept s k false e p d (no_list (B.Asking a q r (at + 2) len f))
  unfolding no_list kind_words body_words body_said entries_said list_said entry_said tab body_size is_items u_said manage_said asking_said format_said asking_size
  asking_kept a q r len f ha hq hr hf none form app small =
      let za : a % 16 ≡ a = omega (arith, ha) in
      let zq : q % 16 ≡ q = omega (arith, hq) in
      let zr : r % 16 ≡ r = omega (arith, hr) in
      record {
        said = rw (za, form) (λ i. Some (B.Asking a (zq i) (zr i) (at + 2) len (format (eqb a 5) none i)));
        listed = refl;
        small = rw app (size (eqb a 5));
      } where
        format : (b : Bool) → (b ≡ false → f ≡ 0) → pick b (f % 8) 0 ≡ f
        format true none = omega (arith, hf)
        format false none = sym (none refl)

        size : (b : Bool) → pick b (2 + len + 1) (2 + len) ≤ 1520
        size true = omega (arith, small)
        size false = omega (arith, small)

  answer_kept : (a f t : ℕ) → a < 16 → f < 8 → (eqb a 5 ≡ false → f ≡ 0) → t < 4 → form_of a response ≡ Some F.Answer → Kept s k false e p d (no_list (B.Answer a f t))
  unfolding no_list kind_words body_words body_said entries_said list_said entry_said tab body_size is_items u_said manage_said format_said
  answer_kept a f t ha hf none ht form =
      let za : a % 16 ≡ a = omega (arith, ha) in
      let zt : t % 4 ≡ t = omega (arith, ht) in
      record { said = rw (za, form) (λ i. Some (B.Answer a (format (eqb a 5) none i) (zt i))); listed = refl; small = size (eqb a 5) } where
        format : (b : Bool) → (b ≡ false → f ≡ 0) → pick b (f % 8) 0 ≡ f
        format true none = omega (arith, hf)
        format false none = sym (none refl)

        size : (b : Bool) → pick b 3 2 ≤ 1520
        size true = omega arith
        size false = omega arith

  query_kept : (a : ℕ) (ports : Option ℕ) → a < 16 → Bitmap ports → form_of a response ≡ Some F.Query → Kept s k false e p d (no_list (B.Query a ports))
  unfolding no_list kind_words body_words body_said entries_said list_said entry_said tab body_size is_items u_said manage_said
  query_kept a ports ha even form =
      let za : a % 16 ≡ a = omega (arith, ha) in
      record { said = rw (za, form) (λ i. Some (B.Query a (ports_again ports even i))); listed = refl; small = size (is_some ports) } where
        size : (b : Bool) → pick b 3 1 ≤ 1520
        size true = omega arith
        size false = omega arith

  module _ (t : List ℕ) (here : t ≡ drop at s) where
    -- the octets of t are octets
    octet_t : (i : ℕ) → get_or t i 0 < 256
    octet_t i = rw (here, get_or-drop at s i 0) (octet (at + i))

    -- the command Reserve or Release, where it is sound
    pub asking_read : (a : ℕ) → a < 16 → form_of a response ≡ Some F.Asking → Each (Kept s k false e p d) (lone (asking_of t at a))
    unfolding asking_of
    asking_read a ha form = go (ltb (length t) 2) (eqb len 0) refl (eqb a 5) refl (eqb (length t) (2 + len + 1)) (eqb (length t) (2 + len)) where
      len : ℕ
      len = application_length (drop 2 t)

      x : ℕ
      x = get_or t 1 0

      five : Body
      five = B.Asking a (x / 16) (x % 16) (at + 2) len (get_or t (2 + len) 0 % 8)

      other : Body
      other = B.Asking a (x / 16) (x % 16) (at + 2) len 0

      read : Bool → Bool → Bool → Bool → Bool → Option Body
      read b2 b0 b5 bf bo = pick b2 None (pick b0 None (pick b5 (pick bf (Some five) None) (pick bo (Some other) None)))

      app : eqb len 0 ≡ false → is_application s (at + 2) len ≡ true
      app q = application_here s (at + 2) len octet (ap application_length (sym (drop-drop 2 at s)) ∙ ap (λ (y : List ℕ). application_length (drop 2 y)) (sym here)) (eqb-false len 0 q)

      bound : eqb len 0 ≡ false → len ≤ 272
      bound q = (alone (drop 2 t) len (rw (get_or-drop 2 t 16 0) (octet_t (2 + 16))) refl (eqb-false len 0 q)).bounded

      go : (b2 b0 : Bool) → eqb len 0 ≡ b0 → (b5 : Bool) → eqb a 5 ≡ b5 → (bf bo : Bool) → Each (Kept s k false e p d) (lone (read b2 b0 b5 bf bo))
      go true b0 q b5 r bf bo = tt
      go false true q b5 r bf bo = tt
      go false false q true r true bo = asking_kept a (x / 16) (x % 16) len (get_or t (2 + len) 0 % 8) ha (omega (arith, octet_t 1)) (omega arith) (omega arith) (λ n. true_false (sym r ∙ n)) form (app q) (bound q)
      go false false q true r false bo = tt
      go false false q false r bf true = asking_kept a (x / 16) (x % 16) len 0 ha (omega (arith, octet_t 1)) (omega arith) (omega arith) (λ n. refl) form (app q) (bound q)
      go false false q false r bf false = tt

    pub answer_read : (a : ℕ) → a < 16 → form_of a response ≡ Some F.Answer → Each (Kept s k false e p d) (lone (answer_of t a))
    unfolding answer_of
    answer_read a ha form = go (eqb a 5) refl (eqb (length t) 3) (ltb (get_or t 2 0) 4) refl (eqb (length t) 2) (ltb (get_or t 1 0) 4) refl where
      read : Bool → Bool → Bool → Bool → Bool → Option Body
      read b5 b3 bx b2 by = pick b5 (pick b3 (pick bx (Some (B.Answer a (get_or t 1 0 % 8) (get_or t 2 0))) None) None) (pick b2 (pick by (Some (B.Answer a 0 (get_or t 1 0))) None) None)

      go : (b5 : Bool) → eqb a 5 ≡ b5 → (b3 bx : Bool) → ltb (get_or t 2 0) 4 ≡ bx → (b2 by : Bool) → ltb (get_or t 1 0) 4 ≡ by → Each (Kept s k false e p d) (lone (read b5 b3 bx b2 by))
      go true r true true q b2 by u = answer_kept a (get_or t 1 0 % 8) (get_or t 2 0) ha (omega arith) (λ n. true_false (sym r ∙ n)) (ltb-true (get_or t 2 0) 4 q) form
      go true r true false q b2 by u = tt
      go true r false bx q b2 by u = tt
      go false r b3 bx q true true u = answer_kept a 0 (get_or t 1 0) ha (omega arith) (λ n. refl) (ltb-true (get_or t 1 0) 4 u) form
      go false r b3 bx q true false u = tt
      go false r b3 bx q false by u = tt

    pub query_read : (a : ℕ) → a < 16 → form_of a response ≡ Some F.Query → Each (Kept s k false e p d) (lone (query_of t a))
    unfolding query_of optional_of
    query_read a ha form = go (eqb (length (drop 1 t)) 0) (eqb (length (drop 1 t)) 2) where
      x : ℕ
      x = bitmap_of (drop 1 t)

      low : get_or (drop 1 t) 0 0 < 256
      low = rw (get_or-drop 1 t 0 0) (octet_t (1 + 0))

      high : get_or (drop 1 t) 1 0 < 256
      high = rw (get_or-drop 1 t 1 0) (octet_t (1 + 1))

      go : (b0 b2 : Bool) → Each (Kept s k false e p d) (lone (query_by a (pick b0 (Some None) (pick b2 (Some (Some x)) None))))
      go true b2 = query_kept a None ha tt form
      go false true = query_kept a (Some x) ha (omega arith, omega (arith, low, high)) form
      go false false = tt
