-- The body that words say, as it is written, reads as itself after any header. Assumes nothing.
use Prim.Native.Nat.{ℕ, ◌+◌, ◌-◌, ◌*◌, ◌/◌, ◌%◌, ◌≤◌, ◌<◌}
use native.Mathlib.Omega.{arith}
use mathlib.Core.Path.{◌≡◌, refl, sym, ap, subst, ◌∙◌}
use mathlib.Core.List.{List, [], ◌∷◌, ◌++◌, append-nil, append_assoc, map}
use Rattle.std.specs.Prelude.{Option, Some, None, is_some}
use Rattle.std.specs.Option.{unwrap_or, option_map}
use Rattle.std.proofs.lemmas.Option.{none-some}
use mathlib.Core.Bool.{Bool, true, false}
use lib.ListN.{length, take, drop, length-append}
use lib.Seq.{drop_at, take_at, take_all, drop-append-add}
use lib.Dec.{ltb, eqb}
use borrow.Author.Tests.{eq-eqb}
use Rattle.base_lists.specs.Seq.{pick, bit, part, tab}
use Rattle.base_lists.proofs.StoresAndParts.{length_part}
use Rattle.rds_frame.specs.declared.Kind.{Kind}
use Rattle.rds_frame.specs.declared.Kind.TheVariants as K
use Rattle.rds_entries.specs.declared.Entry.{Entry}
use Rattle.rds_parameters.specs.Parameters.{items_from}
use Rattle.rds_body.specs.declared.Body.{Body}
use Rattle.rds_body.specs.declared.Body.TheVariants as B
use Rattle.rds_body.specs.declared.Form.{Form}
use Rattle.rds_body.specs.declared.Form.TheVariants as F
use Rattle.rds_body.specs.declared.Managed.{Managed}
use Rattle.rds_body.specs.Body.{form_of, no_list, lone, managed_of}
use Rattle.rds_reading.specs.Read.{empty_of, items_of, manage_of, u_body, body_by}
use Rattle.rds_size.specs.Size.{inside, information_size, entries_size, list_size, body_size}
use Rattle.rds_size.proofs.SizeTests.{Application}
use Rattle.rds_size.proofs.Fits.{information_fits}
use Rattle.rds_pieces.specs.Octets.{bitmap_octets, fixed_of, asking_pieces, answer_pieces, query_pieces, list_pieces, pieces_of}
use Rattle.rds_encoding.specs.Encoding.{entries_octets, pieces_octets}
use Rattle.rds_said.specs.Said.{word, set?, format_said, ports_said, asking_said, form_said, manage_said, u_said, body_said, entry_said, list_said, entries_said}
use Rattle.rds_writing.specs.Write.{is_items}
use Rattle.rds_written.specs.Trips.{unplaced_body, unplaced_entry, body_part, entry_part}
use Rattle.rds_written.proofs.Held.{asking_held}
use Rattle.rds_written.proofs.Lists.{told, told_alike, told_parts}
use Rattle.rds_written.proofs.Forms.{Bitmap, asking_again, answer_again, query_again}
use Rattle.rds_written.proofs.Listed.{format_narrow, no_format, all_narrow, list_again}

-- what a body read in f has of the body b and the entries l, whose parts lie in s
pub record Back (f : List ℕ) (o : Option Managed) (s : List ℕ) (b : Body) (l : List Entry) : Type 0 where
  pub managed : Managed
  pub sound : o ≡ Some managed
  pub alike : unplaced_body managed.body ≡ unplaced_body b
  pub alike_list : map unplaced_entry managed.list ≡ map unplaced_entry l
  pub same_part : body_part f managed.body ≡ body_part s b
  pub same_parts : map (entry_part f) managed.list ≡ map (entry_part s) l

-- a body without a list
plain : (f s w : List ℕ) (c b : Body) → unplaced_body c ≡ unplaced_body b → body_part f c ≡ body_part s b → Back f (Some (no_list c)) s b (list_said w false 0)
unfolding no_list list_said entry_said tab
plain f s w c b q r = record { managed = no_list c; sound = refl; alike = q; alike_list = refl; same_part = r; same_parts = refl }

same_bodies : (a b : Body) → Some a ≡ Some b → a ≡ b
same_bodies a b p = cc

-- the information of SET_PARAMETERS that is not too long is items
items_held : (s : List ℕ) (start len : ℕ) → information_size s start len true ≤ 1520 → items_from len (part s start len) ≡ true
unfolding information_size
items_held s start len = go (ltb 1520 len) (inside (length s) start len) (items_from len (part s start len)) where
  go : (a b t : Bool) → pick a 1521 (pick b (pick t len 1521) 1521) ≤ 1520 → t ≡ true
  go a b true h = refl
  go true b false h = absurd (omega (arith, h))
  go false true false h = absurd (omega (arith, h))
  go false false false h = absurd (omega (arith, h))

-- a list that is not too long has entries that aren't
list_held : (s : List ℕ) (list : List Entry) (a : ℕ) (some : Bool) (n : ℕ) → list_size s list a some n ≤ 1520 → entries_size s (ltb 5 a) list (n % 16) ≤ 1520
unfolding list_size
list_held s list a true n h = omega (arith, h)
list_held s list a false n h = omega (arith, h)

-- bitmaps that words say
bitmap_said : (x : ℕ) (b : Bool) → Bitmap (ports_said x b)
unfolding ports_said
bitmap_said x true = (even (x % 65536 / 2), omega arith) where
  even : (y : ℕ) → y * 2 ≡ y * 2 / 2 * 2
  even y = omega arith
bitmap_said x false = tt

module _ (H P : List ℕ) (end : ℕ) (h : length H ≡ end) where
  abbrev f : List ℕ
  f = H ++ P

  rest_is : drop end f ≡ P
  rest_is = drop_at H P end h

  length_is : length f - end ≡ length P
  length_is = omega (arith, length-append H P, h)

  part_is : (k n : ℕ) → part f (end + k) n ≡ part P k n
  part_is k n =
      let e : end + k ≡ length H + k = omega (arith, h) in
      ap (take n) (ap (λ (x : ℕ). drop x f) e ∙ drop-append-add H P k)

  module _ (s w : List ℕ) where
    -- information: all that follows the header
    information_back : (start len : ℕ) → start + len ≤ length s → P ≡ part s start len → Back f (Some (no_list (B.Information end (length f - end)))) s (B.Information start len) (list_said w false 0)
    unfolding unplaced_body body_part
    information_back start len inside e =
        let l : length f - end ≡ len = length_is ∙ ap length e ∙ length_part s start len inside in
        let same : part f end (length f - end) ≡ part s start len = ap (take (length f - end)) rest_is ∙ take_all (length f - end) P (omega (arith, length_is)) ∙ e in
        plain f s w _ (B.Information start len) (ap (B.Information 0) l) same

    empty_back : P ≡ [] → Back f (lone (empty_of (length f) end)) s B.Empty (list_said w false 0)
    unfolding empty_of body_part
    empty_back e =
        let n : length f ≡ end = omega (arith, length-append H P, ap length e, h) in
        rw (eq-eqb _ _ n) (plain f s w B.Empty B.Empty refl refl)

    -- the command Reserve or Release
    asking_back : (response : Bool) (a p d start len x : ℕ) → a < 16 → p < 16 → d < 16 → x < 8 → (eqb a 5 ≡ false → x ≡ 0) → form_of a response ≡ Some F.Asking → Application s start len
        → P ≡ pieces_octets s (list_said w false 0) (asking_pieces a p d start len x) → Back f (managed_of P end response) s (B.Asking a p d start len x) (list_said w false 0)
    unfolding unplaced_body body_part asking_pieces pieces_octets
    asking_back response a p d start len x ha hp hd hx none form app e =
        let m = asking_again s (list_said w false 0) end a p d start len x ha hp hd app response hx none form in
        let here : part P 2 len ≡ part s start len = ap (λ (y : List ℕ). part y 2 len) e ∙ take_at (part s start len) _ len (length_part s start len app.ends) in
        rw (ap (λ (y : List ℕ). managed_of y end response) e ∙ m) (plain f s w (B.Asking a p d (end + 2) len x) (B.Asking a p d start len x) refl (part_is 2 len ∙ here))

    answer_back : (response : Bool) (a x t : ℕ) → a < 16 → x < 8 → (eqb a 5 ≡ false → x ≡ 0) → t < 4 → form_of a response ≡ Some F.Answer
        → P ≡ pieces_octets s (list_said w false 0) (answer_pieces a x t) → Back f (managed_of P end response) s (B.Answer a x t) (list_said w false 0)
    unfolding body_part
    answer_back response a x t ha hx none ht form e =
        rw (ap (λ (y : List ℕ). managed_of y end response) e ∙ answer_again s (list_said w false 0) end response a x t ha hx none ht form) (plain f s w (B.Answer a x t) (B.Answer a x t) refl refl)

    query_back : (response : Bool) (a : ℕ) (p : Option ℕ) → a < 16 → Bitmap p → form_of a response ≡ Some F.Query
        → P ≡ pieces_octets s (list_said w false 0) (query_pieces a p) → Back f (managed_of P end response) s (B.Query a p) (list_said w false 0)
    unfolding body_part
    query_back response a p ha even form e =
        rw (ap (λ (x : List ℕ). managed_of x end response) e ∙ query_again s (list_said w false 0) end response a p ha even form) (plain f s w (B.Query a p) (B.Query a p) refl refl)

    list_back : (response : Bool) (a : ℕ) (p : Option ℕ) (n : ℕ) → a < 16 → Bitmap p → n ≤ 15 → form_of a response ≡ Some F.List
        → entries_size s (ltb 5 a) (list_said w (ltb 5 a) n) n ≤ 1520
        → P ≡ pieces_octets s (list_said w (ltb 5 a) n) (list_pieces a p n) → Back f (managed_of P end response) s (B.List a p n) (list_said w (ltb 5 a) n)
    unfolding body_part list_pieces pieces_octets
    list_back response a p n ha even n15 form fits e =
        let narrow = all_narrow w s (ltb 5 a) n n15 fits in
        let m = list_again w s a n ha n15 end narrow response p even form in
        let x : ℕ = n % 16 * 16 + a % 16 in
        let T : List ℕ = take (2 * bit (is_some p)) (bitmap_octets (unwrap_or p 0)) in
        let O : ℕ → List ℕ = λ k. entries_octets s (ltb 5 a) (take k (list_said w (ltb 5 a) n)) in
        let z : n % 16 ≡ n = omega (arith, n15) in
        let whole : H ++ P ≡ (H ++ (x ∷ [])) ++ (O n ++ T) = ap (λ (y : List ℕ). H ++ y) (e ∙ ap (λ (k : ℕ). x ∷ (O k ++ T)) z) ∙ sym (append_assoc H (x ∷ []) (O n ++ T)) in
        let l : length (H ++ (x ∷ [])) ≡ end + 1 = omega (arith, length-append H (x ∷ []), h) in
        rw (ap (λ (y : List ℕ). managed_of y end response) e ∙ m) (record {
          managed = record { body = B.List a p n; list = told w (ltb 5 a) n n15 s (end + 1) };
          sound = refl;
          alike = refl;
          alike_list = told_alike w (ltb 5 a) n n15 s (end + 1);
          same_part = refl;
          same_parts = ap (λ (y : List ℕ). map (entry_part y) (told w (ltb 5 a) n n15 s (end + 1))) whole ∙ told_parts w (ltb 5 a) n n15 s (end + 1) narrow (H ++ (x ∷ [])) T l;
        })

    -- the body of MANAGE_PORT that words say, by its form
    abbrev Fits : Bool → Body → Type 0
    Fits items b = (body_size s (entries_said w b) items b ≤ 1520) × (P ≡ pieces_octets s (entries_said w b) (pieces_of b))

    manage_back : (response items : Bool) (form : Form) → form_of (word w 13 % 16) response ≡ Some form → Fits items (form_said w (word w 13 % 16) form)
        → Back f (managed_of P end response) s (form_said w (word w 13 % 16) form) (entries_said w (form_said w (word w 13 % 16) form))
    unfolding asking_said body_size pieces_of entries_said
    manage_back response items F.Asking form g =
        let a : ℕ = word w 13 % 16 in
        asking_back response a (word w 15 % 16) (word w 16 % 16) (word w 17) (word w 18) (format_said (word w 19) (eqb a 5)) (omega arith) (omega arith) (omega arith) (format_narrow (word w 19) (eqb a 5)) (no_format (word w 19) (eqb a 5)) form (asking_held s a (word w 17) (word w 18) g.0) g.1
    manage_back response items F.Answer form g =
        let a : ℕ = word w 13 % 16 in
        answer_back response a (format_said (word w 19) (eqb a 5)) (word w 14 % 4) (omega arith) (format_narrow (word w 19) (eqb a 5)) (no_format (word w 19) (eqb a 5)) (omega arith) form g.1
    manage_back response items F.Query form g =
        query_back response (word w 13 % 16) (ports_said (word w 21) (set? w 20)) (omega arith) (bitmap_said (word w 21) (set? w 20)) form g.1
    manage_back response items F.List form g =
        let a : ℕ = word w 13 % 16 in
        let n : ℕ = word w 22 % 16 in
        let p : Option ℕ = ports_said (word w 21) (set? w 20) in
        let z : n % 16 ≡ n = omega arith in
        let fits : entries_size s (ltb 5 a) (list_said w (ltb 5 a) n) n ≤ 1520 = rw z at (list_held s (list_said w (ltb 5 a) n) a (is_some p) n g.0) in
        list_back response a p n (omega arith) (bitmap_said (word w 21) (set? w 20)) (omega arith) form fits g.1

    -- the information that words say
    told_back : (items : Bool) → Fits items (B.Information (word w 11) (word w 12)) → Back f (Some (no_list (B.Information end (length f - end)))) s (B.Information (word w 11) (word w 12)) (entries_said w (B.Information (word w 11) (word w 12)))
    unfolding body_size pieces_of entries_said pieces_octets entries_octets
    told_back items g = information_back (word w 11) (word w 12) (information_fits s (word w 11) (word w 12) items g.0).0 (g.1 ∙ append-nil (part s (word w 11) (word w 12)))

    items_back : Fits true (B.Information (word w 11) (word w 12)) → Back f (lone (items_of f end)) s (B.Information (word w 11) (word w 12)) (entries_said w (B.Information (word w 11) (word w 12)))
    unfolding body_size pieces_of entries_said pieces_octets entries_octets items_of
    items_back g =
        let e : P ≡ part s (word w 11) (word w 12) = g.1 ∙ append-nil (part s (word w 11) (word w 12)) in
        let l : length f - end ≡ word w 12 = length_is ∙ ap length e ∙ length_part s (word w 11) (word w 12) (information_fits s (word w 11) (word w 12) true g.0).0 in
        let t : items_from (length f - end) (drop end f) ≡ true = (λ i. items_from (l i) ((rest_is ∙ e) i)) ∙ items_held s (word w 11) (word w 12) g.0 in
        rw t (told_back true g)

    none_back : (items : Bool) → Fits items B.Empty → Back f (lone (empty_of (length f) end)) s B.Empty (entries_said w B.Empty)
    unfolding pieces_of fixed_of entries_said pieces_octets entries_octets
    none_back items g = empty_back g.1

    -- a body that is said, where one with its sizes is read
    given : (items : Bool) (o : Option Managed) (c b : Body) → Some c ≡ Some b → (Fits items c → Back f o s c (entries_said w c)) → Fits items b → Back f o s b (entries_said w b)
    given items o c b e = subst (λ (b : Body). (Fits items c → Back f o s c (entries_said w c)) → Fits items b → Back f o s b (entries_said w b)) (same_bodies c b e) (λ h. h)

    managed_back : (response items : Bool) (b : Body) → manage_said w response ≡ Some b → Fits items b → Back f (manage_of f end false response) s b (entries_said w b)
    unfolding manage_said manage_of
    managed_back response items b e g = rw rest_is (go (form_of (word w 13 % 16) response) refl e) where
      go : (form : Option Form) → form_of (word w 13 % 16) response ≡ form → option_map (form_said w (word w 13 % 16)) form ≡ Some b → Back f (managed_of P end response) s b (entries_said w b)
      go None q e = absurd (none-some b e)
      go (Some form) q e = given items (managed_of P end response) (form_said w (word w 13 % 16) form) b e (manage_back response items form q) g

    -- the body of a U frame that words say
    u_back : (m : ℕ) (response ads : Bool) (b : Body) → u_said w m response ads ≡ Some b → Fits (eqb m 11) b → Back f (u_body f end ads m response) s b (entries_said w b)
    unfolding u_said u_body
    u_back m response ads b = go (eqb m 1) (eqb m 4) (eqb m 10) (eqb m 11) ads where
      information : Body
      information = B.Information (word w 11) (word w 12)

      body : (b1 b4 b10 ads : Bool) → Option Body
      body b1 b4 b10 ads = pick b1 (Some B.Empty) (pick b4 (Some B.Empty) (pick b10 (pick ads None (manage_said w response)) (Some information)))

      go : (b1 b4 b10 b11 ads : Bool) → body b1 b4 b10 ads ≡ Some b → Fits b11 b
          → Back f (pick b1 (lone (empty_of (length f) end)) (pick b4 (lone (empty_of (length f) end)) (pick b10 (manage_of f end ads response) (pick b11 (lone (items_of f end)) (Some (no_list (B.Information end (length f - end)))))))) s b (entries_said w b)
      go true b4 b10 b11 ads e = given b11 (lone (empty_of (length f) end)) B.Empty b e (none_back b11)
      go false true b10 b11 ads e = given b11 (lone (empty_of (length f) end)) B.Empty b e (none_back b11)
      go false false true b11 true e = absurd (none-some b e)
      go false false true b11 false e = managed_back response b11 b e
      go false false false true ads e = given true (lone (items_of f end)) information b e items_back
      go false false false false ads e = given false (Some (no_list (B.Information end (length f - end)))) information b e (told_back false)

    -- the body that words say, by the kind
    pub body_back : (ads : Bool) (k : Kind) (b : Body) → body_said w ads k ≡ Some b → Fits (is_items k) b → Back f (body_by f end ads k) s b (entries_said w b)
    unfolding body_said body_by is_items
    body_back ads (K.I a ns nr r) b e = given false (Some (no_list (B.Information end (length f - end)))) (B.Information (word w 11) (word w 12)) b e (told_back false)
    body_back ads (K.S a nr r) b e = given false (lone (empty_of (length f) end)) B.Empty b e (none_back false)
    body_back ads (K.Ui nu) b e = given false (Some (no_list (B.Information end (length f - end)))) (B.Information (word w 11) (word w 12)) b e (told_back false)
    body_back ads (K.U m response) b e = u_back m response ads b e
