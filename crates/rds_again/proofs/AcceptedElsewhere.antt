-- Promise 2: the words that some frame reads as are accepted with each part anywhere inside BYTES. Assumes nothing.
use Prim.Native.Nat.{ℕ, ◌+◌, ◌%◌, ◌<◌, ◌≤◌}
use native.Mathlib.Omega.{arith}
use mathlib.Core.Path.{◌≡◌, refl, sym, ap, subst, ◌∙◌}
use mathlib.Core.List.{List, [], ◌++◌, map, append_assoc}
use Rattle.std.specs.Prelude.{Some, is_some}
use mathlib.Core.Bool.{Bool, true, false}
use lib.ListN.{length, get_or, length-append, get_or-map}
use lib.Dec.{ltb, eqb}
use borrow.Author.Tests.{le-leb, eq-eqb}
use Rattle.base_lists.specs.Seq.{pick, bit}
use Rattle.base_lists.proofs.StoresAndParts.{every_all, length_tab}
use Rattle.rds_frame.specs.declared.Kind.{Kind}
use Rattle.rds_frame.specs.declared.Head.{Head}
use Rattle.rds_entries.specs.declared.Entry.{Entry}
use Rattle.rds_entries.specs.Entries.{no_entry}
use Rattle.rds_body.specs.declared.Body.{Body}
use Rattle.rds_body.specs.declared.Body.TheVariants as B
use Rattle.rds_body.specs.declared.Managed.{Managed}
use Rattle.rds_reading.specs.declared.Frame.{Frame}
use Rattle.rds_reading.specs.Read.{frame_of}
use Rattle.rds_words.specs.Words.{kind_words, head_words, body_words, list_words, words_of}
use Rattle.rds_size.specs.Size.{entries_size, list_size, body_size}
use Rattle.rds_said.specs.Said.{head_said, body_said, entry_said, list_said, entries_said, frame_with, frame_after, frame_said}
use Rattle.rds_writing.specs.Write.{same_words, is_items, size_of, accepts}
use Rattle.rds_writing.proofs.Own.{length_kind_words}
use Rattle.rds_writing.proofs.Said.{said_full}
use Rattle.rds_written.specs.Trips.{unplaced_head, unplaced_entry, unplaced, body_part, entry_part}
use Rattle.rds_cleared.proofs.Headers.{head_said_holds}
use Rattle.rds_again.specs.Again.{unended, Accepted}
use Rattle.rds_again.specs.Elsewhere.{PartInside, Elsewhere}
use Rattle.rds_again.proofs.Plain.{Kept}
use Rattle.rds_again.proofs.Accepted.{kept, head_was, words_say}
use Rattle.rds_again.proofs.Moved.{place, start_of, placed, body_elsewhere}
use Rattle.rds_again.proofs.Entries.{entry_alike, list_elsewhere}
use Rattle.rds_again.proofs.Sizes.{information_elsewhere, asking_elsewhere, entries_elsewhere}

module _ (s f : List ℕ) (k : Kind) (e p d : ℕ) (g h : List Entry) (alike : map unplaced_entry g ≡ map unplaced_entry h)
    (none : (j : ℕ) → j < 15 → (get_or g j no_entry).len ≡ 0 → (get_or g j no_entry).start ≡ 0) where
  abbrev front : List ℕ
  front = kind_words k e p d

  step : (z y : List ℕ) → length z ≡ 13 → length y ≡ 13 → (formats : Bool) (n : ℕ) → list_said (front ++ (y ++ list_words h)) formats n ≡ h → list_said (front ++ (z ++ list_words g)) formats n ≡ g
  unfolding list_said
  step z y lz ly formats n q =
      let full : length h ≡ 15 = ap length (sym q) ∙ length_tab (entry_said (front ++ (y ++ list_words h)) formats n) 15 0 in
      let fz : length (front ++ z) ≡ 24 = omega (arith, length-append front z, length_kind_words k e p d, lz) in
      let fy : length (front ++ y) ≡ 24 = omega (arith, length-append front y, length_kind_words k e p d, ly) in
      ap (λ (w : List ℕ). list_said w formats n) (sym (append_assoc front z (list_words g)))
      ∙ list_elsewhere g h alike none (front ++ z) (front ++ y) fz fy full formats n (ap (λ (w : List ℕ). list_said w formats n) (append_assoc front y (list_words h)) ∙ q)

  -- the entries of a body, of which only a list has any
  entries_said_holds : (x : ℕ) (b : Body) → entries_said (front ++ (body_words b ++ list_words h)) b ≡ h → entries_said (front ++ (body_words (place x b) ++ list_words g)) (place x b) ≡ g
  unfolding entries_said body_words
  entries_said_holds x B.Empty q = step (body_words B.Empty) (body_words B.Empty) refl refl false 0 q
  entries_said_holds x (B.Information a l) q = step (body_words (B.Information x l)) (body_words (B.Information a l)) refl refl false 0 q
  entries_said_holds x (B.Asking n c i a l o) q = step (body_words (B.Asking n c i x l o)) (body_words (B.Asking n c i a l o)) refl refl false 0 q
  entries_said_holds x (B.Answer n o t) q = step (body_words (B.Answer n o t)) (body_words (B.Answer n o t)) refl refl false 0 q
  entries_said_holds x (B.Query n c) q = step (body_words (B.Query n c)) (body_words (B.Query n c)) refl refl false 0 q
  entries_said_holds x (B.List n c i) q = step (body_words (B.List n c i)) (body_words (B.List n c i)) refl refl (ltb 5 n) i q

  module _ (full : length h ≡ 15) (insides : (j : ℕ) → j < 15 → (get_or g j no_entry).start + (get_or g j no_entry).len ≤ length s) (same : map (entry_part s) g ≡ map (entry_part f) h) where
    lens : (j : ℕ) → (get_or g j no_entry).len ≡ (get_or h j no_entry).len
    lens j = ap (λ (x : Entry). x.len) (entry_alike g h alike none j)

    part_same : (j : ℕ) → entry_part s (get_or g j no_entry) ≡ entry_part f (get_or h j no_entry)
    part_same j = sym (get_or-map (entry_part s) g j no_entry) ∙ ap (λ (l : List (List ℕ)). get_or l j []) same ∙ get_or-map (entry_part f) h j no_entry

    list_small : (n : ℕ) (o : Bool) (c : ℕ) → list_size f h n o c ≤ 1520 → list_size s g n o c ≤ 1520
    unfolding list_size
    list_small n o c = go o where
      same_size : entries_size f (ltb 5 n) h (c % 16) ≤ 1520 → entries_size s (ltb 5 n) g (c % 16) ≡ entries_size f (ltb 5 n) h (c % 16)
      same_size = entries_elsewhere s f g h full (c % 16) (omega arith) lens insides part_same (ltb 5 n)

      go : (o : Bool) → pick o (1 + entries_size f (ltb 5 n) h (c % 16) + 2) (1 + entries_size f (ltb 5 n) h (c % 16)) ≤ 1520 → pick o (1 + entries_size s (ltb 5 n) g (c % 16) + 2) (1 + entries_size s (ltb 5 n) g (c % 16)) ≤ 1520
      go true q = rw (same_size (omega (arith, q))) q
      go false q = rw (same_size (omega (arith, q))) q

    body_small : (items : Bool) (x : ℕ) (b : Body) → PartInside s (place x b) → body_part s (place x b) ≡ body_part f b → body_size f h items b ≤ 1520 → body_size s g items (place x b) ≤ 1520
    unfolding body_size body_part
    body_small items x B.Empty i m q = q
    body_small items x (B.Information a l) i m q = information_elsewhere s f x a l items i m q
    body_small items x (B.Asking n c j a l o) i m q = asking_elsewhere s f n x a l i m q
    body_small items x (B.Answer n o t) i m q = q
    body_small items x (B.Query n c) i m q = q
    body_small items x (B.List n c j) i m q = list_small n (is_some c) j q

-- PROMISE 2, the words of g, which is the sound frame in f, starts aside
module _ (f : List ℕ) (network : Bool) (octet : (i : ℕ) → get_or f i 0 < 256) (G : Frame) (sound : frame_of f network ≡ Some G) (s : List ℕ) (g : Frame) (x : Elsewhere s g f G) where
  abbrev h : Head
  h = G.head

  abbrev m : Managed
  m = record { body = G.body; list = G.list }

  -- the words of g, its head as f has it
  abbrev words : List ℕ
  words = kind_words h.kind (bit h.ads) h.source h.destination ++ (body_words g.body ++ list_words g.list)

  head_alike : unplaced_head g.head ≡ unplaced_head h
  unfolding unplaced
  head_alike = ap (λ (z : Frame). z.head) x.alike

  body_placed : g.body ≡ place (start_of g.body) m.body
  unfolding unplaced
  body_placed = placed g.body m.body (ap (λ (z : Frame). z.body) x.alike)

  list_alike : map unplaced_entry g.list ≡ map unplaced_entry m.list
  unfolding unplaced
  list_alike = ap (λ (z : Frame). z.list) x.alike

  words_are : words_of g ≡ words
  unfolding words_of head_words
  words_are = ap (λ (z : Head). kind_words z.kind (bit z.ads) z.source z.destination ++ (body_words g.body ++ list_words g.list)) head_alike

  was : Kept f h.kind h.ads (bit h.ads) h.source h.destination m
  was = kept f network octet G sound

  body_is : body_said words h.ads h.kind ≡ Some g.body
  body_is =
      ap (λ (b : Body). body_said (kind_words h.kind (bit h.ads) h.source h.destination ++ (body_words b ++ list_words g.list)) h.ads h.kind) body_placed
      ∙ body_elsewhere h.kind (bit h.ads) h.source h.destination (list_words g.list) (list_words m.list) h.ads (start_of g.body) m.body was.said
      ∙ ap Some (sym body_placed)

  list_is : entries_said words g.body ≡ g.list
  list_is =
      ap (λ (b : Body). entries_said (kind_words h.kind (bit h.ads) h.source h.destination ++ (body_words b ++ list_words g.list)) b) body_placed
      ∙ entries_said_holds s f h.kind (bit h.ads) h.source h.destination g.list m.list list_alike x.none (start_of g.body) m.body was.listed

  -- they say g
  pub elsewhere_said : frame_said (words_of g) ≡ Some (unended g)
  unfolding frame_said
  elsewhere_said =
      let u : Head = unplaced_head h in
      let hs : head_said words ≡ Some u = head_said_holds h.kind h.ads h.source h.destination (head_was f network octet G sound).narrow_kind (head_was f network octet G sound).narrow_head (body_words g.body ++ list_words g.list) in
      ap frame_said words_are ∙ ap (frame_after words) hs ∙ ap (frame_with words u) body_is
      ∙ (λ i. Some (record { head = sym head_alike i; body = g.body; list = list_is i }))

  full : length m.list ≡ 15
  full = said_full (words_of G) (unended G) (words_say f network octet G sound)

  small : size_of s (unended g) ≤ 1520
  small =
      let part_in : PartInside s (place (start_of g.body) m.body) = subst (PartInside s) body_placed x.inside in
      let part_same : body_part s (place (start_of g.body) m.body) ≡ body_part f m.body = ap (body_part s) (sym body_placed) ∙ x.same_part in
      let placed_small =
      body_small s f h.kind (bit h.ads) h.source h.destination g.list m.list list_alike x.none full x.insides x.same_parts (is_items h.kind) (start_of g.body) m.body part_in part_same was.small in
      subst (λ (k : Kind). body_size s g.list (is_items k) g.body ≤ 1520) (ap (λ (z : Head). z.kind) (sym head_alike))
      (subst (λ (b : Body). body_size s g.list (is_items h.kind) b ≤ 1520) (sym body_placed) placed_small)

  same_words_holds : same_words (words_of g) (unended g) ≡ true
  unfolding same_words words_of head_words
  same_words_holds = every_all (λ i. eqb (get_or (words_of (unended g)) i 0) (get_or (words_of g) i 0)) 100 (λ i l. eq-eqb (get_or (words_of (unended g)) i 0) (get_or (words_of g) i 0) refl)

  -- and are accepted as what they say
  pub elsewhere_accepted : Accepted s g
  unfolding accepts
  elsewhere_accepted = (elsewhere_said, rw same_words_holds (le-leb (size_of s (unended g)) 1520 small))
