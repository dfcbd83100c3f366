-- The words of a PDU, read, say that PDU. Assumes nothing.
use Prim.Native.Nat.{ℕ, zero, suc, ◌+◌, ◌*◌, ◌%◌, ◌<◌}
use native.Mathlib.Omega.{arith}
use mathlib.Core.Path.{◌≡◌, refl, sym, ap, ◌∙◌}
use mathlib.Core.List.{List, [], ◌∷◌, ◌++◌, append_assoc}
use mathlib.Core.Bool.{Bool, true, false}
use lib.ListN.{length, get_or, length-append, get_or-append}
use lib.Dec.{eqb}
use lib.Seq.{get_or-append-add, ext_get_or}
use Rattle.base_lists.specs.Seq.{bit, tab}
use Rattle.base_lists.proofs.StoresAndParts.{length_tab, get_tab}
use Rattle.codec_items.specs.Items.{no_item}
use Rattle.codec_items.specs.declared.Item.{Item}
use Rattle.codec_items.specs.declared.Unknown.{Unknown}
use Rattle.codec_pdu.specs.Pdu.{unknown_of}
use Rattle.codec_pdu.specs.declared.Kind.{Kind}
use Rattle.codec_pdu.specs.declared.Kind.TheVariants.{Invoke, Result, Ack, Abort, SegInvoke, SegResult, Nack, Wrong, Refused}
use Rattle.codec_pdu.specs.declared.Pdu.{Pdu}
use Rattle.codec_words.specs.Words.{front_words, invoke_words, other_words, rest_words, item_words, items_words, head_words, words_of}
use Rattle.codec_said.specs.Said.{word, set?, kind_said, item_said, items_said, pdu_said, NarrowKind, Narrow}
use Rattle.codec_words.proofs.ItemWords.{length_items_words}
use Rattle.codec_said.proofs.ByType.{said_invoke, said_result, said_ack, said_abort, said_seg_invoke, said_seg_result, said_nack}

bit_said : (b : Bool) → eqb (bit b) 1 ≡ b
bit_said true = refl
bit_said false = refl

octet_said : (x : ℕ) → x < 256 → x % 256 ≡ x
octet_said x h = omega arith

module _ (tid count start len : ℕ) (unknown : Unknown) (rest : List ℕ) where
  -- words 0 to 23 of a kind, and then others
  abbrev pub head_of : Kind → List ℕ
  head_of k = front_words k tid ++ (invoke_words k ++ (other_words k ++ rest_words count start len unknown))

  kind_stored : (k : Kind) → NarrowKind k → kind_said (head_of k ++ rest) ≡ k
  unfolding NarrowKind front_words invoke_words other_words rest_words
  kind_stored (Invoke a b c v n u l) h =
      said_invoke (head_of (Invoke a b c v n u l) ++ rest) refl
      ∙ (λ i. Invoke (bit_said a i) (bit_said b i) (bit_said c i) (octet_said v h.0 i) (bit_said n i) (bit_said u i) (octet_said l h.1 i))
  kind_stored (Result a b c) h = said_result (head_of (Result a b c) ++ rest) refl ∙ (λ i. Result (bit_said a i) (bit_said b i) (bit_said c i))
  kind_stored (Ack a c) h = said_ack (head_of (Ack a c) ++ rest) refl ∙ (λ i. Ack (bit_said a i) (bit_said c i))
  kind_stored (Abort t r) h = said_abort (head_of (Abort t r) ++ rest) refl ∙ (λ i. Abort (octet_said t h.0 i) (octet_said r h.1 i))
  kind_stored (SegInvoke a b c p) h = said_seg_invoke (head_of (SegInvoke a b c p) ++ rest) refl ∙ (λ i. SegInvoke (bit_said a i) (bit_said b i) (bit_said c i) (octet_said p h i))
  kind_stored (SegResult a b c p) h = said_seg_result (head_of (SegResult a b c p) ++ rest) refl ∙ (λ i. SegResult (bit_said a i) (bit_said b i) (bit_said c i) (octet_said p h i))
  kind_stored (Nack c n l) h = said_nack (head_of (Nack c n l) ++ rest) refl ∙ (λ i. Nack (bit_said c i) (octet_said n h i) l)
  kind_stored (Wrong d) h = absurd h
  kind_stored (Refused r) h = absurd h

  -- words 4, 15, 16 and 17, and the number of words
  abbrev Plain : Kind → Type 0
  Plain k = (word (head_of k ++ rest) 4 ≡ tid) × (word (head_of k ++ rest) 15 ≡ count) × (word (head_of k ++ rest) 16 ≡ start) × (word (head_of k ++ rest) 17 ≡ len) × (length (head_of k) ≡ 24)

  plain_stored : (k : Kind) → Plain k
  unfolding front_words invoke_words other_words rest_words
  plain_stored (Invoke a b c v n u l) = (refl, refl, refl, refl, refl)
  plain_stored (Result a b c) = (refl, refl, refl, refl, refl)
  plain_stored (Ack a c) = (refl, refl, refl, refl, refl)
  plain_stored (Abort t r) = (refl, refl, refl, refl, refl)
  plain_stored (SegInvoke a b c p) = (refl, refl, refl, refl, refl)
  plain_stored (SegResult a b c p) = (refl, refl, refl, refl, refl)
  plain_stored (Nack c n l) = (refl, refl, refl, refl, refl)
  plain_stored (Wrong d) = (refl, refl, refl, refl, refl)
  plain_stored (Refused r) = (refl, refl, refl, refl, refl)

-- the word j of the item k
item_stored : (l : List Item) (k j : ℕ) (rest : List ℕ) → k < length l → j < 4 → get_or (items_words l ++ rest) (4 * k + j) 0 ≡ get_or (item_words (get_or l k no_item)) j 0
unfolding items_words item_words
item_stored [] k j rest h g = absurd (omega arith)
item_stored (it ∷ l) zero j rest h g =
    let z : 4 * 0 + j ≡ j = omega arith in
    ap (λ (i : ℕ). get_or (item_words it ++ (items_words l ++ rest)) i 0) z ∙ get_or-append (item_words it) (items_words l ++ rest) 0 j g
item_stored (it ∷ l) (suc k) j rest h g =
    let z : 4 * suc k + j ≡ 4 + (4 * k + j) = omega arith in
    ap (λ (i : ℕ). get_or (item_words it ++ (items_words l ++ rest)) i 0) z
    ∙ get_or-append-add (item_words it) (items_words l ++ rest) (4 * k + j) 0
    ∙ item_stored l k j rest (omega arith) g

module _ (p : Pdu) (rest : List ℕ) where
  abbrev pub stored : List ℕ
  stored = words_of p ++ rest

  -- words 0 to 23 come first
  pub head_first : stored ≡ head_words p ++ (items_words p.list ++ rest)
  unfolding words_of
  head_first = append_assoc (head_words p) (items_words p.list) rest

  abbrev plain : Plain p.tid p.count p.start p.len (unknown_of p) (items_words p.list ++ rest) p.kind
  plain = plain_stored p.tid p.count p.start p.len (unknown_of p) (items_words p.list ++ rest) p.kind

  module _ (k j : ℕ) (full : length p.list ≡ 16) (h : k < 16) (g : j < 4) where
    pub word_of_item : word stored (24 + 4 * k + j) ≡ get_or (item_words (get_or p.list k no_item)) j 0
    unfolding head_words
    word_of_item =
        let z : 24 + 4 * k + j ≡ length (head_words p) + (4 * k + j) = omega (arith, plain.4) in
        ap (λ (x : List ℕ). word x (24 + 4 * k + j)) head_first
        ∙ ap (word (head_words p ++ (items_words p.list ++ rest))) z
        ∙ get_or-append-add (head_words p) (items_words p.list ++ rest) (4 * k + j) 0
        ∙ item_stored p.list k j rest (omega arith) g

  module _ (n : Narrow p) where
    item_said_stored : (k : ℕ) → k < 16 → item_said stored k ≡ get_or p.list k no_item
    unfolding item_said item_words
    item_said_stored k h =
        let it : Item = get_or p.list k no_item in
        let at0 : 24 + 4 * k ≡ 24 + 4 * k + 0 = omega arith in
        let a : word stored (24 + 4 * k) ≡ it.identity = ap (word stored) at0 ∙ word_of_item k 0 n.list_full h (omega arith) in
        let b : word stored (24 + 4 * k + 1) ≡ bit it.long = word_of_item k 1 n.list_full h (omega arith) in
        let c : word stored (24 + 4 * k + 2) ≡ it.start = word_of_item k 2 n.list_full h (omega arith) in
        let d : word stored (24 + 4 * k + 3) ≡ it.len = word_of_item k 3 n.list_full h (omega arith) in
        let e : word stored (24 + 4 * k) % 256 ≡ it.identity = ap (λ (x : ℕ). x % 256) a ∙ octet_said it.identity (n.identity_narrow k h) in
        let f : set? stored (24 + 4 * k + 1) ≡ it.long = ap (λ (x : ℕ). eqb x 1) b ∙ bit_said it.long in
        λ i. record { identity = e i; long = f i; start = c i; len = d i }

    items_said_stored : items_said stored ≡ p.list
    unfolding items_said
    items_said_stored =
        ext_get_or no_item _ _ (length_tab (item_said stored) 16 0 ∙ sym n.list_full)
        (λ (i : ℕ) (h : i < length (tab (item_said stored) 16 0)).
        let l : i < 16 = rw (length_tab (item_said stored) 16 0) at h in
        let z : 0 + i ≡ i = omega arith in
        get_tab (item_said stored) 16 0 i no_item l ∙ ap (item_said stored) z ∙ item_said_stored i l)

    -- what was stored is said
    pub said_stored : pdu_said stored ≡ p
    unfolding pdu_said head_words
    said_stored =
        let front : (x : ℕ) → word stored x ≡ word (head_words p ++ (items_words p.list ++ rest)) x = λ x. ap (λ (w : List ℕ). word w x) head_first in
        let k : kind_said stored ≡ p.kind = ap kind_said head_first ∙ kind_stored p.tid p.count p.start p.len (unknown_of p) (items_words p.list ++ rest) p.kind n.kind_narrow in
        let t : word stored 4 % 65536 ≡ p.tid = omega (arith, front 4, plain.0, n.tid_narrow) in
        λ i. record { kind = k i; tid = t i; count = (front 15 ∙ plain.1) i; list = items_said_stored i; start = (front 16 ∙ plain.2) i; len = (front 17 ∙ plain.3) i }

-- a PDU has 88 words
pub length_words_holds : (p : Pdu) → length p.list ≡ 16 → length (words_of p) ≡ 88
unfolding words_of head_words
length_words_holds p full = omega (arith, length-append (head_words p) (items_words p.list), (plain p []).4, length_items_words p.list)
