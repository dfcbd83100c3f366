-- A PDU that was written is read as it was; fields that would read as D5, D6, D4 or D7 are read so. Assumes nothing.
use Prim.Native.Nat.{ℕ, ◌+◌, ◌-◌, ◌<◌, ◌≤◌}
use native.Mathlib.Omega.{arith}
use borrow.Author.Tests.{lt-ltb, le-ltb, ltb-true, ltb-false, eqb-true, ne_eqb}
use mathlib.Core.Path.{◌≡◌, refl, sym, ap, ◌∙◌}
use mathlib.Core.List.{List, [], ◌++◌}
use mathlib.Core.Bool.{Bool, true, false}
use lib.ListN.{length, take, replicate, length-append}
use lib.Seq.{length-take-le, take_all}
use lib.Dec.{ltb, eqb}
use Rattle.base_lists.specs.Seq.{pick, part}
use Rattle.base_lists.proofs.StoresAndParts.{length_part}
use Rattle.base_numbers.specs.declared.Malformed.TheVariants.{D4, D7}
use Rattle.std.specs.Prelude.{Ok, Err}
use Rattle.codec_items.specs.declared.Item.{Item}
use Rattle.codec_items.specs.Items.{Verdict, walk_from, no_item, no_items_is}
use Rattle.codec_pdu.specs.Pdu.{sound_of, bare_of, blank_pdu}
use Rattle.codec_pdu.specs.declared.Kind.TheVariants.{Wrong}
use Rattle.codec_pdu.specs.declared.Pdu.{Pdu}
use Rattle.codec_reading.specs.declared.Head.{Head}
use Rattle.codec_reading.specs.Read.{head_of, whole, finished, items_after, after_head, pdu_of}
use Rattle.codec_encoding.specs.Write.{header_of_is, items_octets, items_of, octets_of, kind_fault, rest_fault, fault_of, Fit}
use Rattle.law_reads_back.specs.ReadsBack.{kind_at, items_placed, placed, read_by, read_as_is}
use Rattle.law_reads_back.proofs.Bits.{pick_true, pick_false}
use Rattle.law_reads_back.proofs.KindMoved.{bare_same, sound_kind}
use Rattle.law_reads_back.proofs.ItemsBack.{items_found, too_many, items_read}
use Rattle.law_reads_back.proofs.HeaderBack.{head_by, header_read}

-- the fault of user data where there may be none
abbrev pub user_fault : Pdu → Verdict
user_fault p = pick (bare_of p.kind) (pick (eqb p.len 0) (Ok tt) (Err D7)) (Ok tt)

module _ (s : List ℕ) (p : Pdu) (fits : Fit s p) where
  abbrev its : List Item
  its = items_of p

  abbrev con : Bool
  con = ltb 0 p.count

  abbrev last : Bool
  last = ltb 16 p.count

  abbrev header : List ℕ
  header = header_of_is s con p.kind p.tid

  abbrev user : List ℕ
  user = part s p.start p.len

  abbrev octets : List ℕ
  octets = header ++ (items_octets s last its ++ user)

  abbrev head : Head
  head = record { kind = kind_at 4 p.kind; con = con; tid = record { 0 = p.tid }; end = length header }

  pub few_length : last ≡ false → length its ≡ p.count
  few_length e = length-take-le p.count p.list (omega (arith, ltb-false 16 p.count e, fits.list_full))

  by_walk : (b : Bool) → last ≡ b → con ≡ true → items_after octets head ≡ walk_from 16 (header ++ (items_octets s b its ++ user)) (length header) (replicate 16 no_item)
  unfolding items_after
  by_walk b e c = pick_true con _ _ c ∙ ap (λ (m : Bool). walk_from 16 (header ++ (items_octets s m its ++ user)) (length header) (replicate 16 no_item)) e

  many_items : last ≡ true → items_after octets head ≡ no_items_is (Err D4) 0
  many_items e =
      let more : 16 < p.count = ltb-true 16 p.count e in
      let size : length its ≡ 16 = ap length (take_all p.count p.list (omega (arith, fits.list_full))) ∙ fits.list_full in
      by_walk true e (lt-ltb 0 p.count (omega arith)) ∙ too_many s its 16 header user (replicate 16 no_item) fits.items_fit size

  few_items : last ≡ false → items_after octets head ≡ items_found s (length header) its
  unfolding items_after items_octets items_placed
  few_items e = go con refl
    where
      go : (b : Bool) → con ≡ b → items_after octets head ≡ items_found s (length header) its
      go true c =
          by_walk false e c
          ∙ items_read s its header user fits.items_fit (omega (arith, few_length e, ltb-true 0 p.count c)) (omega (arith, few_length e, ltb-false 16 p.count e))
      go false c =
          let zero_items : p.count ≡ 0 = omega (arith, ltb-false 0 p.count c) in
          let none : its ≡ [] = ap (λ (n : ℕ). take n p.list) zero_items in
          let end : length header ≡ length header + 0 = omega arith in
          pick_false con _ _ c
          ∙ (λ i. record { verdict = Ok tt; count = 0; end = end i; list = replicate 16 no_item })
          ∙ ap (items_found s (length header)) (sym none)

  -- the PDU as it is read, with user data of n octets at `start`
  abbrev got : ℕ → ℕ → Pdu
  got start n = whole head (items_found s (length header) its) start n

  got_placed : last ≡ false → (start n : ℕ) → start ≡ pick (bare_of p.kind) 0 (length header + length (items_octets s last its)) → n ≡ p.len → got start n ≡ placed s p
  unfolding placed
  got_placed e start n a b =
      λ i. record {
        kind = kind_at 4 p.kind;
        tid = p.tid;
        count = few_length e i;
        list = items_placed (length header) its ++ replicate (16 - few_length e i) no_item;
        start = a i;
        len = b i;
      }

  user_read : last ≡ false → finished octets head (items_found s (length header) its) ≡ read_by (user_fault p) s p
  unfolding finished
  user_read e =
      let end : ℕ = length header + length (items_octets s false its) in
      let left : length octets - end ≡ p.len =
      omega (
        arith,
        length-append header (items_octets s last its ++ user),
        length-append (items_octets s last its) user,
        length_part s p.start p.len fits.user_fits,
        ap (λ (b : Bool). length (items_octets s b its)) e,
      ) in
      (λ i. pick (bare_same p.kind 4 i) (pick (eqb (left i) 0) (got 0 0) (blank_pdu (Wrong D7))) (got end (left i)))
      ∙ go (bare_of p.kind) refl (eqb p.len 0) refl
    where
      go : (b : Bool) → bare_of p.kind ≡ b → (z : Bool) → eqb p.len 0 ≡ z
          → pick b (pick z (got 0 0) (blank_pdu (Wrong D7))) (got (length header + length (items_octets s false its)) p.len) ≡ read_by (pick b (pick z (Ok tt) (Err D7)) (Ok tt)) s p
      go true b true z = got_placed e 0 0 (rw b) (sym (eqb-true p.len 0 z))
      go true b false z = refl
      go false b z w = got_placed e (length header + length (items_octets s false its)) p.len (rw (b, e)) refl

  rest_read : finished octets head (items_after octets head) ≡ read_by (rest_fault p) s p
  unfolding finished rest_fault
  rest_read = go last refl
    where
      go : (b : Bool) → last ≡ b → finished octets head (items_after octets head) ≡ read_by (pick b (Err D4) (user_fault p)) s p
      go true e = ap (finished octets head) (many_items e)
      go false e = ap (finished octets head) (few_items e) ∙ user_read e

  after_read : (v : Verdict) → kind_fault p.kind ≡ v → after_head octets (head_by con p.kind p.tid (length header)) ≡ read_as_is s p
  unfolding after_head sound_of read_as_is fault_of
  after_read (Err d) e = rw e
  after_read (Ok tt) e = rw e (pick_true (sound_of (kind_at 4 p.kind)) _ _ (sound_kind s p.kind 4 fits.kind_fits) ∙ rest_read)

pub read_on : (s : List ℕ) → 1 ≤ length s → length s ≤ 1500 → pdu_of s ≡ after_head s (head_of s)
unfolding pdu_of
read_on s a b = simp (ne_eqb (length s) 0 (λ e. omega arith), le-ltb 1500 (length s) b)

pub would_read : (s : List ℕ) (p : Pdu) → Fit s p → length (octets_of s p) ≤ 1500 → pdu_of (octets_of s p) ≡ read_as_is s p
unfolding octets_of header_of_is
would_read s p fits h =
    read_on (octets_of s p) (omega arith) h
    ∙ ap (after_head (octets_of s p)) (header_read s (con s p fits) p.kind p.tid _ fits.kind_fits)
    ∙ after_read s p fits (kind_fault p.kind) refl

-- what can be written is never read as malformed
pub sound_read : (s : List ℕ) (p : Pdu) → Fit s p → fault_of p ≡ Ok tt → length (octets_of s p) ≤ 1500 → pdu_of (octets_of s p) ≡ placed s p
unfolding read_as_is
sound_read s p fits sound h = would_read s p fits h ∙ ap (λ (v : Verdict). read_by v s p) sound
