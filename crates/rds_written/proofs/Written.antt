-- Promise 3: a frame that is written from accepted words is sound and reads as those words but for starts, with the same octets in each part. Assumes nothing.
use Prim.Native.Nat.{ℕ, ◌+◌, ◌-◌, ◌%◌, ◌≤◌, ◌<◌}
use native.Mathlib.Omega.{arith}
use mathlib.Core.Path.{◌≡◌, refl, sym, ap, subst, ◌∙◌}
use mathlib.Core.List.{List}
use Rattle.std.specs.Prelude.{Option, Some, None}
use Rattle.std.specs.Option.{option_map}
use Rattle.std.proofs.lemmas.Option.{none-some}
use Rattle.rds_entries.specs.declared.Entry.{Entry}
use Rattle.rds_body.specs.declared.Body.{Body}
use mathlib.Core.Bool.{Bool, true, false}
use lib.ListN.{length, get_or, length-append}
use lib.Dec.{leb, eqb}
use borrow.Author.Tests.{le-leb, leb-true, eqb-true}
use Rattle.base_lists.specs.Seq.{pick, bit}
use Rattle.base_lists.proofs.StoresAndParts.{both_snd, true_false, every_at}
use Rattle.rds_frame.specs.declared.Kind.{Kind}
use Rattle.rds_frame.specs.declared.Kind.TheVariants as K
use Rattle.rds_frame.specs.declared.Head.{Head}
use Rattle.rds_frame.specs.Frame.{commanded, answered, u_kind, head_of}
use Rattle.rds_reading.specs.declared.Frame.{Frame}
use Rattle.rds_reading.specs.Read.{body_by, body_after, framed, frame_by, frame_of}
use Rattle.rds_words.specs.Words.{words_of}
use Rattle.rds_size.specs.Size.{body_size}
use Rattle.rds_pieces.specs.Octets.{kind_length, pieces_of}
use Rattle.rds_encoding.specs.Encoding.{head_octets, pieces_octets, octets_of}
use Rattle.rds_encoding.proofs.Lengths.{length_head}
use Rattle.rds_encoding.proofs.Fits.{body_fits, length_pieces}
use Rattle.rds_said.specs.Said.{word, set?, kind_said, head_by, head_said, body_said, entries_said, frame_with, frame_after, frame_said}
use Rattle.rds_writing.specs.Write.{is_items, size_of, same_words, accepts}
use Rattle.rds_writing.proofs.Said.{said_full, accepted_words}
use Rattle.rds_reading.proofs.Parts.{same_frames}
use Rattle.rds_written.specs.Trips.{unplaced_head, unplaced, Reread}
use Rattle.rds_written.proofs.Narrow.{NarrowKind, NarrowHead}
use Rattle.rds_written.proofs.Headers.{head, head_again}
use Rattle.rds_written.proofs.Bodies.{Back, body_back}

pub same_kinds : (a b : Kind) → Some a ≡ Some b → a ≡ b
same_kinds a b p = cc

pub same_heads : (a b : Head) → Some a ≡ Some b → a ≡ b
same_heads a b p = cc

-- a U frame that the table of M and direction has
pub u_narrow : (m : ℕ) (response : Bool) (k : Kind) → u_kind (m % 16) response ≡ Some k → NarrowKind k
unfolding u_kind NarrowKind
u_narrow m true k h = go (answered (m % 16)) refl h where
  go : (b : Bool) → answered (m % 16) ≡ b → pick b (Some (K.U (m % 16) true)) None ≡ Some k → NarrowKind k
  go true p h = subst NarrowKind (same_kinds (K.U (m % 16) true) k h) (omega arith, rw p refl)
  go false p h = absurd (none-some k h)
u_narrow m false k h = go (commanded (m % 16)) refl h where
  go : (b : Bool) → commanded (m % 16) ≡ b → pick b (Some (K.U (m % 16) false)) None ≡ Some k → NarrowKind k
  go true p h = subst NarrowKind (same_kinds (K.U (m % 16) false) k h) (omega arith, rw p refl)
  go false p h = absurd (none-some k h)

-- the parts of a frame that words say
record SaidBy (w : List ℕ) (F : Frame) : Type 0 where
  heads : head_said w ≡ Some F.head
  bodies : body_said w F.head.ads F.head.kind ≡ Some F.body
  lists : F.list ≡ entries_said w F.body

module _ (w : List ℕ) where
  -- a kind that words say is narrow
  kind_narrow : (k : Kind) → kind_said w ≡ Some k → NarrowKind k
  unfolding kind_said NarrowKind
  kind_narrow k = go (eqb (word w 0) 1) (eqb (word w 0) 2) (eqb (word w 0) 3) (eqb (word w 0) 4) where
    i : Kind
    i = K.I (set? w 4) (word w 5 % 8) (word w 6 % 8) (word w 7 % 8)

    s : Kind
    s = K.S (set? w 4) (word w 6 % 8) (word w 7 % 8)

    go : (b1 b2 b3 b4 : Bool) → pick b1 (Some i) (pick b2 (Some s) (pick b3 (Some (K.Ui (word w 8 % 8))) (pick b4 (u_kind (word w 9 % 16) (set? w 10)) None))) ≡ Some k → NarrowKind k
    go true b2 b3 b4 h = subst NarrowKind (same_kinds i k h) (omega arith, omega arith, omega arith)
    go false true b3 b4 h = subst NarrowKind (same_kinds s k h) (omega arith, omega arith)
    go false false true b4 h = subst NarrowKind (same_kinds (K.Ui (word w 8 % 8)) k h) (omega arith)
    go false false false true h = u_narrow (word w 9) (set? w 10) k h
    go false false false false h = absurd (none-some k h)

  -- and so is a header
  abbrev Narrow : Option Kind → Head → Type 0
  Narrow k h = (k ≡ Some h.kind) × NarrowHead (head h.kind h.ads h.source h.destination 0) × (h.end ≡ 0)

  head_narrow_holds : (h : Head) → head_said w ≡ Some h → Narrow (kind_said w) h
  unfolding head_said
  head_narrow_holds h = go (kind_said w) where
    by : (k : Kind) (b : Bool) → Narrow (Some k) (pick b (head k true (word w 2 % 16) (word w 3 % 16) 0) (head k false 0 0 0))
    by k true = (refl, record { source_narrow = omega arith; destination_narrow = omega arith; no_ports = λ e. true_false e }, refl)
    by k false = (refl, record { source_narrow = omega arith; destination_narrow = omega arith; no_ports = λ e. (refl, refl) }, refl)

    go : (k : Option Kind) → option_map (head_by w) k ≡ Some h → Narrow k h
    go (Some k) e = subst (Narrow (Some k)) (same_heads (head_by w k) h e) (by k (set? w 1))
    go None e = absurd (none-some h e)

  said_by : (F : Frame) → frame_said w ≡ Some F → SaidBy w F
  unfolding frame_said
  said_by F = go (head_said w) refl where
    with : (h : Head) → head_said w ≡ Some h → (b : Option Body) → body_said w h.ads h.kind ≡ b → frame_with w h b ≡ Some F → SaidBy w F
    with h q (Some b) r e = subst (SaidBy w) (same_frames (record { head = h; body = b; list = entries_said w b }) F e) (record { heads = q; bodies = r; lists = refl })
    with h q None r e = absurd (none-some F e)

    go : (h : Option Head) → head_said w ≡ h → frame_after w h ≡ Some F → SaidBy w F
    go (Some h) q e = with h q (body_said w h.ads h.kind) refl e
    go None q e = absurd (none-some F e)

  module _ (s : List ℕ) (network : Bool) (F : Frame) (said : frame_said w ≡ Some F) (yes : accepts w s F ≡ true) where
    parts : SaidBy w F
    parts = said_by F said

    head_is_narrow : Narrow (kind_said w) F.head
    head_is_narrow = head_narrow_holds F.head parts.heads

    -- the octets that are written
    abbrev pub f : List ℕ
    f = octets_of s F network

    abbrev P : List ℕ
    P = pieces_octets s F.list (pieces_of F.body)

    abbrev end : ℕ
    end = kind_length F.head.kind + bit F.head.ads

    fits : size_of s F ≤ 1520
    unfolding accepts
    fits = leb-true (size_of s F) 1520 (both_snd (same_words w F) (leb (size_of s F) 1520) yes)

    -- the octets of the body are no more than an information field has
    short : length P ≤ 1520
    short =
        let z = body_fits s F.list (is_items F.head.kind) F.body fits in
        omega (arith, length_pieces s F.list (said_full w F said) (pieces_of F.body) z.fits, z.size, fits)

    narrow : NarrowKind F.head.kind
    narrow = kind_narrow F.head.kind head_is_narrow.0

    head_is : head_of f network ≡ Some (head F.head.kind F.head.ads F.head.source F.head.destination end)
    unfolding octets_of head_octets
    head_is = head_again network F.head.ads F.head.source F.head.destination P F.head.kind narrow head_is_narrow.1

    length_is : length (head_octets F.head network) ≡ end
    length_is = length_head F.head network

    -- the header that is read
    abbrev read : Head
    read = head F.head.kind F.head.ads F.head.source F.head.destination end

    body_is : body_after f read ≡ body_by f end F.head.ads F.head.kind
    unfolding body_after octets_of
    body_is =
        let n : length f - end ≤ 1520 = omega (arith, length-append (head_octets F.head network) P, length_is, short) in
        rw (le-leb (length f - end) 1520 n) refl

    back : Back f (body_by f end F.head.ads F.head.kind) s F.body F.list
    unfolding octets_of
    back =
        let fitting : body_size s (entries_said w F.body) (is_items F.head.kind) F.body ≤ 1520 = rw (← parts.lists) fits in
        subst (λ (l : List Entry). Back f (body_by f end F.head.ads F.head.kind) s F.body l) (sym parts.lists) (body_back (head_octets F.head network) P end length_is s w F.head.ads F.head.kind F.body parts.bodies (fitting, ap (λ (l : List Entry). pieces_octets s l (pieces_of F.body)) parts.lists))

    -- promise 3
    pub written_read : Reread f (frame_of f network) s F
    unfolding frame_of unplaced
    written_read = record {
      frame = record { head = read; body = back.managed.body; list = back.managed.list };
      sound = ap (frame_by f) head_is ∙ ap (framed read) (body_is ∙ back.sound);
      alike = λ i. record { head = unplaced_head read; body = back.alike i; list = back.alike_list i };
      same_part = back.same_part;
      same_parts = back.same_parts;
    }

    -- and the words of F are those that were given, each of the 100
    pub written_words_holds : (i : ℕ) → i < 100 → get_or (words_of F) i 0 ≡ get_or w i 0
    unfolding same_words
    written_words_holds i h = eqb-true _ _ (every_at (λ i. eqb (get_or (words_of F) i 0) (get_or w i 0)) 100 (accepted_words w s F yes) i h)
