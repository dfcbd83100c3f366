-- The first unknown item, in the words that C sees. Assumes nothing.
use Prim.Native.Nat.{ℕ, ◌+◌, ◌≤◌, ◌<◌}
use native.Mathlib.Omega.{arith}
use mathlib.Core.Path.{◌≡◌, refl, sym, ap, ◌∙◌}
use mathlib.Core.List.{List}
use lib.ListN.{length, get_or}
use borrow.Author.Tests.{ltb-false}
use Rattle.base_layout.specs.Layout.{answer_size}
use Rattle.base_lists.specs.Seq.{put}
use Rattle.base_lists.proofs.StoresAndParts.{length_put}
use Rattle.base_octets.proofs.StoredAndRead.{get_same}
use Rattle.codec_items.specs.declared.Unknown.{Unknown}
use Rattle.codec_pdu.specs.Pdu.{unknown_of}
use Rattle.codec_pdu.specs.declared.Kind.{Kind}
use Rattle.codec_pdu.specs.declared.Kind.TheVariants as Kind
use Rattle.codec_pdu.specs.declared.Pdu.{Pdu}
use Rattle.codec_reading.specs.Read.{pdu_of}
use Rattle.codec_words.specs.Words.{front_words, invoke_words, other_words, rest_words, head_words, words_of}
use Rattle.c_answers.specs.Answers.{more_words}
use Rattle.call_plans.specs.Calls.{Call}
use Rattle.wtp.specs.Engine.{item_told}
use Rattle.law_exported.specs.Session.{Exported, Keeps}
use Rattle.law_exported.specs.Item.{SeenItem, AsRead}
use Rattle.law_exported.proofs.Cost.{gone, seen_is}

-- words stored last, from word 34 on
stored_last : (w more : List ℕ) (k : ℕ) → 34 + length more ≤ length w → k < length more → get_or (put w 34 more) (34 + k) 0 ≡ get_or more k 0
stored_last w more k room h = get_same more w 34 k room h

module _ (x : Exported) (k : Keeps x) (accepted : x.seen.result ≡ 0) where
  abbrev item : Unknown
  item = item_told x.call x.lent

  at_item : (j : ℕ) → j < 6 → get_or x.seen.answer (34 + j) 0 ≡ get_or (more_words item) j 0
  unfolding more_words
  at_item j h =
      let room : answer_size ≤ length x.words = ltb-false _ _ (gone x k accepted).0 in
      ap (λ (w : List ℕ). get_or w (34 + j) 0) (seen_is x k accepted)
      ∙ stored_last _ (more_words item) j (rw (length_put, length_put) (omega (arith, room))) h

  -- WORDS 34 TO 39
  pub seen_item : SeenItem x
  unfolding more_words
  seen_item = record {
    word_34 = at_item 0 (omega arith);
    word_35 = at_item 1 (omega arith);
    word_36 = at_item 2 (omega arith);
    word_37 = at_item 3 (omega arith);
    word_38 = at_item 4 (omega arith);
    word_39 = at_item 5 (omega arith);
  }

-- words 18 and 19 that are read
read_18 : (p : Pdu) (kind : Kind) → p.kind ≡ kind → (get_or (words_of p) 18 0 ≡ (unknown_of p).identity) × (get_or (words_of p) 19 0 ≡ (unknown_of p).place)
unfolding words_of head_words front_words invoke_words other_words rest_words
read_18 p (Kind.Invoke a b c v n u l) e = rw e (refl, refl)
read_18 p (Kind.Result a b c) e = rw e (refl, refl)
read_18 p (Kind.Ack a c) e = rw e (refl, refl)
read_18 p (Kind.Abort t r) e = rw e (refl, refl)
read_18 p (Kind.SegInvoke a b c q) e = rw e (refl, refl)
read_18 p (Kind.SegResult a b c q) e = rw e (refl, refl)
read_18 p (Kind.Nack c n l) e = rw e (refl, refl)
read_18 p (Kind.Wrong d) e = rw e (refl, refl)
read_18 p (Kind.Refused r) e = rw e (refl, refl)

module _ (x : Exported) (k : Keeps x) (accepted : x.seen.result ≡ 0) where
  abbrev pdu : Pdu
  pdu = pdu_of x.lent.given

  told_of : (time peer : ℕ) → x.call ≡ Call.Receive time peer → item_told x.call x.lent ≡ unknown_of pdu
  unfolding item_told
  told_of time peer e = rw e refl

  -- WORDS 34 AND 35 ARE THE WORDS 18 AND 19 OF THAT PDU
  pub as_read : AsRead x
  as_read = record {
    as_18 = λ time peer e. (seen_item x k accepted).word_34 ∙ ap (λ (u : Unknown). u.identity) (told_of time peer e) ∙ sym (read_18 pdu pdu.kind refl).0;
    as_19 = λ time peer e. (seen_item x k accepted).word_35 ∙ ap (λ (u : Unknown). u.place) (told_of time peer e) ∙ sym (read_18 pdu pdu.kind refl).1;
  }
