-- What wtp_read wrote, handed to wtp_write with the PDU, gives the PDU with its reserved bits cleared. Assumes nothing.
use Prim.Native.Nat.{ℕ, ◌+◌, ◌-◌, ◌≤◌, ◌<◌}
use native.Mathlib.Omega.{arith}
use borrow.Author.Tests.{le-ltb}
use mathlib.Core.Path.{◌≡◌, refl, sym, ap, ◌∙◌}
use mathlib.Core.List.{List, ◌++◌}
use mathlib.Core.Bool.{true}
use mathlib.Core.Logic.{◌⊎◌, inl, inr}
use lib.ListN.{length, get_or, replicate, get_or-replicate, length-append}
use lib.Seq.{get_or-append-add, length-take-le}
use Rattle.base_layout.specs.Layout.{answer_size}
use Rattle.base_lists.specs.Seq.{put}
use Rattle.base_lists.proofs.StoresAndParts.{true_false, lt_or_le}
use Rattle.codec_items.specs.Items.{no_item}
use Rattle.codec_items.specs.declared.Item.{Item}
use Rattle.codec_pdu.specs.Pdu.{sound_of}
use Rattle.codec_pdu.specs.declared.Kind.{Kind}
use Rattle.codec_pdu.specs.declared.Kind.TheVariants.{Invoke, Result, Ack, Abort, SegInvoke, SegResult, Nack, Wrong, Refused}
use Rattle.codec_pdu.specs.declared.Pdu.{Pdu}
use Rattle.codec_reading.specs.Read.{pdu_of}
use Rattle.codec_encoding.specs.Write.{items_of, octets_of}
use Rattle.codec_words.specs.Words.{words_of}
use Rattle.codec_said.proofs.Stored.{length_words_holds}
use Rattle.law_reading_order.proofs.Order.{first_that_holds}
use Rattle.codec_verdict.specs.Judge.{AsRead}
use Rattle.codec_verdict.proofs.Again.{again}
use Rattle.codec_writing.specs.Writing.{plan_of, answer_of, written_answer, output_after}
use Rattle.law_writes_back.specs.WritesBack.{Octets, Readable}
use Rattle.law_writes_back.proofs.Back.{writes_back, read_fits}
use Rattle.c_codec.specs.Calls.{written_number, write_number, write_output}
use Rattle.law_round_trip.specs.RoundTrip.{RoundTrip}
use Rattle.law_round_trip.proofs.Narrow.{tame_read}

-- the places of a list past its first n, all of them no_item
unused_at : (l : List Item) (n i : ℕ) → length l ≡ n → n ≤ i → i < 16 → get_or (l ++ replicate (16 - n) no_item) i no_item ≡ no_item
unused_at l n i e h g =
    let at : length l + (i - n) ≡ i = omega arith in
    rw (← at) (get_or-append-add l (replicate (16 - n) no_item) (i - n) no_item ∙ get_or-replicate (16 - n) (i - n) no_item no_item (omega arith))

module _ (b rest out answer : List ℕ) (octets : Octets b) (sound : sound_of (pdu_of b).kind ≡ true) (room : 1500 ≤ length out) (words : answer_size ≤ length answer) where
  abbrev p : Pdu
  p = pdu_of b

  abbrev r : Readable b
  r = read_fits b octets sound

  short : length b ≤ 1500
  short = go (lt_or_le 1500 (length b))
    where
      go : (1500 < length b) ⊎ (length b ≤ 1500) → length b ≤ 1500
      go (inl h) = absurd (((first_that_holds b).sound.0 sound).0 (inr h))
      go (inr h) = h

  items_full : length (items_of p) ≡ p.count
  items_full = length-take-le p.count p.list (omega (arith, r.fits.list_full, r.few))

  as_read : AsRead b p
  as_read = record {
    writable = record { fit = r.fits; few = r.few; sound = r.sound; short = omega (arith, r.same_length, short) };
    octets = tame_read b octets sound;
    unused = λ k h g. rw r.unused (unused_at (items_of p) p.count k items_full h g);
    no_data = r.bare_start;
    addressable = omega (arith, short);
  }

  planned : plan_of (words_of p ++ rest) (length b) (length out) ≡ p
  unfolding plan_of
  planned =
      let n : 88 ≤ length (words_of p ++ rest) = omega (arith, length-append (words_of p) rest, length_words_holds p r.fits.list_full) in
      rw (le-ltb (length (words_of p ++ rest)) 88 n, le-ltb (length out) 1500 room) (again b p rest as_read)

  answer_is : (k : Kind) (n : ℕ) → sound_of k ≡ true → written_number (answer_of n k) ≡ 0
  unfolding sound_of answer_of
  answer_is (Invoke a c d v n u l) m e = refl
  answer_is (Result a c d) m e = refl
  answer_is (Ack a d) m e = refl
  answer_is (Abort t q) m e = refl
  answer_is (SegInvoke a c d q) m e = refl
  answer_is (SegResult a c d q) m e = refl
  answer_is (Nack d n l) m e = refl
  answer_is (Wrong d) m e = true_false (sym e)
  answer_is (Refused q) m e = true_false (sym e)

  pub round_trip : RoundTrip b rest out answer
  unfolding write_number write_output written_answer output_after
  round_trip = record {
    accepted = rw (le-ltb (length answer) answer_size words, planned) (answer_is p.kind (length (octets_of b p)) sound);
    written = rw (le-ltb (length answer) answer_size words, planned, sound) (ap (put out 0) (writes_back b octets sound));
  }
