-- What each call gives, by the case that it is in. Assumes nothing.
use Prim.Native.Nat.{ℕ, ◌≤◌}
use borrow.Author.Tests.{le-ltb}
use mathlib.Core.Path.{◌≡◌, refl, sym, ap}
use mathlib.Core.List.{List}
use mathlib.Core.Bool.{true, false}
use Rattle.std.specs.Prelude as Prelude
use lib.ListN.{length}
use Rattle.base_lists.specs.Seq.{put}
use Rattle.base_lists.proofs.StoresAndParts.{true_false}
use Rattle.codec_pdu.specs.Pdu.{sound_of}
use Rattle.codec_pdu.specs.declared.Kind.{Kind}
use Rattle.codec_pdu.specs.declared.Kind.TheVariants.{Invoke, Result, Ack, Abort, SegInvoke, SegResult, Nack, Wrong, Refused}
use Rattle.codec_pdu.specs.Brief.{brief_of}
use Rattle.codec_pdu.specs.declared.Brief.{Brief}
use Rattle.codec_reading.specs.Read.{pdu_of}
use Rattle.codec_reading.specs.Brief.{items_at}
use Rattle.codec_words.specs.Listed.{words_from}
use Rattle.c_codec.proofs.ReadWords.{read_words_holds}
use Rattle.codec_writing.specs.Writing.{Written, Done, done, written, written_answer, output_after}
use Rattle.table_fresh.specs.Fresh.{Left, left, left_by_is, fresh_answer, table_after_fresh}
use Rattle.base_numbers.specs.declared.Refusal.{Refusal}
use Rattle.c_codec.specs.Calls.{kind_number, read_number_is, fields_after}

-- a PDU of a sound kind is accepted
sound_accepted : (k : Kind) → sound_of k ≡ true → 0 ≡ kind_number k
unfolding sound_of
sound_accepted (Invoke a b c v n u l) e = refl
sound_accepted (Result a b c) e = refl
sound_accepted (Ack a c) e = refl
sound_accepted (Abort t r) e = refl
sound_accepted (SegInvoke a b c p) e = refl
sound_accepted (SegResult a b c p) e = refl
sound_accepted (Nack c n l) e = refl
sound_accepted (Wrong d) e = true_false (sym e)
sound_accepted (Refused r) e = true_false (sym e)

module _ (s fields : List ℕ) where
  module _ (h : 88 ≤ length fields) (b : Brief) (e : b ≡ brief_of (pdu_of s)) where
    same_kind : b.kind ≡ (pdu_of s).kind
    unfolding brief_of
    same_kind = ap (λ (x : Brief). x.kind) e

    pub read_sound : sound_of b.kind ≡ true → (0 ≡ read_number_is s fields) × (put fields 0 (words_from s (items_at s) b) ≡ fields_after s fields)
    unfolding read_number_is fields_after
    read_sound k =
        let sound : sound_of (pdu_of s).kind ≡ true = rw same_kind at k in
        rw (le-ltb (length fields) 88 h, sound) (sound_accepted (pdu_of s).kind sound, rw e (ap (put fields 0) (read_words_holds s sound)))

    pub read_unsound : sound_of b.kind ≡ false → (kind_number b.kind ≡ read_number_is s fields) × (fields ≡ fields_after s fields)
    unfolding read_number_is fields_after
    read_unsound k =
        let unsound : sound_of (pdu_of s).kind ≡ false = rw same_kind at k in
        rw (le-ltb (length fields) 88 h, unsound) (ap kind_number same_kind, refl)

-- the writer's equation, part by part
pub writing : (fields bytes out : List ℕ) (a : Written) (o : List ℕ) → done a o ≡ written fields bytes out → (a ≡ written_answer fields bytes out) × (o ≡ output_after fields bytes out)
unfolding written
writing fields bytes out a o e = (ap (λ (d : Done). d.answer) e, ap (λ (d : Done). d.output) e)

-- the fresh-table call's equation, part by part
pub freshly : (t ws : List ℕ) (first : ℕ) (a : Prelude.Result Unit Refusal) (o : List ℕ) → left a o ≡ left_by_is t ws first → (a ≡ fresh_answer (length t) ws first) × (o ≡ table_after_fresh (fresh_answer (length t) ws first) t ws first)
unfolding left_by_is
freshly t ws first a o e = (ap (λ (l : Left). l.answer) e, ap (λ (l : Left). l.table) e)
