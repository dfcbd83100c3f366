-- The words that are stored of a sound PDU, item by item, are its words. Assumes nothing.
use Prim.Native.Nat.{ℕ}
use mathlib.Core.Path.{◌≡◌, sym, ◌∙◌}
use mathlib.Core.List.{List}
use mathlib.Core.Bool.{true}
use Rattle.std.specs.Prelude.{Option, Some, None}
use Rattle.codec_pdu.specs.Pdu.{sound_of}
use Rattle.codec_pdu.specs.Brief.{brief_of}
use Rattle.codec_pdu.specs.declared.Pdu.{Pdu}
use Rattle.codec_reading.specs.Read.{pdu_of}
use Rattle.codec_reading.specs.Brief.{items_at}
use Rattle.codec_reading.proofs.ReadItems.{ItemsOf, read_items}
use Rattle.codec_words.specs.Words.{head_words, words_of}
use Rattle.codec_words.specs.Listed.{count_from, list_from, words_from}
use Rattle.codec_words.proofs.Listed.{none_counted, none_listed, listed_as}

module _ (s : List ℕ) where
  stored_items : (first : Option ℕ) (p : Pdu) → ItemsOf s first p → (count_from 16 s first ≡ p.count) × (list_from 16 s first ≡ p.list)
  stored_items None p (n, l) = (none_counted s 16 ∙ sym n, none_listed s 16 ∙ sym l)
  stored_items (Some first) p (a, (i, end, e, w, n, l)) = let q = listed_as s first end i e w in (q.0 ∙ sym n, q.1 ∙ sym l)

  pub read_words_holds : sound_of (pdu_of s).kind ≡ true → words_from s (items_at s) (brief_of (pdu_of s)) ≡ words_of (pdu_of s)
  unfolding words_from words_of head_words brief_of
  read_words_holds k = let q = stored_items (items_at s) (pdu_of s) (read_items s k) in rw (q.0, q.1)
