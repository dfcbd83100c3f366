-- What is stored and what is left to store make up the words of all items.
use Rattle.std.proofs.Common.{◌≡◌, ◌+◌, ◌-◌, ◌*◌, ◌≤◌}
use Rattle.base_lists.specs.Seq.{put}
use Rattle.codec_words.specs.Words.{items_words}
use Rattle.codec_words.specs.Listed.{list_from, count_from}
use Rattle.codec_words.proofs.store_items.Given as goal

abbrev pub invariant-loop-k : goal.invariant-loop-k
invariant-loop-k l = record {
  few : l.count ≤ l.k;
  counted : l.count + count_from (16 - l.k) l.s l.at ≡ count_from 16 l.s l.initial.at;
  stored : put l.fields (24 + 4 * l.k) (items_words (list_from (16 - l.k) l.s l.at)) ≡ put l.initial.fields 24 (items_words (list_from 16 l.s l.initial.at));
}
