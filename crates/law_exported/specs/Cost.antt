-- What C sees of a request's cost (02, L11).
use Rattle.std.specs.Prelude.{◌≡◌, get_or}
use Rattle.base_lists.specs.Seq.{bit}
use Rattle.law_history.specs.Cost.{cost_told}
use Rattle.law_exported.specs.Session.{Exported, entry_for}

-- the C interface: words 32 and 33 of an accepted call are what its entry of the history tells
pub record SeenCost (x : Exported) : Type 0 where
  pub word_32 : get_or x.seen.answer 32 0 ≡ (cost_told (entry_for x)).sent
  pub word_33 : get_or x.seen.answer 33 0 ≡ bit (cost_told (entry_for x)).ended
