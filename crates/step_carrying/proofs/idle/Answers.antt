-- `step_carrying::idle` meets its contract: the time, and words that are all 0. Assumes nothing.
use mathlib.Core.Path.{refl}
use Rattle.step_shown.specs.Shows.{place_of}
use Rattle.step_shown.specs.Words.{shown_words, front_words, own_words}
use Rattle.c_answers.specs.Answers.{answer_words, head_words, record_words, idle_words}
use Rattle.step_carrying.proofs.idle.Goals as goal

pub returns : goal.returns
unfolding idle_words answer_words head_words record_words shown_words front_words own_words place_of
returns c = (refl, c.put_clock.ensures, rw (c.report.ensures, c.no_cost.ensures) at c.store.ensures)
