-- `call_fire::fire_place` meets its contract: a refusal of the first stage is the whole's, and otherwise the second decides. Assumes nothing.
use Rattle.std.specs.Prelude.{◌≡◌, Err}
use mathlib.Core.Path.{refl, sym, ◌∙◌}
use borrow.Author.Rules.{rules}
use Rattle.call_refusal.proofs.Stages.{first_stage, second_stage}
use Rattle.call_refusal.proofs.Going.{entered}
use Rattle.call_primitive.proofs.Named.{found_within}
use Rattle.call_fire.specs.Fires.{as_fire, named_place, fire_place}
use Rattle.call_fire.proofs.fire_place.Goals as goal

pub named_place-requires : goal.named_place-requires
named_place-requires c =
    let may = entered _ _ _ _ _ (sym c.peer_entry.ensures ∙ c.in_ok-peer_entry.was) in
    let a = c.args in
    rw c.named_by.ensures (found_within _ (as_fire a.time a.role a.peer a.tid) may.fitting.formed)

pub returns-in_err-peer_entry : goal.returns-in_err-peer_entry
unfolding fire_place
returns-in_err-peer_entry c =
    let e : c.from_residual.result ≡ Err c.in_err-peer_entry.field-0.0 = search rules in
    e ∙ rw (first_stage _ _ _ (sym c.in_err-peer_entry.was ∙ c.peer_entry.ensures)) refl

pub returns : goal.returns
unfolding fire_place named_place
returns c = rw (c.named_place.ensures, c.named_by.ensures, second_stage _ _ (sym c.in_ok-peer_entry.was ∙ c.peer_entry.ensures)) refl
