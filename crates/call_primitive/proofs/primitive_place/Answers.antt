-- `call_primitive::primitive_place` meets its contract: the numbers 1 to 3, then the named record. Assumes nothing.
use Rattle.std.specs.Prelude.{◌≡◌, Err}
use mathlib.Core.Path.{refl, sym, ◌∙◌}
use borrow.Author.Rules.{rules}
use Rattle.call_refusal.proofs.Stages.{first_stage, second_stage}
use Rattle.call_primitive.specs.Primitives.{primitive_place, found_place}
use Rattle.call_primitive.proofs.primitive_place.Goals as goal

pub returns-in_err-peer_entry : goal.returns-in_err-peer_entry
unfolding primitive_place
returns-in_err-peer_entry c =
    let e : c.from_residual.result ≡ Err c.in_err-peer_entry.field-0.0 = search rules in
    e ∙ rw (first_stage _ _ _ (sym c.in_err-peer_entry.was ∙ c.peer_entry.ensures)) refl

pub returns : goal.returns
unfolding primitive_place found_place
returns c = rw (c.with_found.ensures, c.named_by.ensures, second_stage _ _ (sym c.in_ok-peer_entry.was ∙ c.peer_entry.ensures)) refl
