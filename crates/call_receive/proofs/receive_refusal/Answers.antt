-- `call_receive::receive_refusal` meets its contract: the numbers 1 to 3, then the PDU's length. Assumes nothing.
use Rattle.std.specs.Prelude.{◌≡◌, Err}
use mathlib.Core.Path.{sym, ◌∙◌}
use borrow.Author.Rules.{rules}
use Rattle.call_refusal.proofs.Stages.{refused_first, then_refused, then_accepted}
use Rattle.call_receive.proofs.receive_refusal.Goals as goal

pub returns-in_err-peer_entry : goal.returns-in_err-peer_entry
returns-in_err-peer_entry c =
    let e : c.from_residual.result ≡ Err c.in_err-peer_entry.field-0.0 = search rules in
    e ∙ refused_first _ _ _ (sym c.in_err-peer_entry.was ∙ c.peer_entry.ensures)

pub returns-then-wrong_length : goal.returns-then-wrong_length
returns-then-wrong_length c = then_refused _ _ _ (sym c.in_ok-peer_entry.was ∙ c.peer_entry.ensures) (sym c.wrong_length.ensures ∙ c.if-wrong_length.true)

pub returns : goal.returns
returns c = then_accepted _ _ _ (sym c.in_ok-peer_entry.was ∙ c.peer_entry.ensures) (sym c.wrong_length.ensures ∙ c.if-wrong_length.false)
