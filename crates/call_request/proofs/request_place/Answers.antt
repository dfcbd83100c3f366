-- `call_request::request_place` meets its contract: the numbers 1 to 6, then the free record. Assumes nothing.
use Rattle.std.specs.Prelude.{◌≡◌, Err}
use mathlib.Core.Path.{sym, ◌∙◌}
use borrow.Author.Rules.{rules}
use Rattle.call_request.proofs.Accepted.{entry_admits, formed}
use Rattle.call_request.proofs.Passed.{has_header, has_records}
use Rattle.call_request.proofs.Staged.{refused_first, then_placed}
use Rattle.call_request.proofs.request_place.Goals as goal

pub records-requires : goal.records-requires
records-requires c = has_header _ (formed _ _ _ c.args.q (entry_admits _ _ _ c.args.q (sym c.request_refusal.ensures ∙ c.in_ok-request_refusal.was)))

pub free-requires : goal.free-requires
free-requires c = has_records _ _ (formed _ _ _ c.args.q (entry_admits _ _ _ c.args.q (sym c.request_refusal.ensures ∙ c.in_ok-request_refusal.was))) c.records.ensures

pub returns-in_err-request_refusal : goal.returns-in_err-request_refusal
returns-in_err-request_refusal c =
    let e : c.from_residual.result ≡ Err c.in_err-request_refusal.field-0.0 = search rules in
    e ∙ refused_first _ _ _ c.args.q _ (sym c.in_err-request_refusal.was ∙ c.request_refusal.ensures)

pub returns : goal.returns
returns c = c.with_place.ensures ∙ then_placed _ _ _ c.args.q _ _ (sym c.in_ok-request_refusal.was ∙ c.request_refusal.ensures) c.records.ensures c.free.ensures
