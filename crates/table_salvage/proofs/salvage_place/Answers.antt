-- A place with a reason goes, and one without stays.
use Rattle.std.proofs.Common.{◌≡◌, ◌∙◌, Some, sym, ap, arith}
use Rattle.table_salvage.specs.Salvage.{reason_of}
use Rattle.table_salvage.specs.declared.Reason.{Reason}
use Rattle.table_salvage.specs.declared.Reason.TheVariants.{OutOfRange, NotZero, SharesName}
use Rattle.table_salvage.proofs.Turns.{place_stays, place_goes}
use Rattle.table_salvage.proofs.salvage_place.Goals as goal

a_reason : (r : Reason) → reason_of (Some r) ≡ 0 → ⊥
a_reason OutOfRange e = omega arith
a_reason NotZero e = omega arith
a_reason SharesName e = omega arith

pub returns-in_default : goal.returns-in_default
returns-in_default c = place_stays c.args.t.now c.args.list.now c.args.i c.args.k _ (ap reason_of (sym c.finding_at.ensures ∙ c.in_default.is))

pub returns : goal.returns
returns c =
    let q = c.from.ensures ∙ ap reason_of (sym c.in-Some.is ∙ c.finding_at.ensures) in
    let p = place_goes c.args.t.now c.args.list.now c.args.i c.args.k _ (λ e. a_reason _ (sym c.from.ensures ∙ q ∙ e)) in
    (p.0, c.clear_record.ensures ∙ p.1, c.store.ensures ∙ rw q p.2)
