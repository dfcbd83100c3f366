-- `step_carrying::carry` meets its contract: the turn, what its record has sent, the table, the cell, the output and the words, one after the other. Assumes nothing.
use native.Mathlib.Omega.{arith}
use Rattle.step_carrying.proofs.Carrying.{record_there, place_small, ready_so, given_so}
use Rattle.step_carrying.proofs.carry.Goals as goal

pub record_for-r-requires : goal.record_for-r-requires
record_for-r-requires c = record_there _ _ _ _ c.requires.ready

pub carry_out-sent-requires-clause-ready : goal.carry_out-sent-requires-clause-ready
carry_out-sent-requires-clause-ready c =
    ready_so _ _ _ _ _ c.record_for-r.ensures _ c.turn_for-turn.ensures _ c.holder_for-h.ensures _ c.changes_for-changes.ensures c.requires.ready

pub carry_out-sent-requires-clause-place_lt_records_bound : goal.carry_out-sent-requires-clause-place_lt_records_bound
carry_out-sent-requires-clause-place_lt_records_bound c = place_small _ _ _ c.requires.in_range _ c.record_for-r.ensures _ c.holder_for-h.ensures

pub give-requires : goal.give-requires
give-requires c =
    (omega (arith, c.requires.in_bounds, c.report.auto), place_small _ _ _ c.requires.in_range _ c.record_for-r.ensures _ c.holder_for-h.ensures)

pub returns : goal.returns
returns c =
    given_so _ _ _ _ _ c.record_for-r.ensures _ c.turn_for-turn.ensures _ c.holder_for-h.ensures _ c.changes_for-changes.ensures _ _ _ _ _ _ _ _ c.change_cost.ensures c.report.ensures c.carry_out-sent.ensures c.give.ensures
