-- `step_outcome::send_pdu` meets its contract: nothing, or the PDU from the slice that its source names. Assumes nothing.
use Rattle.step_sending.specs.declared.Source.TheVariants as Source
use Rattle.step_outcome.proofs.Chosen.{none_sent, chosen_fits, chosen_sent}
use Rattle.step_outcome.proofs.send_pdu.Goals as goal

pub returns-then-is_nothing : goal.returns-then-is_nothing
returns-then-is_nothing c = none_sent _ _ _ _ _ _ _ c.is_nothing.ensures c.if-is_nothing.true

pub put_sent-requires-clause-fit_send : goal.put_sent-requires-clause-fit_send
put_sent-requires-clause-fit_send c = chosen_fits _ _ _ _ _ _ Source.Nothing c.source_of.ensures c.in-Nothing.is _ c.is_nothing.ensures c.if-is_nothing.false c.requires.fit_out

pub put_sent-requires-in-Given-clause-fit_send : goal.put_sent-requires-in-Given-clause-fit_send
put_sent-requires-in-Given-clause-fit_send c = chosen_fits _ _ _ _ _ _ Source.Given c.source_of.ensures c.in-Given.is _ c.is_nothing.ensures c.if-is_nothing.false c.requires.fit_out

pub put_sent-requires-in-Cell-clause-fit_send : goal.put_sent-requires-in-Cell-clause-fit_send
put_sent-requires-in-Cell-clause-fit_send c = chosen_fits _ _ _ _ _ _ Source.Cell c.source_of.ensures c.in-Cell.is _ c.is_nothing.ensures c.if-is_nothing.false c.requires.fit_out

pub put_sent-requires-in-Table-clause-fit_send : goal.put_sent-requires-in-Table-clause-fit_send
put_sent-requires-in-Table-clause-fit_send c = chosen_fits _ _ _ _ _ _ Source.Table c.source_of.ensures c.in-Table.is _ c.is_nothing.ensures c.if-is_nothing.false c.requires.fit_out

pub returns-in-Nothing : goal.returns-in-Nothing
returns-in-Nothing c = chosen_sent _ _ _ _ _ _ Source.Nothing c.source_of.ensures c.in-Nothing.is _ _ _ c.put_sent.ensures

pub returns-in-Given : goal.returns-in-Given
returns-in-Given c = chosen_sent _ _ _ _ _ _ Source.Given c.source_of.ensures c.in-Given.is _ _ _ c.put_sent-in-Given.ensures

pub returns-in-Cell : goal.returns-in-Cell
returns-in-Cell c = chosen_sent _ _ _ _ _ _ Source.Cell c.source_of.ensures c.in-Cell.is _ _ _ c.put_sent-in-Cell.ensures

pub returns-in-Table : goal.returns-in-Table
returns-in-Table c = chosen_sent _ _ _ _ _ _ Source.Table c.source_of.ensures c.in-Table.is _ _ _ c.put_sent-in-Table.ensures
