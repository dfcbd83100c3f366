-- `call_receive::naming` meets its contract: a record that is named lies in the table. Assumes nothing.
use mathlib.Core.Path.{refl}
use borrow.Author.Rules.{rules}
use Rattle.step_arrivals.proofs.Names.{named_aimed}
use Rattle.law_places.proofs.Whole.{named_whole}
use Rattle.call_receive.proofs.Received.{named_by_tid}
use Rattle.call_receive.proofs.naming.Goals as goal

pub tid_of-rcv-requires : goal.tid_of-rcv-requires
tid_of-rcv-requires c = (named_aimed _ _ _ c.requires.s_value).0

pub taken-requires : goal.taken-requires
taken-requires c =
    (named_whole _ c.requires.well_formed _ _ _ _ _ _ refl (named_by_tid _ _ c.requires.well_formed _ _ _ c.requires.s_value _ _ _ c.tid_of-rcv.ensures (search (rules, c.tid_of-rcv.type_inv)) c.records.ensures c.receiver.ensures) c.in-Some.is).there
