-- What `find` stops at is the lowest place.
use Rattle.std.proofs.Common.{◌≡◌, ℕ, true, false, rules}
use Rattle.std.proofs.lemmas.Iterator.{first_from_Range}
use Rattle.table_layout.specs.Table.{record_at}
use Rattle.table_finding.specs.Finding.{is_receiver, receiver_of}
use Rattle.table_finding.proofs.First.{first_is}
use Rattle.table_finding.proofs.receiver.Goals as goal

pub returns : goal.returns
unfolding receiver_of
returns c =
    let p = λ (i : ℕ). is_receiver c.args.role c.args.peer c.args.tid (record_at c.args.t.now i) in
    first_is p _ _ (first_from_Range _ _ _ _ (λ i. p i ≡ true) (λ i. p i ≡ false) c.find.ensures.ran (λ x q k. search rules) (λ x q k. (search rules, search rules)))
