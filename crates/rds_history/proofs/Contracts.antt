-- What the contract of each exported function says is what a history is made of, by identity: the promises speak of the code. Assumes nothing.
use Prim.Native.Nat.{ℕ}
use mathlib.Core.Path.{◌≡◌}
use mathlib.Core.List.{List}
use contract.Lifetimes.{Lfts}
use denote.Triple.Clauses.{AtExit}
use borrow.Fn.Kinds.{ended_of}
use borrow.Fn.World.{ArgsD, ResD}
use Rattle.rds_lent.specs.Left.{left}
use Rattle.rds_shown.specs.Shown.{fresh_number, fresh_after}
use Rattle.rds_book_laws.specs.Formed.{Octets}
use Rattle.rds.specs.Calls.{is_on}
use Rattle.rds_history.specs.History.{Keeps}
use Rattle.rds_history.specs.History.Call.{Reserve, Release, Again, Abandon, Receive, Port}
use Rattle.rds.specs.contracts.rds_ports_fresh as fresh
use Rattle.rds.proofs.rds_ports_fresh.Reads as fresh-reads
use Rattle.rds.proofs.rds_ports_fresh.Kinds as fresh-kinds
use Rattle.rds.specs.contracts.rds_reserve as reserve
use Rattle.rds.proofs.rds_reserve.Reads as reserve-reads
use Rattle.rds.proofs.rds_reserve.Kinds as reserve-kinds
use Rattle.rds.specs.contracts.rds_release as release
use Rattle.rds.proofs.rds_release.Reads as release-reads
use Rattle.rds.proofs.rds_release.Kinds as release-kinds
use Rattle.rds.specs.contracts.rds_again as again
use Rattle.rds.proofs.rds_again.Reads as again-reads
use Rattle.rds.proofs.rds_again.Kinds as again-kinds
use Rattle.rds.specs.contracts.rds_abandon as abandon
use Rattle.rds.proofs.rds_abandon.Reads as abandon-reads
use Rattle.rds.proofs.rds_abandon.Kinds as abandon-kinds
use Rattle.rds.specs.contracts.rds_receive as receive
use Rattle.rds.proofs.rds_receive.Reads as receive-reads
use Rattle.rds.proofs.rds_receive.Kinds as receive-kinds
use Rattle.rds.specs.contracts.rds_port as port
use Rattle.rds.proofs.rds_port.Reads as port-reads
use Rattle.rds.proofs.rds_port.Kinds as port-kinds

-- `rds_ports_fresh`
pub fresh_keeps : (κs : Lfts 1) (a : ArgsD fresh.signature κs) (r : ResD fresh.signature κs) (x : AtExit (ended_of 1 fresh-kinds.ps fresh-kinds.r) κs) → fresh-reads.Learnt κs a r x
    → (r ≡ fresh_number a.0.now a.1.1.0) × (x.0.now ≡ fresh_after a.0.now (is_on a.1.0) a.1.1.0)
fresh_keeps κs a r x k = k

-- `rds_reserve`
pub reserve_keeps : (κs : Lfts 4) (a : ArgsD reserve.signature κs) (r : ResD reserve.signature κs) (x : AtExit (ended_of 4 reserve-kinds.ps reserve-kinds.r) κs) → reserve-reads.Learnt κs a r x
    → Keeps (record {
      call = Reserve a.1.1.1.0 a.1.1.1.1.0 (is_on a.1.1.1.1.1.0) a.1.1.1.1.1.1.0.now;
      book = a.0.now;
      output = a.1.0.now;
      answer = a.1.1.0.now;
      seen = left r x.0.now x.1.0.now x.1.1.0.now;
    })
reserve_keeps κs a r x k = record { lends = tt; keeps = k }

-- `rds_release`
pub release_keeps : (κs : Lfts 3) (a : ArgsD release.signature κs) (r : ResD release.signature κs) (x : AtExit (ended_of 3 release-kinds.ps release-kinds.r) κs) → release-reads.Learnt κs a r x
    → Keeps (record {
      call = Release a.1.1.1.0;
      book = a.0.now;
      output = a.1.0.now;
      answer = a.1.1.0.now;
      seen = left r x.0.now x.1.0.now x.1.1.0.now;
    })
release_keeps κs a r x k = record { lends = tt; keeps = k }

-- `rds_again`: the book is lent for reading
pub again_keeps : (κs : Lfts 3) (a : ArgsD again.signature κs) (r : ResD again.signature κs) (x : AtExit (ended_of 3 again-kinds.ps again-kinds.r) κs) → again-reads.Learnt κs a r x
    → Keeps (record {
      call = Again;
      book = a.0.now;
      output = a.1.0.now;
      answer = a.1.1.0.now;
      seen = left r a.0.now x.1.0.now x.1.1.0.now;
    })
again_keeps κs a r x k = record { lends = tt; keeps = k }

-- `rds_abandon`: neither output nor answer is lent
pub abandon_keeps : (κs : Lfts 1) (a : ArgsD abandon.signature κs) (r : ResD abandon.signature κs) (x : AtExit (ended_of 1 abandon-kinds.ps abandon-kinds.r) κs) → abandon-reads.Learnt κs a r x
    → (output answer : List ℕ) → Keeps (record {
      call = Abandon;
      book = a.0.now;
      output = output;
      answer = answer;
      seen = left r x.0.now output answer;
    })
abandon_keeps κs a r x k output answer = record { lends = tt; keeps = λ i. left (k.0 i) (k.1 i) output answer }

-- `rds_receive`
pub receive_keeps : (κs : Lfts 4) (a : ArgsD receive.signature κs) (r : ResD receive.signature κs) (x : AtExit (ended_of 4 receive-kinds.ps receive-kinds.r) κs) → receive-reads.Learnt κs a r x
    → Octets a.1.1.1.0.now → Keeps (record {
      call = Receive a.1.1.1.0.now;
      book = a.0.now;
      output = a.1.0.now;
      answer = a.1.1.0.now;
      seen = left r x.0.now x.1.0.now x.1.1.0.now;
    })
receive_keeps κs a r x k octets = record { lends = octets; keeps = k }

-- `rds_port`: the book is lent for reading
pub port_keeps : (κs : Lfts 3) (a : ArgsD port.signature κs) (r : ResD port.signature κs) (x : AtExit (ended_of 3 port-kinds.ps port-kinds.r) κs) → port-reads.Learnt κs a r x
    → Keeps (record {
      call = Port a.1.0;
      book = a.0.now;
      output = a.1.1.0.now;
      answer = a.1.1.1.0.now;
      seen = left r a.0.now x.1.1.0.now x.1.1.1.0.now;
    })
port_keeps κs a r x k = record { lends = tt; keeps = k }
