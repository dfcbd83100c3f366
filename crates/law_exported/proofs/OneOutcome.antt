-- From one input only one outcome can satisfy the contract of an exported function: its result and all that the caller sees, the words of the answer included. Assumes nothing.
use Prim.Native.Nat.{ℕ}
use mathlib.Core.Path.{◌≡◌, sym, ap, ◌∙◌}
use mathlib.Core.List.{List}
use contract.Lifetimes.{Lfts}
use denote.Triple.Clauses.{AtExit}
use borrow.Fn.Kinds.{ended_of}
use borrow.Fn.World.{ArgsD, ResD}
use Rattle.wtp.specs.Engine.{Called, called}
use Rattle.wtp.specs.contracts.wtp_table_bytes as table-bytes
use Rattle.wtp.proofs.wtp_table_bytes.Reads as table-bytes-reads
use Rattle.wtp.proofs.wtp_table_bytes.Kinds as table-bytes-kinds
use Rattle.wtp.specs.contracts.wtp_fresh as fresh
use Rattle.wtp.proofs.wtp_fresh.Reads as fresh-reads
use Rattle.wtp.proofs.wtp_fresh.Kinds as fresh-kinds
use Rattle.wtp.specs.contracts.wtp_read as read
use Rattle.wtp.proofs.wtp_read.Reads as read-reads
use Rattle.wtp.proofs.wtp_read.Kinds as read-kinds
use Rattle.wtp.specs.contracts.wtp_write as write
use Rattle.wtp.proofs.wtp_write.Reads as write-reads
use Rattle.wtp.proofs.wtp_write.Kinds as write-kinds
use Rattle.wtp.specs.contracts.wtp_separate as separate
use Rattle.wtp.proofs.wtp_separate.Reads as separate-reads
use Rattle.wtp.proofs.wtp_separate.Kinds as separate-kinds
use Rattle.wtp.specs.contracts.wtp_read_part as read-part
use Rattle.wtp.proofs.wtp_read_part.Reads as read-part-reads
use Rattle.wtp.proofs.wtp_read_part.Kinds as read-part-kinds
use Rattle.wtp.specs.contracts.wtp_data as data_of
use Rattle.wtp.proofs.wtp_data.Reads as data-of-reads
use Rattle.wtp.proofs.wtp_data.Kinds as data-of-kinds
use Rattle.wtp.specs.contracts.wtp_join as join
use Rattle.wtp.proofs.wtp_join.Reads as join-reads
use Rattle.wtp.proofs.wtp_join.Kinds as join-kinds
use Rattle.wtp.specs.contracts.wtp_request as request
use Rattle.wtp.proofs.wtp_request.Reads as request-reads
use Rattle.wtp.proofs.wtp_request.Kinds as request-kinds
use Rattle.wtp.specs.contracts.wtp_answer as answer
use Rattle.wtp.proofs.wtp_answer.Reads as answer-reads
use Rattle.wtp.proofs.wtp_answer.Kinds as answer-kinds
use Rattle.wtp.specs.contracts.wtp_result as result
use Rattle.wtp.proofs.wtp_result.Reads as result-reads
use Rattle.wtp.proofs.wtp_result.Kinds as result-kinds
use Rattle.wtp.specs.contracts.wtp_abort as abort
use Rattle.wtp.proofs.wtp_abort.Reads as abort-reads
use Rattle.wtp.proofs.wtp_abort.Kinds as abort-kinds
use Rattle.wtp.specs.contracts.wtp_receive as receive
use Rattle.wtp.proofs.wtp_receive.Reads as receive-reads
use Rattle.wtp.proofs.wtp_receive.Kinds as receive-kinds
use Rattle.wtp.specs.contracts.wtp_timer as timer
use Rattle.wtp.proofs.wtp_timer.Reads as timer-reads
use Rattle.wtp.proofs.wtp_timer.Kinds as timer-kinds
use Rattle.wtp.specs.contracts.wtp_deadline as deadline
use Rattle.wtp.proofs.wtp_deadline.Reads as deadline-reads
use Rattle.wtp.proofs.wtp_deadline.Kinds as deadline-kinds
use Rattle.wtp.specs.contracts.wtp_fire as fire
use Rattle.wtp.proofs.wtp_fire.Reads as fire-reads
use Rattle.wtp.proofs.wtp_fire.Kinds as fire-kinds
use Rattle.wtp.specs.contracts.wtp_salvage as salvage
use Rattle.wtp.proofs.wtp_salvage.Reads as salvage-reads
use Rattle.wtp.proofs.wtp_salvage.Kinds as salvage-kinds

-- two things that are one third are the same
same : {A : Type 0} {a b c : A} → a ≡ c → b ≡ c → a ≡ b
same p q = p ∙ sym q

-- and so is each part of what a caller sees
parts : {r r' : ℕ} {t t' s s' o o' w w' : List ℕ} → called r t s o w ≡ called r' t' s' o' w' → (r ≡ r') × (t ≡ t') × (s ≡ s') × (o ≡ o') × (w ≡ w')
parts e = (ap (λ (c : Called). c.result) e, ap (λ (c : Called). c.table) e, ap (λ (c : Called). c.store) e, ap (λ (c : Called). c.output) e, ap (λ (c : Called). c.answer) e)

-- `wtp_table_bytes`
pub table_bytes_one : (κs : Lfts 0) (a : ArgsD table-bytes.signature κs) (r r' : ResD table-bytes.signature κs) (x y : AtExit (ended_of 0 table-bytes-kinds.ps table-bytes-kinds.r) κs) → table-bytes-reads.Learnt κs a r x → table-bytes-reads.Learnt κs a r' y
    → r ≡ r'
table_bytes_one κs a r r' x y k m = same k m

-- `wtp_fresh`
pub fresh_one : (κs : Lfts 2) (a : ArgsD fresh.signature κs) (r r' : ResD fresh.signature κs) (x y : AtExit (ended_of 2 fresh-kinds.ps fresh-kinds.r) κs) → fresh-reads.Learnt κs a r x → fresh-reads.Learnt κs a r' y
    → (r ≡ r') × (x.0.now ≡ y.0.now)
fresh_one κs a r r' x y k m = (same k.0 m.0, same k.1 m.1)

-- `wtp_read`
pub read_one : (κs : Lfts 2) (a : ArgsD read.signature κs) (r r' : ResD read.signature κs) (x y : AtExit (ended_of 2 read-kinds.ps read-kinds.r) κs) → read-reads.Learnt κs a r x → read-reads.Learnt κs a r' y
    → (r ≡ r') × (x.1.0.now ≡ y.1.0.now)
read_one κs a r r' x y k m = (same k.0 m.0, same k.1 m.1)

-- `wtp_write`
pub write_one : (κs : Lfts 4) (a : ArgsD write.signature κs) (r r' : ResD write.signature κs) (x y : AtExit (ended_of 4 write-kinds.ps write-kinds.r) κs) → write-reads.Learnt κs a r x → write-reads.Learnt κs a r' y
    → (r ≡ r') × (x.1.1.0.now ≡ y.1.1.0.now) × (x.1.1.1.0.now ≡ y.1.1.1.0.now)
write_one κs a r r' x y k m = (same k.0 m.0, same k.1 m.1, same k.2 m.2)

-- `wtp_separate`
pub separate_one : (κs : Lfts 2) (a : ArgsD separate.signature κs) (r r' : ResD separate.signature κs) (x y : AtExit (ended_of 2 separate-kinds.ps separate-kinds.r) κs) → separate-reads.Learnt κs a r x → separate-reads.Learnt κs a r' y
    → (r ≡ r') × (x.1.1.0.now ≡ y.1.1.0.now)
separate_one κs a r r' x y k m = (same k.0 m.0, same k.1 m.1)

-- `wtp_read_part`
pub read_part_one : (κs : Lfts 2) (a : ArgsD read-part.signature κs) (r r' : ResD read-part.signature κs) (x y : AtExit (ended_of 2 read-part-kinds.ps read-part-kinds.r) κs) → read-part-reads.Learnt κs a r x → read-part-reads.Learnt κs a r' y
    → (r ≡ r') × (x.1.1.0.now ≡ y.1.1.0.now)
read_part_one κs a r r' x y k m = (same k.0 m.0, same k.1 m.1)

-- `wtp_data`
pub data_one : (κs : Lfts 3) (a : ArgsD data_of.signature κs) (r r' : ResD data_of.signature κs) (x y : AtExit (ended_of 3 data-of-kinds.ps data-of-kinds.r) κs) → data-of-reads.Learnt κs a r x → data-of-reads.Learnt κs a r' y
    → (r ≡ r') × (x.1.1.1.1.0.now ≡ y.1.1.1.1.0.now)
data_one κs a r r' x y k m = (same k.0 m.0, same k.1 m.1)

-- `wtp_join`
pub join_one : (κs : Lfts 4) (a : ArgsD join.signature κs) (r r' : ResD join.signature κs) (x y : AtExit (ended_of 4 join-kinds.ps join-kinds.r) κs) → join-reads.Learnt κs a r x → join-reads.Learnt κs a r' y
    → (r ≡ r') × (x.1.1.0.now ≡ y.1.1.0.now) × (x.1.1.1.0.now ≡ y.1.1.1.0.now)
join_one κs a r r' x y k m = (same k.0 m.0, same k.1 m.1, same k.2 m.2)

-- `wtp_request`: result, table, store, output and answer
pub request_one : (κs : Lfts 5) (a : ArgsD request.signature κs) (r r' : ResD request.signature κs) (x y : AtExit (ended_of 5 request-kinds.ps request-kinds.r) κs) → request-reads.Learnt κs a r x → request-reads.Learnt κs a r' y
    → (r ≡ r') × (x.0.now ≡ y.0.now) × (x.1.0.now ≡ y.1.0.now) × (x.1.1.0.now ≡ y.1.1.0.now) × (x.1.1.1.0.now ≡ y.1.1.1.0.now)
request_one κs a r r' x y k m = parts (same k m)

-- `wtp_answer`: result, table, store, output and answer
pub answer_one : (κs : Lfts 5) (a : ArgsD answer.signature κs) (r r' : ResD answer.signature κs) (x y : AtExit (ended_of 5 answer-kinds.ps answer-kinds.r) κs) → answer-reads.Learnt κs a r x → answer-reads.Learnt κs a r' y
    → (r ≡ r') × (x.0.now ≡ y.0.now) × (x.1.0.now ≡ y.1.0.now) × (x.1.1.0.now ≡ y.1.1.0.now) × (x.1.1.1.0.now ≡ y.1.1.1.0.now)
answer_one κs a r r' x y k m = parts (same k m)

-- `wtp_result`: result, table, store, output and answer
pub result_one : (κs : Lfts 5) (a : ArgsD result.signature κs) (r r' : ResD result.signature κs) (x y : AtExit (ended_of 5 result-kinds.ps result-kinds.r) κs) → result-reads.Learnt κs a r x → result-reads.Learnt κs a r' y
    → (r ≡ r') × (x.0.now ≡ y.0.now) × (x.1.0.now ≡ y.1.0.now) × (x.1.1.0.now ≡ y.1.1.0.now) × (x.1.1.1.0.now ≡ y.1.1.1.0.now)
result_one κs a r r' x y k m = parts (same k m)

-- `wtp_abort`: result, table, store, output and answer
pub abort_one : (κs : Lfts 4) (a : ArgsD abort.signature κs) (r r' : ResD abort.signature κs) (x y : AtExit (ended_of 4 abort-kinds.ps abort-kinds.r) κs) → abort-reads.Learnt κs a r x → abort-reads.Learnt κs a r' y
    → (r ≡ r') × (x.0.now ≡ y.0.now) × (x.1.0.now ≡ y.1.0.now) × (x.1.1.0.now ≡ y.1.1.0.now) × (x.1.1.1.0.now ≡ y.1.1.1.0.now)
abort_one κs a r r' x y k m = parts (same k m)

-- `wtp_receive`: result, table, store, output and answer
pub receive_one : (κs : Lfts 5) (a : ArgsD receive.signature κs) (r r' : ResD receive.signature κs) (x y : AtExit (ended_of 5 receive-kinds.ps receive-kinds.r) κs) → receive-reads.Learnt κs a r x → receive-reads.Learnt κs a r' y
    → (r ≡ r') × (x.0.now ≡ y.0.now) × (x.1.0.now ≡ y.1.0.now) × (x.1.1.0.now ≡ y.1.1.0.now) × (x.1.1.1.0.now ≡ y.1.1.1.0.now)
receive_one κs a r r' x y k m = parts (same k m)

-- `wtp_timer`: result, table, store, output and answer
pub timer_one : (κs : Lfts 4) (a : ArgsD timer.signature κs) (r r' : ResD timer.signature κs) (x y : AtExit (ended_of 4 timer-kinds.ps timer-kinds.r) κs) → timer-reads.Learnt κs a r x → timer-reads.Learnt κs a r' y
    → (r ≡ r') × (x.0.now ≡ y.0.now) × (x.1.0.now ≡ y.1.0.now) × (x.1.1.0.now ≡ y.1.1.0.now) × (x.1.1.1.0.now ≡ y.1.1.1.0.now)
timer_one κs a r r' x y k m = parts (same k m)

-- `wtp_deadline`
pub deadline_one : (κs : Lfts 2) (a : ArgsD deadline.signature κs) (r r' : ResD deadline.signature κs) (x y : AtExit (ended_of 2 deadline-kinds.ps deadline-kinds.r) κs) → deadline-reads.Learnt κs a r x → deadline-reads.Learnt κs a r' y
    → (r ≡ r') × (x.1.0.now ≡ y.1.0.now)
deadline_one κs a r r' x y k m = (same k.0 m.0, same k.1 m.1)

-- `wtp_fire`: result, table, store, output and answer
pub fire_one : (κs : Lfts 4) (a : ArgsD fire.signature κs) (r r' : ResD fire.signature κs) (x y : AtExit (ended_of 4 fire-kinds.ps fire-kinds.r) κs) → fire-reads.Learnt κs a r x → fire-reads.Learnt κs a r' y
    → (r ≡ r') × (x.0.now ≡ y.0.now) × (x.1.0.now ≡ y.1.0.now) × (x.1.1.0.now ≡ y.1.1.0.now) × (x.1.1.1.0.now ≡ y.1.1.1.0.now)
fire_one κs a r r' x y k m = parts (same k m)

-- `wtp_salvage`: result, table and list
pub salvage_one : (κs : Lfts 2) (a : ArgsD salvage.signature κs) (r r' : ResD salvage.signature κs) (x y : AtExit (ended_of 2 salvage-kinds.ps salvage-kinds.r) κs) → salvage-reads.Learnt κs a r x → salvage-reads.Learnt κs a r' y
    → (r ≡ r') × (x.0.now ≡ y.0.now) × (x.1.0.now ≡ y.1.0.now)
salvage_one κs a r r' x y k m = (same k.0 m.0, same k.1 m.1, same k.2 m.2)
