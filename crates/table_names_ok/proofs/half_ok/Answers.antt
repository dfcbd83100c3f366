-- The names passed are new in the half, and its keys are gathered.
use Rattle.std.proofs.Common.{ℕ, List, ◌≡◌, ◌+◌, ◌-◌, ◌≤◌, ◌∙◌, Bool, sym, arith, rules}
use native.Mathlib.Nat.{sub_self}
use Rattle.base_lists.proofs.StoresAndParts.{every_fails, every_more, every_none}
use Rattle.base_lists.proofs.Every.{every_done}
use Rattle.table_record.specs.declared.Record.{Record}
use Rattle.table_layout.specs.Table.{record_at}
use Rattle.table_names_ok.specs.Names.{Keyed, new_key, new_in_half, half_ok}
use Rattle.table_names_ok.proofs.Keys.{Keys, keys_none, keys_more, keys_full, key_new}
use Rattle.table_names_ok.proofs.half_ok.Goals as goal
use Rattle.table_names_ok.proofs.half_ok.Goals.{then-i-from-lt-HALF, else-i-from-lt-HALF}

-- the key of record i is that of the place i - from in the half, and is new there as the test says
module _ (t keys : List ℕ) (from i k : ℕ) (r : Record) (low : from ≤ i) (e : r ≡ record_at t i) (n : Keyed r k) where
  keyed : Keyed (record_at t (from + (i - from))) k
  keyed =
      let p : from + (i - from) ≡ i = omega arith in
      rw (p, ← e) n

  judged : (b : Bool) → b ≡ new_key keys k → Keys t from keys (i - from) → b ≡ new_in_half t from (i - from)
  judged b a h = a ∙ key_new t from keys (i - from) k h keyed

pub loop-i-init : goal.loop-i-init
loop-i-init c = rw (sub_self c.args.from) (search rules, search rules, keys_none c.args.t.now c.args.from, every_none _)

pub returns-then-not-new_key : goal.returns-then-not-new_key
unfolding half_ok
returns-then-not-new_key c =
    let l = c.loop-i in
    let j = judged c.args.t.now l.keys c.args.from l.i _ _ l.invariant.0 c.record_at.ensures c.key_of-k.ensures _ c.new_key.ensures l.invariant.2 in
    sym (every_fails _ _ _ (omega arith) (sym j ∙ c.if-not-new_key.true))

pub loop-i-preserved : goal.loop-i-preserved
loop-i-preserved c =
    let t = c.args.t.now in
    let from = c.args.from in
    let l = c.loop-i in
    let m = l.i - from in
    let e : l.i + 1 - from ≡ m + 1 = omega arith in
    let j = judged t l.keys from l.i _ _ l.invariant.0 c.record_at.ensures c.key_of-k.ensures _ c.new_key.ensures l.invariant.2 in
    let k : Keys t from c.if-i-from-lt-HALF.keys (m + 1) = elim c.if-i-from-lt-HALF.branch [
      | then-i-from-lt-HALF w ↦ rw w.keys-is (keys_more t from l.keys m _ w.if-i-from-lt-HALF.true l.invariant.2 (keyed t l.keys from l.i _ _ l.invariant.0 c.record_at.ensures c.key_of-k.ensures))
      | else-i-from-lt-HALF w ↦ rw w.keys-is (keys_full t from l.keys m w.if-i-from-lt-HALF.false l.invariant.2)
    ] in
    (omega arith, omega arith, rw e k, rw e (every_more _ _ (sym j ∙ c.if-not-new_key.false) l.invariant.3))

pub returns : goal.returns
unfolding half_ok
returns c = sym (every_done _ _ _ c.loop-i.invariant.1 (omega arith) c.loop-i.invariant.3)
