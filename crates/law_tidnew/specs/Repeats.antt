-- A repeated Invoke beside the first (01: "A repeat sets RID and alters nothing else"; 02, L2: TIDnew too).
use Rattle.std.specs.Prelude.{ℕ, ◌+◌, ◌*◌, ◌≤◌, ◌≡◌, false, List, [], ◌∷◌}
use Rattle.base_layout.specs.Layout.{cell_size}
use Rattle.base_lists.specs.Seq.{part}
use Rattle.table_record.specs.declared.Record.{Record}
use Rattle.table_layout.specs.Table.{record_at}
use Rattle.law_rows.specs.Transaction.{SameTransaction}
use Rattle.call_request.specs.declared.Request.{Request}
use Rattle.step_outcome.specs.Carry.{Lent}

-- the octets with RID set, the last bit of the first
abbrev pub with_rid : List ℕ → List ℕ
with_rid [] = []
with_rid (o ∷ rest) = (o + 1) ∷ rest

-- the record that a request of class 1 or 2 opened, as a later call finds it: the same transaction, whose cell holds the request's data; no TIDok was sent
pub record StillOpen (l later : Lent) (place : ℕ) (q : Request) (opened : Record) : Type 0 where
  pub some : 1 ≤ q.class
  pub most : q.class ≤ 2
  pub same : SameTransaction opened (record_at later.table place)
  pub len : (record_at later.table place).len ≡ q.len
  pub cell : part later.store (place * cell_size) q.len ≡ part l.given 0 q.len
  pub no_tidok : (record_at later.table place).tidok_sent ≡ false
