-- When a request is refused, as document 01's table of numbers says it.
use Rattle.std.specs.Prelude.{ℕ, ◌≤◌, ◌<◌, List, [], ◌∷◌}
use Rattle.base_layout.specs.Layout.{peers, cell_size}
use Rattle.base_numbers.specs.declared.Refusal.TheVariants.{PeerTooLarge, TooLong, WrongClass, TidInUse, TableFull}
use Rattle.table_layout.specs.Table.{count, record_at}
use Rattle.table_record_ok.specs.OneRecord.{Live}
use Rattle.call_refusal.specs.Judging.{Condition, condition, Unfit, Late}
use Rattle.call_request.specs.Requests.{UsesGenTid}
use Rattle.call_request.specs.declared.Request.{Request}

-- 7: "class 1 or 2 requested and no record is free"
abbrev pub NoneFree : List ℕ → ℕ → Type 0
NoneFree t class = (1 ≤ class) × ((i : ℕ) → i < count t → Live (record_at t i))

-- numbers 1 to 7; 3: "peer over 255", 4: "a primitive's data .. too long", 5: "requested class over 2"
abbrev pub request_conditions : List ℕ → ℕ → ℕ → Request → List Condition
request_conditions t store output q =
    Unfit t store output
    ∷ Late t q.time
    ∷ condition PeerTooLarge (peers ≤ q.peer)
    ∷ condition TooLong (cell_size < q.len)
    ∷ condition WrongClass (2 < q.class)
    ∷ condition TidInUse ((i : ℕ) × UsesGenTid t i)
    ∷ condition TableFull (NoneFree t q.class)
    ∷ []
