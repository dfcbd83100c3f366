-- TIDnew (02, L2): when it is due, and what the wire shows of it.
use Rattle.std.specs.Prelude.{ℕ, ◌+◌, ◌*◌, ◌≡◌, Bool, true, false, ◌&&◌, not, List, [], ◌∷◌, get_or, eqb}
use Rattle.base_lists.specs.Seq.{pick, bit}
use Rattle.table_layout.specs.Table.{gen_tid_of}
use Rattle.step_outcome.specs.Carry.{Answer}
use Rattle.call_plans.specs.Calls.{Call, is_request}
use Rattle.law_history.specs.Trace.{Entry}
use Rattle.law_history.specs.Tally.{accepted}

-- the class that a request asks for; no other call asks for one
abbrev pub class_in : Call → ℕ
class_in (Call.Request time peer class user_ack) = class
class_in (Call.Answer time role peer tid) = 0
class_in (Call.Result time role peer tid) = 0
class_in (Call.Abort time role peer tid reason) = 0
class_in (Call.Receive time peer) = 0
class_in (Call.Timer time) = 0
class_in (Call.Fire time role peer tid) = 0

-- whether TIDnew is due after a call that left this GenTID: a request that brings GenTID to 0 makes it due, one of class 1 or 2 takes it, any other call leaves it
abbrev pub due_by : Call → Answer → ℕ → Bool → Bool
due_by c answer gen_tid due = pick (accepted answer && is_request c) (pick (eqb gen_tid 0) true (pick (eqb (class_in c) 0) due false)) due

-- "its first class 1 or 2 Invoke from a fresh table, and [..] the first after GenTID has come back to 0": whether the next one is such a first, by the history alone
unfoldable pub first_due : List Entry → Bool
first_due [] = true
first_due (e ∷ h) = due_by e.call e.done.answer (gen_tid_of e.done.table) (first_due h)

-- 01, the table of types: the octet after an Invoke's TID, version 0: TIDnew, U/P, class
abbrev pub invoke_octet : Bool → Bool → ℕ → ℕ
invoke_octet tidnew up class = bit tidnew * 32 + bit up * 16 + class

-- an accepted request's Invoke carries the flag exactly where it is of class 1 or 2 and such a first
abbrev pub Carries : Entry → List Entry → Type 0
Carries e h = (time peer class : ℕ) (up : Bool) → e.call ≡ Call.Request time peer class up → accepted e.done.answer ≡ true
    → get_or e.done.output 3 0 ≡ invoke_octet (not (eqb class 0) && first_due h) up class
