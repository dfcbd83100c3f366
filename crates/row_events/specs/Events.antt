-- The events and rows of document 01, "Events", numbered: what a test over all of them is computed from.
use Rattle.std.specs.Prelude.{ℕ, ◌+◌, ◌*◌, ◌/◌, ◌%◌, Bool, [], ◌∷◌, get_or, eqb}
use Rattle.base_lists.specs.Seq.{bit}
use Rattle.row_events.specs.declared.Event.{Event}
use Rattle.row_events.specs.declared.Event.TheVariants.{Invoke, InvokeRid, ResultCut, ResultCutRid, Result, ResultRid, PlainAck, TidAck, TidAckRid, ReceivedAbort, Segmented, MalformedPdu, UserAnswer, UserResult, UserAbort, Timer}
use Rattle.row_events.specs.declared.Row.{Row}
use Rattle.row_events.specs.declared.Row.TheVariants as Row
use Rattle.row_events.specs.declared.Opening.{Opening}
use Rattle.row_events.specs.declared.Opening.TheVariants as Opening
use Rattle.row_events.specs.declared.Conditions.{Conditions}

-- the number of an event, and the event of a number
abbrev pub event_number : Event → ℕ
event_number Invoke = 0
event_number InvokeRid = 1
event_number ResultCut = 2
event_number ResultCutRid = 3
event_number Result = 4
event_number ResultRid = 5
event_number PlainAck = 6
event_number TidAck = 7
event_number TidAckRid = 8
event_number ReceivedAbort = 9
event_number Segmented = 10
event_number MalformedPdu = 11
event_number UserAnswer = 12
event_number UserResult = 13
event_number UserAbort = 14
event_number Timer = 15

abbrev pub event_numbered : ℕ → Event
event_numbered n = get_or (Invoke ∷ InvokeRid ∷ ResultCut ∷ ResultCutRid ∷ Result ∷ ResultRid ∷ PlainAck ∷ TidAck ∷ TidAckRid ∷ ReceivedAbort ∷ Segmented ∷ MalformedPdu ∷ UserAnswer ∷ UserResult ∷ UserAbort ∷ Timer ∷ []) n Invoke

-- the number of a row for a live record, and the row of a number
abbrev pub row_number : Row → ℕ
row_number Row.Ignored = 0
row_number Row.NotAllowed = 1
row_number Row.PeerAborts = 2
row_number Row.Malformed = 3
row_number Row.UserAborts = 4
row_number Row.PeerAbortsUnseen = 5
row_number Row.MalformedUnseen = 6
row_number Row.TidokSent = 7
row_number Row.Confirmed = 8
row_number Row.HeldOn = 9
row_number Row.Resent = 10
row_number Row.GivenUp = 11
row_number Row.ResultUnsupported = 12
row_number Row.ResultConfirms = 13
row_number Row.ResultTaken = 14
row_number Row.ResultAnswered = 15
row_number Row.ResultAcked = 16
row_number Row.UserAwaited = 17
row_number Row.UserSilent = 18
row_number Row.ResultSeenAgain = 19
row_number Row.TimeoutEnds = 20
row_number Row.Verified1 = 21
row_number Row.Verified2 = 22
row_number Row.TidveRepeated = 23
row_number Row.InvokeAnswered = 24
row_number Row.InvokeAcked = 25
row_number Row.UserWorks = 26
row_number Row.HoldOnSent = 27
row_number Row.ResultSent = 28
row_number Row.HoldOnRepeated = 29
row_number Row.ResultResent = 30
row_number Row.InvokeSeenAgain = 31
row_number Row.TidokSeenAgain = 32
row_number Row.TidokWaitEnds = 33
row_number Row.HeldOnWaitEnds = 34
row_number Row.ResultWaitEnds = 35

abbrev pub row_numbered : ℕ → Row
row_numbered n = get_or (Row.Ignored ∷ Row.NotAllowed ∷ Row.PeerAborts ∷ Row.Malformed ∷ Row.UserAborts ∷ Row.PeerAbortsUnseen ∷ Row.MalformedUnseen ∷ Row.TidokSent ∷ Row.Confirmed ∷ Row.HeldOn ∷ Row.Resent ∷ Row.GivenUp ∷ Row.ResultUnsupported ∷ Row.ResultConfirms ∷ Row.ResultTaken ∷ Row.ResultAnswered ∷ Row.ResultAcked ∷ Row.UserAwaited ∷ Row.UserSilent ∷ Row.ResultSeenAgain ∷ Row.TimeoutEnds ∷ Row.Verified1 ∷ Row.Verified2 ∷ Row.TidveRepeated ∷ Row.InvokeAnswered ∷ Row.InvokeAcked ∷ Row.UserWorks ∷ Row.HoldOnSent ∷ Row.ResultSent ∷ Row.HoldOnRepeated ∷ Row.ResultResent ∷ Row.InvokeSeenAgain ∷ Row.TidokSeenAgain ∷ Row.TidokWaitEnds ∷ Row.HeldOnWaitEnds ∷ Row.ResultWaitEnds ∷ []) n Row.Ignored

-- the number of a row for what comes without a live record, and the row of a number
abbrev pub opening_number : Opening → ℕ
opening_number Opening.Ignored = 0
opening_number Opening.Requested0 = 1
opening_number Opening.Requested1 = 2
opening_number Opening.Requested2 = 3
opening_number Opening.Malformed = 4
opening_number Opening.WrongVersion = 5
opening_number Opening.Unsupported = 6
opening_number Opening.TooLong = 7
opening_number Opening.Shown0 = 8
opening_number Opening.Valid1 = 9
opening_number Opening.Valid2 = 10
opening_number Opening.ToVerify1 = 11
opening_number Opening.ToVerify2 = 12
opening_number Opening.UnknownTidve = 13
opening_number Opening.Restarted1 = 14
opening_number Opening.Restarted2 = 15

abbrev pub opening_numbered : ℕ → Opening
opening_numbered n = get_or (Opening.Ignored ∷ Opening.Requested0 ∷ Opening.Requested1 ∷ Opening.Requested2 ∷ Opening.Malformed ∷ Opening.WrongVersion ∷ Opening.Unsupported ∷ Opening.TooLong ∷ Opening.Shown0 ∷ Opening.Valid1 ∷ Opening.Valid2 ∷ Opening.ToVerify1 ∷ Opening.ToVerify2 ∷ Opening.UnknownTidve ∷ Opening.Restarted1 ∷ Opening.Restarted2 ∷ []) n Opening.Ignored

-- the number of the three conditions, and the conditions of a number
abbrev pub conditions_number : Conditions → ℕ
conditions_number c = bit c.more + 2 * bit c.mark + 4 * bit c.limited

abbrev pub conditions_numbered : ℕ → Conditions
conditions_numbered n = record { more = eqb (n % 2) 1; mark = eqb (n / 2 % 2) 1; limited = eqb (n / 4) 1 }

-- whether two rows are the same
abbrev pub same_row_is : Row → Row → Bool
same_row_is a b = eqb (row_number a) (row_number b)

abbrev pub same_opening : Opening → Opening → Bool
same_opening a b = eqb (opening_number a) (opening_number b)
