-- The right-hand side of a row as data (01, "Events"): the reasons, and the shapes that the rows have in common.
use Rattle.std.specs.Prelude.{ℕ, Bool, true, false, not}
use Rattle.table_record.specs.declared.State.{State}
use Rattle.table_record.specs.declared.State.TheVariants.{IResultRespWait, RResultWait}
use Rattle.row_columns.specs.declared.Next.{Next}
use Rattle.row_columns.specs.declared.Next.TheVariants.{Stays, Ends, Goes}
use Rattle.row_columns.specs.declared.Timer.{Timer}
use Rattle.row_columns.specs.declared.Timer.TheVariants as Timer
use Rattle.row_columns.specs.declared.Count.{Count}
use Rattle.row_columns.specs.declared.Count.TheVariants as Count
use Rattle.row_columns.specs.declared.Mark.{Mark}
use Rattle.row_columns.specs.declared.Mark.TheVariants as Mark
use Rattle.row_columns.specs.declared.ExitInfo.{ExitInfo}
use Rattle.row_columns.specs.declared.ExitInfo.TheVariants as ExitInfo
use Rattle.row_columns.specs.declared.Cache.{Cache}
use Rattle.row_columns.specs.declared.Cache.TheVariants as Cache
use Rattle.row_columns.specs.declared.Send.{Send}
use Rattle.row_columns.specs.declared.Send.TheVariants as Send
use Rattle.row_columns.specs.declared.Indication.{Indication}
use Rattle.row_columns.specs.declared.Indication.TheVariants as Indication
use Rattle.row_columns.specs.declared.Act.{Act}

-- 01, the table of types: "0 provider, 1 user"
abbrev pub provider : ℕ
provider = 0

abbrev pub user : ℕ
user = 1

-- 01, "Provider reasons: 1 PROTOERR, 2 INVALIDTID, 4 NOTIMPLEMENTEDSAR, 6 WTPVERSIONONE, 7 CAPTEMPEXCEEDED, 8 NORESPONSE"
abbrev pub protoerr : ℕ
protoerr = 1

abbrev pub invalidtid : ℕ
invalidtid = 2

abbrev pub notimplementedsar : ℕ
notimplementedsar = 4

abbrev pub wtpversionone : ℕ
wtpversionone = 6

abbrev pub captempexceeded : ℕ
captempexceeded = 7

abbrev pub noresponse : ℕ
noresponse = 8

-- no exit information, one indication, no message to keep, LastTID and the identity of an unknown item as they were
unfoldable pub act_with : Next → Timer → Count → Mark → Send → Indication → Act
act_with next timer count mark send first = record {
  next = next;
  timer = timer;
  count = count;
  mark = mark;
  exit = ExitInfo.Same;
  send = send;
  first = first;
  second = Indication.Nothing;
  cell = false;
  cache = Cache.Same;
  item = false;
}

-- "end": send, indicate, and the record is freed
abbrev pub ended : Send → Indication → Act
ended send show = act_with Ends Timer.Runs Count.Same Mark.Same send show

-- "Abort k, indicate abort, end"
abbrev pub aborted : ℕ → Act
aborted reason = ended (Send.Abort provider reason) (Indication.Abort provider reason)

-- "Abort k" of which the user learns nothing: no record, or "where the user knows nothing"
abbrev pub aborted_unseen : ℕ → Act
aborted_unseen reason = ended (Send.Abort provider reason) Indication.Nothing

-- "again", or nothing: the record stays as it is, and so does its timer
abbrev pub kept : Send → Act
kept send = act_with Stays Timer.Runs Count.Same Mark.Same send Indication.Nothing

-- "RCR + 1, [send], timer R[RCR]"
abbrev pub resent : Mark → Send → Act
resent mark send = act_with Stays Timer.R Count.RcrUp mark send Indication.Nothing

-- "confirm, stop timer, HoldOn"
abbrev pub held_on : Act
held_on = act_with Stays Timer.Stop Count.Same Mark.HoldOn Send.Nothing (Indication.Confirm true)

-- "hold-on Ack, stop, RESULT WAIT"
abbrev pub holding_on : Act
holding_on = act_with (Goes RResultWait) Timer.Stop Count.Same Mark.HoldOnSent (Send.HoldOn false) Indication.Nothing

-- "timer A": the user has the turn
abbrev pub waiting : Next → Count → Act
waiting next count = act_with next Timer.A count Mark.Same Send.Nothing Indication.Nothing

-- "indicate result, AEC 0, timer A, RESULT RESP WAIT"; 02, L4: "keeps that identity from [..] the Result it took"
unfoldable pub taken : Indication → Indication → Act
taken first second = record {
  next = Goes IResultRespWait;
  timer = Timer.A;
  count = Count.AecZero;
  mark = Mark.Same;
  exit = ExitInfo.Same;
  send = Send.Nothing;
  first = first;
  second = second;
  cell = false;
  cache = Cache.Same;
  item = true;
}

-- "Ack, timer W, WAIT TIMEOUT", with the exit information
unfoldable pub acked : State → ExitInfo → Act
acked state exit = record {
  next = Goes state;
  timer = Timer.W;
  count = Count.Same;
  mark = Mark.Same;
  exit = exit;
  send = Send.LastAck false;
  first = Indication.Nothing;
  second = Indication.Nothing;
  cell = false;
  cache = Cache.Same;
  item = false;
}

-- "Only a class 1 or 2 request, a result and an Invoke to be verified write their record's cell"
unfoldable pub stored : State → Timer → Count → Send → Cache → Bool → Act
stored state timer count send cache item = record {
  next = Goes state;
  timer = timer;
  count = count;
  mark = Mark.Same;
  exit = ExitInfo.Same;
  send = send;
  first = Indication.Nothing;
  second = Indication.Nothing;
  cell = true;
  cache = cache;
  item = item;
}

-- "RCR 0, send [Invoke or Result], timer R[0]"
abbrev pub sent : State → Send → Act
sent state send = stored state Timer.R Count.RcrZero send Cache.Same false

-- "keep the data, send TIDve, no timer, TIDOK WAIT"; 02, L4: "keeps that identity from the Invoke that opened it"
abbrev pub verifying : State → Cache → Act
verifying state cache = stored state Timer.Stop Count.Same (Send.Tidve false) cache true

-- "indicate, AEC 0, timer A, INVOKE RESP WAIT"; "the store serves an Invoke shown after verification"; 02, L4: "keeps that identity from the Invoke that opened it", which was an earlier PDU where it is verified
unfoldable pub shown : State → Bool → Cache → Act
shown state verified cache = record {
  next = Goes state;
  timer = Timer.A;
  count = Count.AecZero;
  mark = Mark.Same;
  exit = ExitInfo.Same;
  send = Send.Nothing;
  first = Indication.Invoke verified;
  second = Indication.Nothing;
  cell = false;
  cache = cache;
  item = not verified;
}
