-- A record (01, "What the reader carries", "TIDs", "Events"): states, TIDs, and the octets of its fields.
use Rattle.std.specs.Prelude.{ℕ, ◌+◌, ◌*◌, ◌%◌, ◌/◌, ◌^◌, ◌<◌, List, [], ◌∷◌, ◌++◌, get_or, eqb}
use Rattle.base_layout.specs.Layout.{peer_offset, tid_offset, rcr_offset, aec_offset, flags_offset, exit_len_offset, deadline_offset, len_offset, limit_offset, unknown_offset, sent_offset, tid_count, output_least}
use Rattle.base_lists.specs.Seq.{pick, bit}
use Rattle.base_octets.specs.Octets.{num, enc, gets}
use Rattle.table_record.specs.declared.Role.{Role}
use Rattle.table_record.specs.declared.Role.TheVariants.{Initiator, Responder}
use Rattle.table_record.specs.declared.State.{State}
use Rattle.table_record.specs.declared.State.TheVariants.{Free, IResultWait1, IResultWait2, IResultRespWait, IWaitTimeout, RTidokWait1, RTidokWait2, RInvokeRespWait1, RInvokeRespWait2, RResultWait, RResultRespWait, RWaitTimeout}
use Rattle.table_record.specs.declared.Record.{Record}

-- 01, "Events": the role of a state
abbrev pub role_of : State → Role
role_of Free = Initiator
role_of IResultWait1 = Initiator
role_of IResultWait2 = Initiator
role_of IResultRespWait = Initiator
role_of IWaitTimeout = Initiator
role_of RTidokWait1 = Responder
role_of RTidokWait2 = Responder
role_of RInvokeRespWait1 = Responder
role_of RInvokeRespWait2 = Responder
role_of RResultWait = Responder
role_of RResultRespWait = Responder
role_of RWaitTimeout = Responder

-- 01, "Events": the class of a state; 0 is none
abbrev pub class_of : State → ℕ
class_of Free = 0
class_of IResultWait1 = 1
class_of IResultWait2 = 2
class_of IResultRespWait = 2
class_of IWaitTimeout = 2
class_of RTidokWait1 = 1
class_of RTidokWait2 = 2
class_of RInvokeRespWait1 = 1
class_of RInvokeRespWait2 = 2
class_of RResultWait = 2
class_of RResultRespWait = 2
class_of RWaitTimeout = 1

-- the number of a state in its octet; a free record is zero
abbrev pub state_number : State → ℕ
state_number Free = 0
state_number IResultWait1 = 1
state_number IResultWait2 = 2
state_number IResultRespWait = 3
state_number IWaitTimeout = 4
state_number RTidokWait1 = 5
state_number RTidokWait2 = 6
state_number RInvokeRespWait1 = 7
state_number RInvokeRespWait2 = 8
state_number RResultWait = 9
state_number RResultRespWait = 10
state_number RWaitTimeout = 11

-- the state of a number; a number that is none counts as free
unfoldable pub state_of : ℕ → State
state_of n =
    pick (eqb n 1) IResultWait1
    (pick (eqb n 2) IResultWait2
    (pick (eqb n 3) IResultRespWait
    (pick (eqb n 4) IWaitTimeout
    (pick (eqb n 5) RTidokWait1
    (pick (eqb n 6) RTidokWait2
    (pick (eqb n 7) RInvokeRespWait1
    (pick (eqb n 8) RInvokeRespWait2
    (pick (eqb n 9) RResultWait
    (pick (eqb n 10) RResultRespWait
    (pick (eqb n 11) RWaitTimeout Free))))))))))

-- the number of a role in the C interface
abbrev pub role_number : Role → ℕ
role_number Initiator = 0
role_number Responder = 1

-- 01: "The top bit is 0 towards the responder, 1 towards the initiator"
abbrev pub send_tid : Role → ℕ → ℕ
send_tid Initiator tid = tid
send_tid Responder tid = tid + tid_count

abbrev pub rcv_tid : Role → ℕ → ℕ
rcv_tid Initiator tid = tid + tid_count
rcv_tid Responder tid = tid

-- 02, L11: "at most (1 + RCR_MAX) times (4 + n)", and an Invoke with 1,024 octets of data has 1,028: the most that a record may count
abbrev pub sent_most : ℕ → ℕ
sent_most rcrMax = (1 + rcrMax) * output_least

-- the five flags in one octet
unfoldable pub flags_of : Record → ℕ
flags_of r = bit r.user_ack + 2 * bit r.hold_on + 4 * bit r.tidok_sent + 8 * bit r.hold_on_sent + 16 * bit r.tidnew

-- the fields of 29 octets: state, peer, TID, RCR, AEC, flags, length of the exit information, deadline, message length, waiting limit in force, identity of an unknown item, octets sent
unfoldable pub decoded : List ℕ → Record
decoded w = record {
  state = state_of (get_or w 0 0);
  peer = get_or w peer_offset 0;
  tid = num (gets 2 tid_offset w);
  user_ack = eqb (get_or w flags_offset 0 % 2) 1;
  hold_on = eqb (get_or w flags_offset 0 / 2 % 2) 1;
  tidok_sent = eqb (get_or w flags_offset 0 / 4 % 2) 1;
  hold_on_sent = eqb (get_or w flags_offset 0 / 8 % 2) 1;
  tidnew = eqb (get_or w flags_offset 0 / 16 % 2) 1;
  rcr = record { 0 = get_or w rcr_offset 0 };
  aec = record { 0 = get_or w aec_offset 0 };
  exit_len = get_or w exit_len_offset 0;
  deadline = num (gets 8 deadline_offset w);
  len = num (gets 4 len_offset w);
  limit = num (gets 4 limit_offset w);
  unknown = get_or w unknown_offset 0;
  sent = num (gets 4 sent_offset w);
}

-- the 29 octets of a record
unfoldable pub octets_of : Record → List ℕ
octets_of r =
    (state_number r.state ∷ r.peer ∷ [])
    ++ (enc 2 r.tid ++ ((r.rcr.0 ∷ r.aec.0 ∷ flags_of r ∷ r.exit_len ∷ []) ++ (enc 8 r.deadline ++ (enc 4 r.len ++ (enc 4 r.limit ++ (r.unknown ∷ enc 4 r.sent))))))

-- the numbers of a record have room in these octets
pub record Fits (r : Record) : Type 0 where
  pub tid : r.tid < 2 ^ 16
  pub deadline : r.deadline < 2 ^ 64
  pub len : r.len < 2 ^ 32
  pub limit : r.limit < 2 ^ 32
  pub sent : r.sent < 2 ^ 32
