-- A received PDU (01, "TIDs", "Events"): its refusals, and the step of an accepted one.
use Rattle.std.specs.Prelude.{ℕ, ◌%◌, List, [], ◌∷◌, ◌++◌, Bool, true, false, not, length, ltb, eqb, None, Option, Some, is_some}
use Rattle.base_layout.specs.Layout.{peers, cell_size, datagram_bound}
use Rattle.base_lists.specs.Seq.{pick}
use Rattle.base_numbers.specs.declared.Refusal.TheVariants.{WrongLength}
use Rattle.codec_pdu.specs.Pdu.{info_of, unknown_of}
use Rattle.codec_pdu.specs.declared.Kind.{Kind}
use Rattle.codec_pdu.specs.declared.Pdu.{Pdu}
use Rattle.codec_reading.specs.Read.{pdu_of}
use Rattle.table_record.specs.declared.Role.{Role}
use Rattle.table_layout.specs.Table.{count, cached_of}
use Rattle.table_finding.specs.Finding.{named_of, free_of}
use Rattle.table_tids.specs.Tids.{test_of}
use Rattle.table_tids.specs.declared.Test.{Test as TidTest}
use Rattle.table_tids.specs.declared.Test.TheVariants.{Valid, Verified}
use Rattle.row_events.specs.declared.Opening.{Opening}
use Rattle.row_choice.specs.Rows.{opening_of}
use Rattle.step_arrivals.specs.Arrivals.{name_of, event_of, cause_of, wanted_of, arrived_of}
use Rattle.row_turns.specs.declared.Given.{Given}
use Rattle.call_refusal.specs.Judging.{Test, test, lowest, plan_by, peer_tests}
use Rattle.step_plan.specs.Steps.{no_part, idle_step, Plan}
use Rattle.step_plan.specs.declared.Part.{Part}
use Rattle.step_plan.specs.declared.Holder.{Holder}
use Rattle.step_plan.specs.declared.Call.{Call}
use Rattle.step_plan.specs.declared.Tells.TheVariants.{Nothing}
use Rattle.step_plan.specs.declared.Step.{Step}
use Rattle.step_opening.specs.Opens.{place_for, opening_step}
use Rattle.step_live.specs.Turning.{row_at, live_step}
use Rattle.step_carrying.specs.declared.Coming.TheVariants as Coming
use Rattle.call_receive.specs.declared.Arrival.{Arrival}

-- 11: "datagram or PDU length outside 1 to 1,500"
abbrev pub wrong_length : ℕ → Bool
wrong_length len = pick (eqb len 0) true (ltb datagram_bound len)

-- the tests of its refusals; document 01's conditions are in crates/law_refusals
abbrev pub receive_tests : List ℕ → ℕ → ℕ → ℕ → ℕ → ℕ → List Test
receive_tests t store output time peer len =
    peer_tests t store output time peer ++ (test WrongLength (wrong_length len) ∷ [])

-- ---- a PDU for a live record

-- what it brings: the time, an Abort's type and reason, and 02, L4, the identity of its first unknown item
abbrev pub taken_with : ℕ → Pdu → (identity : ℕ) → Given
taken_with time p identity = record { time = time; kind = (cause_of p.kind).abort_type; reason = (cause_of p.kind).reason; len = 0; exit_len = 0; unknown = identity }

unfoldable pub taken_given : ℕ → Pdu → Given
taken_given time p = taken_with time p (unknown_of p).identity

-- the user data of a PDU, as a part of it
unfoldable pub user_part : Pdu → Part
user_part p = record { start = p.start; len = p.len }

-- the data that its indications show: the first Info item, the user data
unfoldable pub taken_call : Pdu → Call
taken_call p = record { message = no_part; info = record { start = (info_of p).start; len = (info_of p).len }; user = user_part p; tells = Nothing }

unfoldable pub taken_step : List ℕ → ℕ → ℕ → Pdu → Step
taken_step t place time p = live_step t place (event_of p.kind) (taken_given time p) (taken_call p)

-- ---- a PDU without a live record

-- "Else keep the data": more than 1,024 octets are kept nowhere
unfoldable pub kept_part : Pdu → Part
kept_part p = pick (ltb cell_size p.len) no_part (user_part p)

-- "Valid when 1 ≤ d ≤ 16,383"
unfoldable pub is_valid : TidTest → Bool
is_valid Valid = true
is_valid Verified = false

-- whom it concerns, where its record would be opened, and the class and U/P that it asks for
unfoldable pub arriver_of : ℕ → Role → ℕ → ℕ → Kind → Holder
arriver_of place role peer tid kind = record {
  place = place;
  role = role;
  peer = peer;
  tid = tid;
  class = (wanted_of kind).class;
  up = (wanted_of kind).up;
  tidnew = false;
  len = 0;
}

-- what it brings: the time, the length of the data to keep, and 02, L4, the identity of its first unknown item
abbrev pub opened_with : ℕ → Pdu → (identity : ℕ) → Given
opened_with time p identity = record { time = time; kind = 0; reason = 0; len = (kept_part p).len; exit_len = 0; unknown = identity }

unfoldable pub opened_given : ℕ → Pdu → Given
opened_given time p = opened_with time p (unknown_of p).identity

unfoldable pub opened_call : Pdu → Call
opened_call p = record { message = kept_part p; info = no_part; user = user_part p; tells = Nothing }

unfoldable pub opened_step : List ℕ → Opening → Holder → ℕ → Pdu → Step
opened_step t opening h time p = opening_step t opening h (opened_given time p) None (opened_call p)

-- the row of a PDU without a live record; one of its tests is "no free record"
unfoldable pub arrival_opening : List ℕ → ℕ → ℕ → List ℕ → Pdu → Opening
arrival_opening t peer tid s p = opening_of (arrived_of s p (not (is_some (free_of t (count t)))) (is_valid (test_of (cached_of t peer) tid)))

unfoldable pub unmatched_step : List ℕ → Role → ℕ → ℕ → ℕ → List ℕ → Pdu → Step
unmatched_step t role peer tid time s p =
    opened_step t (arrival_opening t peer tid s p) (arriver_of (place_for (free_of t (count t))) role peer tid p.kind) time p

-- ---- the whole call

-- the live record that is named, or none
abbrev pub step_by : Option ℕ → List ℕ → Role → ℕ → ℕ → ℕ → List ℕ → Step
step_by (Some i) t role peer tid time s = taken_step t i time (pdu_of s)
step_by None t role peer tid time s = unmatched_step t role peer tid time s (pdu_of s)

unfoldable pub naming_step : List ℕ → Role → ℕ → ℕ → ℕ → List ℕ → Step
naming_step t role peer tid time s = step_by (named_of t (count t) role peer tid) t role peer tid time s

-- "a shorter one names none"; what is ignored before any test names none either
abbrev pub step_of_name : Option (Role × ℕ) → List ℕ → ℕ → ℕ → List ℕ → Step
step_of_name None t time peer s = idle_step time
step_of_name (Some (role, tid)) t time peer s = naming_step t role peer tid time s

unfoldable pub receive_step : List ℕ → ℕ → ℕ → List ℕ → Step
receive_step t time peer s = step_of_name (name_of s) t time peer s

unfoldable pub receive_plan : List ℕ → ℕ → ℕ → ℕ → ℕ → List ℕ → Plan
receive_plan t store output time peer s = plan_by (lowest (receive_tests t store output time peer (length s))) (receive_step t time (peer % peers) s)

-- ---- what the code takes apart: the turn that a PDU brings

-- to a live record, or as an opening
unfoldable pub taken_turn : List ℕ → ℕ → ℕ → Pdu → (identity : ℕ) → Arrival
taken_turn t place time p identity = record { coming = Coming.Live place (row_at t place (event_of p.kind)); given = taken_with time p identity; call = taken_call p }

unfoldable pub opened_turn : Opening → Holder → ℕ → Pdu → (identity : ℕ) → Arrival
opened_turn opening h time p identity = record { coming = Coming.Opens opening h None; given = opened_with time p identity; call = opened_call p }

unfoldable pub unmatched_turn : List ℕ → Role → ℕ → ℕ → ℕ → List ℕ → Pdu → (identity : ℕ) → Arrival
unmatched_turn t role peer tid time s p identity =
    opened_turn (arrival_opening t peer tid s p) (arriver_of (place_for (free_of t (count t))) role peer tid p.kind) time p identity

abbrev pub turn_by : Option ℕ → List ℕ → Role → ℕ → ℕ → ℕ → List ℕ → Arrival
turn_by (Some i) t role peer tid time s = taken_turn t i time (pdu_of s) (unknown_of (pdu_of s)).identity
turn_by None t role peer tid time s = unmatched_turn t role peer tid time s (pdu_of s) (unknown_of (pdu_of s)).identity

unfoldable pub naming_turn : List ℕ → Role → ℕ → ℕ → ℕ → List ℕ → Arrival
naming_turn t role peer tid time s = turn_by (named_of t (count t) role peer tid) t role peer tid time s

abbrev pub turn_of_name : Option (Role × ℕ) → List ℕ → ℕ → ℕ → List ℕ → Option Arrival
turn_of_name None t time peer s = None
turn_of_name (Some (role, tid)) t time peer s = Some (naming_turn t role peer tid time s)

unfoldable pub receive_turn : List ℕ → ℕ → ℕ → List ℕ → Option Arrival
receive_turn t time peer s = turn_of_name (name_of s) t time peer s
