-- The rows of a frame from the peer (RDS.md, section 5): which one holds, and what each says.
use Rattle.std.specs.Prelude.{ℕ, ◌/◌, ◌%◌, Bool, false, eqb}
use Rattle.base_lists.specs.Seq.{pick}
use Rattle.rds_rows.specs.declared.Row.{Row}
use Rattle.rds_rows.specs.declared.Row.TheVariants.{R1, R2, R3, R4, R5, R6, R7, R8, R9, R10, R11, R12, R13, R14, R15}

-- two formats have bit 1 in common
unfoldable pub common : ℕ → ℕ → Bool
common o s = pick (eqb (o % 2) 1) (eqb (s % 2) 1) false

-- section 4, "best": "the lowest bit that both have: CBOR, then JSON, then XML (K12); none where they have no bit in common", which is 0
unfoldable pub best : ℕ → ℕ → ℕ
best o s = pick (common o s) 1 (pick (common (o / 2) (s / 2)) 2 (pick (common (o / 4) (s / 4)) 4 0))

-- section 5, a Reserve command: "the first that holds"; `again`: it is a repeat, `mine`: d is a port of ours, not 0, `taken`, `none`: Action 5 and best is none
unfoldable pub reserve_row : Bool → Bool → Bool → Bool → Row
reserve_row again mine taken none =
    pick again R1 (pick (pick mine taken false) R2 (pick none R3 (pick mine R5 R4)))

-- section 5, a Release command: d is 0; d is reserved for X; else
unfoldable pub release_row : Bool → Bool → Row
release_row mine held = pick mine (pick held R7 R8) R6

-- section 5, a response with the Action of our outstanding Reserve, or Release: by its Status
unfoldable pub answer_row : Bool → ℕ → Row
answer_row release status =
    pick release
    (pick (eqb status 0) R12 (pick (eqb status 2) R12 R13))
    (pick (eqb status 0) R10 R11)

-- section 5, "Event"
abbrev pub event_of : Row → ℕ
event_of R1 = 1
event_of R2 = 1
event_of R3 = 1
event_of R4 = 1
event_of R5 = 1
event_of R6 = 1
event_of R7 = 1
event_of R8 = 1
event_of R9 = 3
event_of R10 = 2
event_of R11 = 2
event_of R12 = 2
event_of R13 = 2
event_of R14 = 2
event_of R15 = 0

-- section 5, "We send": the Status of our response; 0 Success, 1 Port not free, 2 Port not associated with specified application, 3 Serialization format not supported
abbrev pub status_of : Row → ℕ
status_of R1 = 0
status_of R2 = 1
status_of R3 = 3
status_of R4 = 0
status_of R5 = 0
status_of R6 = 0
status_of R7 = 0
status_of R8 = 2
status_of R9 = 0
status_of R10 = 0
status_of R11 = 0
status_of R12 = 0
status_of R13 = 0
status_of R14 = 0
status_of R15 = 0

-- section 5, "We send": the format of our response, of a format given and our formats
abbrev pub format_of : Row → ℕ → ℕ → ℕ
format_of R1 given ours = given
format_of R2 given ours = 0
format_of R3 given ours = ours
format_of R4 given ours = given
format_of R5 given ours = given
format_of R6 given ours = 0
format_of R7 given ours = 0
format_of R8 given ours = 0
format_of R9 given ours = 0
format_of R10 given ours = 0
format_of R11 given ours = 0
format_of R12 given ours = 0
format_of R13 given ours = 0
format_of R14 given ours = 0
format_of R15 given ours = 0
