-- A frame that was read, handed to `rds_write` with its own octets as BYTES (RDS.md, section 9, promises 2 and 4).
use Rattle.std.specs.Prelude.{ℕ, ◌≡◌, List, true, Some}
use Rattle.rds_reading.specs.declared.Frame.{Frame}
use Rattle.rds_words.specs.Words.{words_of}
use Rattle.rds_said.specs.Said.{frame_said}
use Rattle.rds_writing.specs.Write.{accepts}
use Rattle.rds_written.specs.Trips.{unplaced_head}

-- a frame but for where its header ends, which its words don't tell
abbrev pub unended : Frame → Frame
unended f = record { head = unplaced_head f.head; body = f.body; list = f.list }

-- the words of the frame g say it
abbrev pub Said : Frame → Type 0
Said g = frame_said (words_of g) ≡ Some (unended g)

-- and are accepted as what they say, each part inside the octets s
abbrev pub Accepted : List ℕ → Frame → Type 0
Accepted s g = Said g × (accepts (words_of g) s (unended g) ≡ true)
