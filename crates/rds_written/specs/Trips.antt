-- A frame beside the frame that was written from it (RDS.md, section 9, promise 3).
use Rattle.std.specs.Prelude.{ℕ, ◌≡◌, List, [], map, Option, Some}
use Rattle.base_lists.specs.Seq.{part}
use Rattle.rds_frame.specs.declared.Head.{Head}
use Rattle.rds_entries.specs.declared.Entry.{Entry}
use Rattle.rds_body.specs.declared.Body.{Body}
use Rattle.rds_body.specs.declared.Body.TheVariants as B
use Rattle.rds_reading.specs.declared.Frame.{Frame}

-- "but for starts": where a header ends, and where a part starts, is told as 0
abbrev pub unplaced_head : Head → Head
unplaced_head h = record { kind = h.kind; ads = h.ads; source = h.source; destination = h.destination; end = 0 }

unfoldable pub unplaced_body : Body → Body
unplaced_body B.Empty = B.Empty
unplaced_body (B.Information a l) = B.Information 0 l
unplaced_body (B.Asking n s d a l f) = B.Asking n s d 0 l f
unplaced_body (B.Answer n f t) = B.Answer n f t
unplaced_body (B.Query n p) = B.Query n p
unplaced_body (B.List n p c) = B.List n p c

abbrev pub unplaced_entry : Entry → Entry
unplaced_entry e = record { source = e.source; destination = e.destination; start = 0; len = e.len; format = e.format }

unfoldable pub unplaced : Frame → Frame
unplaced f = record { head = unplaced_head f.head; body = unplaced_body f.body; list = map unplaced_entry f.list }

-- the octets of the information or of the Application ID of a body, and of an entry
unfoldable pub body_part : List ℕ → Body → List ℕ
body_part s B.Empty = []
body_part s (B.Information a l) = part s a l
body_part s (B.Asking n p d a l f) = part s a l
body_part s (B.Answer n f t) = []
body_part s (B.Query n p) = []
body_part s (B.List n p c) = []

abbrev pub entry_part : List ℕ → Entry → List ℕ
entry_part s e = part s e.start e.len

-- promise 3: what is read in the octets f is a frame; it has "the same words but for starts" as the frame h, "the same octets in each part" as h has in s
pub record Reread (f : List ℕ) (o : Option Frame) (s : List ℕ) (h : Frame) : Type 0 where
  pub frame : Frame
  pub sound : o ≡ Some frame
  pub alike : unplaced frame ≡ unplaced h
  pub same_part : body_part f frame.body ≡ body_part s h.body
  pub same_parts : map (entry_part f) frame.list ≡ map (entry_part s) h.list
