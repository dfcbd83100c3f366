-- A frame whose parts lie elsewhere (RDS.md, section 9, promise 2): "the words that some frame reads as, starts aside and each part inside BYTES".
use Rattle.std.specs.Prelude.{ℕ, ◌+◌, ◌≤◌, ◌<◌, ◌≡◌, List, map, length, get_or}
use Rattle.rds_entries.specs.declared.Entry.{Entry}
use Rattle.rds_entries.specs.Entries.{no_entry}
use Rattle.rds_body.specs.declared.Body.{Body}
use Rattle.rds_body.specs.declared.Body.TheVariants as B
use Rattle.rds_reading.specs.declared.Frame.{Frame}
use Rattle.rds_written.specs.Trips.{unplaced, body_part, entry_part}

-- "each part inside BYTES": "a part that runs past BYTES (an empty one may start just at the end)" is none
abbrev pub PartInside : List ℕ → Body → Type 0
PartInside s B.Empty = Unit
PartInside s (B.Information a l) = a + l ≤ length s
PartInside s (B.Asking n p d a l f) = a + l ≤ length s
PartInside s (B.Answer n f t) = Unit
PartInside s (B.Query n p) = Unit
PartInside s (B.List n p c) = Unit

-- the entry k of a frame
abbrev pub entry_in : Frame → ℕ → Entry
entry_in g k = get_or g.list k no_entry

-- the frame g, its parts in BYTES s, is the frame h, its parts in the octets f, starts aside
pub record Elsewhere (s : List ℕ) (g : Frame) (f : List ℕ) (h : Frame) : Type 0 where
  pub alike : unplaced g ≡ unplaced h
  pub same_part : body_part s g.body ≡ body_part f h.body
  pub same_parts : map (entry_part s) g.list ≡ map (entry_part f) h.list
  pub inside : PartInside s g.body
  pub insides : (k : ℕ) → k < 15 → (entry_in g k).start + (entry_in g k).len ≤ length s
  -- "Words that the frame hasn't are 0": an entry that isn't there has no start
  pub none : (k : ℕ) → k < 15 → (entry_in g k).len ≡ 0 → (entry_in g k).start ≡ 0
