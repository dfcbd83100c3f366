-- Application IDs and the entries of a list (RDS.md, section 2; TS 24.250, 5.4.2.6): what stands at a place, and the walk.
use Rattle.std.specs.Prelude.{ℕ, zero, suc, ◌+◌, ◌/◌, ◌%◌, ◌≤◌, List, Bool, length, get_or, set, drop, replicate, ltb, leb, eqb, Option, Some, None}
use Rattle.base_lists.specs.Seq.{pick}
use Rattle.rds_entries.specs.declared.Entry.{Entry}
use Rattle.rds_entries.specs.declared.Entries.{Entries}

-- section 2: "16 octets OS Id (any), one octet L, L octets OS App Id; 17 + L octets": that many; 0 where s has fewer
unfoldable pub application_length : List ℕ → ℕ
application_length s =
    pick (ltb (length s) 17) 0
    (pick (ltb (length s) (17 + get_or s 16 0)) 0 (17 + get_or s 16 0))

-- the entry that s begins with, at the place `at` of the frame: "ports octet, Application ID", and a format
abbrev pub entry_of : List ℕ → ℕ → ℕ → ℕ → Entry
entry_of s at len format = record { source = get_or s 0 0 / 16; destination = get_or s 0 0 % 16; start = at + 1; len = len; format = format }

-- an entry and its length
abbrev pub one : Entry → ℕ → Option (Entry × ℕ)
one e size = Some (e, size)

-- an entry whose Application ID has len octets, and its length, "and with Actions 6 and 7 one octet Serialization Format", of which bits 8 to 4 are spare
abbrev pub entry_with : List ℕ → ℕ → Bool → ℕ → Option (Entry × ℕ)
entry_with s at formats len =
    pick (eqb len 0) None
    (pick formats
    (pick (leb (length s) (1 + len)) None (one (entry_of s at len (get_or s (1 + len) 0 % 8)) (1 + len + 1)))
    (one (entry_of s at len 0) (1 + len)))

-- the entry that s begins with, at the place `at` of the frame, and its length
unfoldable pub entry_at : List ℕ → ℕ → Bool → Option (Entry × ℕ)
entry_at s at formats = pick (eqb (length s) 0) None (entry_with s at formats (application_length (drop 1 s)))

-- what stands in an unused place of a list of entries
abbrev pub no_entry : Entry
no_entry = record { source = 0; destination = 0; start = 0; len = 0; format = 0 }

-- a list without entries
abbrev pub no_entries : List Entry
no_entries = replicate 15 no_entry

-- what follows what stands at a place: `rest` is the walk with one fewer to come
abbrev pub after_entry : (ℕ → ℕ → List ℕ → List Entry → Option Entries) → ℕ → ℕ → List ℕ → List Entry → Option (Entry × ℕ) → Option Entries
after_entry rest k at s read None = None
after_entry rest k at s read (Some (e, size)) = rest (k + 1) (at + size) (drop size s) (set read k e)

-- section 2, "List": n entries, none where one is cut short; `left` are still to come after the first k, which are in `read`
unfoldable pub walk_from : ℕ → ℕ → Bool → ℕ → List ℕ → List Entry → Option Entries
walk_from zero k formats at s read = Some (record { end = at; list = read })
walk_from (suc left) k formats at s read = after_entry (λ j. walk_from left j formats) k at s read (entry_at s at formats)

-- between the place `at` of s and its end
abbrev pub Within : ℕ → List ℕ → ℕ → Type 0
Within at s end = (at ≤ end) × (end ≤ at + length s)
