-- How long the body of a frame to be written is, its parts in lent octets (RDS.md, sections 2 and 6); 1,521, one over N201, where no frame has such a body.
use Rattle.std.specs.Prelude.{ℕ, ◌+◌, ◌-◌, ◌%◌, List, Bool, false, length, get_or, ltb, leb, eqb, is_some}
use Rattle.rds_lists.specs.Sizes.{information_most, too_long}
use Rattle.base_lists.specs.Seq.{pick, part, total}
use Rattle.rds_entries.specs.declared.Entry.{Entry}
use Rattle.rds_entries.specs.Entries.{application_length, no_entry}
use Rattle.rds_parameters.specs.Parameters.{items_from}
use Rattle.rds_body.specs.declared.Body.{Body}
use Rattle.rds_body.specs.declared.Body.TheVariants as B

-- section 6: "a part that runs past BYTES (an empty one may start just at the end)" is none; no sum wraps
unfoldable pub inside : ℕ → ℕ → ℕ → Bool
inside n start len = pick (leb start n) (leb len (n - start)) false

-- section 6: "an Application ID whose length isn't 17 + its own octet 16" is none; it has at most 272 octets
unfoldable pub is_application : List ℕ → ℕ → ℕ → Bool
is_application s start len =
    pick (eqb len 0) false
    (pick (ltb 272 len) false
    (pick (inside (length s) start len) (eqb (application_length (part s start len)) len) false))

-- section 1: information of 0 to 1,520 octets; of SET_PARAMETERS "items to the end"
unfoldable pub information_size : List ℕ → ℕ → ℕ → Bool → ℕ
information_size s start len items =
    pick (ltb information_most len) too_long
    (pick (inside (length s) start len)
    (pick items (pick (items_from len (part s start len)) len too_long) len)
    too_long)

-- section 2: "1; 2 ports octet; from 3 on Application ID", with Action 5 "then one octet Serialization Format"
unfoldable pub asking_size : List ℕ → ℕ → ℕ → ℕ → ℕ
asking_size s a start len = pick (is_application s start len) (pick (eqb a 5) (2 + len + 1) (2 + len)) too_long

-- section 2, an entry: "ports octet, Application ID, and with Actions 6 and 7 one octet Serialization Format"
unfoldable pub entry_size : List ℕ → Bool → Entry → ℕ
entry_size s formats e = pick (is_application s e.start e.len) (pick formats (1 + e.len + 1) (1 + e.len)) too_long

-- the first n entries
unfoldable pub entries_size : List ℕ → Bool → List Entry → ℕ → ℕ
entries_size s formats list n = total (λ k. entry_size s formats (get_or list k no_entry)) n

-- section 2, "List": octet 1, the entries; "then nothing, or two octets"
unfoldable pub list_size : List ℕ → List Entry → ℕ → Bool → ℕ → ℕ
list_size s list a some n = pick some (1 + entries_size s (ltb 5 a) list (n % 16) + 2) (1 + entries_size s (ltb 5 a) list (n % 16))

-- the body; with `items` its information is that of SET_PARAMETERS
unfoldable pub body_size : List ℕ → List Entry → Bool → Body → ℕ
body_size s list items B.Empty = 0
body_size s list items (B.Information start len) = information_size s start len items
body_size s list items (B.Asking a p d start len f) = asking_size s a start len
body_size s list items (B.Answer a f t) = pick (eqb a 5) 3 2
body_size s list items (B.Query a p) = pick (is_some p) 3 1
body_size s list items (B.List a p n) = list_size s list a (is_some p) n
