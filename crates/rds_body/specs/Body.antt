-- The information field of MANAGE_PORT (RDS.md, section 2; TS 24.250, 5.4.2.6).
use Rattle.std.specs.Prelude.{ℕ, ◌+◌, ◌-◌, ◌*◌, ◌/◌, ◌%◌, List, Bool, length, get_or, drop, replicate, ltb, eqb, Option, Some, None}
use Rattle.base_lists.specs.Seq.{pick}
use Rattle.rds_entries.specs.declared.Entry.{Entry}
use Rattle.rds_entries.specs.declared.Entries.{Entries}
use Rattle.rds_entries.specs.Entries.{application_length, no_entry, walk_from}
use Rattle.rds_body.specs.declared.Body.{Body}
use Rattle.rds_body.specs.declared.Body.TheVariants as B
use Rattle.rds_body.specs.declared.Form.{Form}
use Rattle.rds_body.specs.declared.Form.TheVariants as F
use Rattle.rds_body.specs.declared.Managed.{Managed}

-- section 2: the table of Actions, "Command"; 0 and 8 to 15 are reserved: malformed
unfoldable pub command_form : ℕ → Option Form
command_form a = pick (eqb a 1) (Some F.Asking) (pick (eqb a 2) (Some F.Asking) (pick (eqb a 3) (Some F.Query) (pick (eqb a 4) (Some F.List) (pick (eqb a 5) (Some F.Asking) (pick (eqb a 6) (Some F.Query) (pick (eqb a 7) (Some F.List) None))))))

-- section 2: the table of Actions, "Response"; of a Notify there is none: malformed
unfoldable pub response_form : ℕ → Option Form
response_form a = pick (eqb a 1) (Some F.Answer) (pick (eqb a 2) (Some F.Answer) (pick (eqb a 3) (Some F.List) (pick (eqb a 5) (Some F.Answer) (pick (eqb a 6) (Some F.List) None))))

abbrev pub form_of : ℕ → Bool → Option Form
form_of a response = pick response (response_form a) (command_form a)

-- section 2: "As a number port p counts 2^p: octet 1 with bit 1 cleared, + 256 · octet 2"
abbrev pub bitmap_of : List ℕ → ℕ
bitmap_of s = get_or s 0 0 / 2 * 2 + get_or s 1 0 * 256

-- section 2: "then nothing, or two octets" of ports; none where it is neither
unfoldable pub optional_of : List ℕ → Option (Option ℕ)
optional_of s = pick (eqb (length s) 0) (Some None) (pick (eqb (length s) 2) (Some (Some (bitmap_of s))) None)

-- the command Reserve or Release with an Application ID of len octets: "1; 2 ports octet; from 3 on Application ID", and with Action 5 "then one octet Serialization Format"
abbrev pub asking_with : List ℕ → ℕ → ℕ → ℕ → Option Body
asking_with t at a len =
    pick (eqb len 0) None
    (pick (eqb a 5)
    (pick (eqb (length t) (2 + len + 1)) (Some (B.Asking a (get_or t 1 0 / 16) (get_or t 1 0 % 16) (at + 2) len (get_or t (2 + len) 0 % 8))) None)
    (pick (eqb (length t) (2 + len)) (Some (B.Asking a (get_or t 1 0 / 16) (get_or t 1 0 % 16) (at + 2) len 0)) None))

unfoldable pub asking_of : List ℕ → ℕ → ℕ → Option Body
asking_of t at a = pick (ltb (length t) 2) None (asking_with t at a (application_length (drop 2 t)))

-- the response Reserve or Release: "1; 2 Status", with Action 5 "1; 2 Serialization Format; 3 Status"; "Status 4 to 255 reserved: malformed"
unfoldable pub answer_of : List ℕ → ℕ → Option Body
answer_of t a =
    pick (eqb a 5)
    (pick (eqb (length t) 3) (pick (ltb (get_or t 2 0) 4) (Some (B.Answer a (get_or t 1 0 % 8) (get_or t 2 0))) None) None)
    (pick (eqb (length t) 2) (pick (ltb (get_or t 1 0) 4) (Some (B.Answer a 0 (get_or t 1 0))) None) None)

-- the command Query: "1; optionally 2, 3 Requested port numbers"
abbrev pub query_by : ℕ → Option (Option ℕ) → Option Body
query_by a (Some ports) = Some (B.Query a ports)
query_by a None = None

unfoldable pub query_of : List ℕ → ℕ → Option Body
query_of t a = query_by a (optional_of (drop 1 t))

-- a body without a list
unfoldable pub no_list : Body → Managed
no_list b = record { body = b; list = replicate 15 no_entry }

-- the same, where there is a body
abbrev pub lone : Option Body → Option Managed
lone (Some b) = Some (no_list b)
lone None = None

-- what follows the entries of a list: "nothing, or two octets Port numbers not available"
abbrev pub list_by : ℕ → ℕ → List Entry → Option (Option ℕ) → Option Managed
list_by a count l (Some ports) = Some (record { body = B.List a ports count; list = l })
list_by a count l None = None

abbrev pub list_after : List ℕ → ℕ → ℕ → Option Entries → Option Managed
list_after t at a (Some e) = list_by a (get_or t 0 0 / 16) e.list (optional_of (drop (e.end - at) t))
list_after t at a None = None

-- section 2, "List": octet 1 with Num Entries n; n entries, with Actions 6 and 7 each with its format
unfoldable pub list_of : List ℕ → ℕ → ℕ → Option Managed
list_of t at a = list_after t at a (walk_from (get_or t 0 0 / 16) 0 (ltb 5 a) (at + 1) (drop 1 t) (replicate 15 no_entry))

-- the body of an Action, by its form
abbrev pub managed_by : List ℕ → ℕ → ℕ → Option Form → Option Managed
managed_by t at a (Some F.Asking) = lone (asking_of t at a)
managed_by t at a (Some F.Answer) = lone (answer_of t a)
managed_by t at a (Some F.Query) = lone (query_of t a)
managed_by t at a (Some F.List) = list_of t at a
managed_by t at a None = None

-- section 2: "Octet 1: bits 4 to 1 the Action"
unfoldable pub managed_of : List ℕ → ℕ → Bool → Option Managed
managed_of t at response = pick (eqb (length t) 0) None (managed_by t at (get_or t 0 0 % 16) (form_of (get_or t 0 0 % 16) response))
