-- A frame with its spare bits cleared, and those alone (RDS.md, section 9, promise 4; the spare bits are X and "Reserved" of sections 1 and 2).
use Rattle.std.specs.Prelude.{ℕ, zero, suc, ◌+◌, ◌*◌, ◌/◌, ◌%◌, List, [], ◌∷◌, ◌++◌, map, Bool, true, false, get_or, take, drop, ltb, eqb, Option, Some, None}
use Rattle.base_lists.specs.Seq.{pick}
use Rattle.rds_frame.specs.declared.Kind.{Kind}
use Rattle.rds_frame.specs.declared.Kind.TheVariants as K
use Rattle.rds_frame.specs.declared.Head.{Head}
use Rattle.rds_frame.specs.Frame.{head_of}
use Rattle.rds_entries.specs.Entries.{application_length}
use Rattle.rds_cleared.specs.Cleared.{cleared_head}
use Rattle.rds_body.specs.declared.Form.{Form}
use Rattle.rds_body.specs.declared.Form.TheVariants as F
use Rattle.rds_body.specs.Body.{form_of}

-- section 2: of a Serialization Format bits 8 to 4 are spare
abbrev pub cleared_formats : List ℕ → List ℕ
cleared_formats t = map (λ x. x % 8) t

-- section 2: of a bitmap of ports bit 1 of octet 1 is spare
unfoldable pub cleared_ports : List ℕ → List ℕ
cleared_ports [] = []
cleared_ports (x ∷ t) = x / 2 * 2 ∷ t

-- how long the Application ID is that follows the first octet
abbrev pub application_after : List ℕ → ℕ
application_after t = application_length (drop 1 t)

-- n entries, each with a format where `formats` is on, and then what may follow them
unfoldable pub cleared_entries : ℕ → Bool → List ℕ → List ℕ
cleared_entries zero formats t = cleared_ports t
cleared_entries (suc n) true t = take (1 + application_after t) t ++ (get_or t (1 + application_after t) 0 % 8 ∷ cleared_entries n true (drop (1 + application_after t + 1) t))
cleared_entries (suc n) false t = take (1 + application_after t) t ++ cleared_entries n false (drop (1 + application_after t) t)

-- section 2: bits 8 to 5 of octet 1 are spare but in a list; what follows an Application ID is a format, as is octet 2 of the response 5
unfoldable pub cleared_form : ℕ → Form → List ℕ → List ℕ
cleared_form a F.Asking t = get_or t 0 0 % 16 ∷ (take (1 + application_length (drop 2 t)) (drop 1 t) ++ cleared_formats (drop (2 + application_length (drop 2 t)) t))
cleared_form a F.Answer t = get_or t 0 0 % 16 ∷ pick (eqb a 5) (get_or t 1 0 % 8 ∷ drop 2 t) (drop 1 t)
cleared_form a F.Query t = get_or t 0 0 % 16 ∷ cleared_ports (drop 1 t)
cleared_form a F.List t = get_or t 0 0 ∷ cleared_entries (get_or t 0 0 / 16) (ltb 5 a) (drop 1 t)

abbrev pub cleared_by : ℕ → Option Form → List ℕ → List ℕ
cleared_by a (Some form) t = cleared_form a form t
cleared_by a None t = t

abbrev pub cleared_manage : Bool → List ℕ → List ℕ
cleared_manage response t = cleared_by (get_or t 0 0 % 16) (form_of (get_or t 0 0 % 16) response) t

-- of the information fields that of MANAGE_PORT (M 10) alone has spare bits
unfoldable pub cleared_body : Kind → List ℕ → List ℕ
cleared_body (K.I a ns nr r) t = t
cleared_body (K.S a nr r) t = t
cleared_body (K.Ui nu) t = t
cleared_body (K.U m response) t = pick (eqb m 10) (cleared_manage response t) t

-- the frame s, whose header is h
abbrev pub cleared_after : Option Head → List ℕ → List ℕ
cleared_after (Some h) s = cleared_head h.kind (take h.end s) ++ cleared_body h.kind (drop h.end s)
cleared_after None s = s

-- the frame s
unfoldable pub cleared : List ℕ → Bool → List ℕ
cleared s network = cleared_after (head_of s network) s
