-- Reading a frame (RDS.md, sections 1 to 3; TS 24.250, clause 5).
use Rattle.std.specs.Prelude.{ℕ, ◌-◌, List, Bool, length, drop, leb, eqb, Option, Some, None}
use Rattle.rds_lists.specs.Sizes.{information_most}
use Rattle.base_lists.specs.Seq.{pick}
use Rattle.rds_frame.specs.declared.Kind.{Kind}
use Rattle.rds_frame.specs.declared.Kind.TheVariants as K
use Rattle.rds_frame.specs.declared.Head.{Head}
use Rattle.rds_frame.specs.Frame.{head_of}
use Rattle.rds_parameters.specs.Parameters.{items_from}
use Rattle.rds_body.specs.declared.Body.{Body}
use Rattle.rds_body.specs.declared.Body.TheVariants.{Empty, Information}
use Rattle.rds_body.specs.declared.Managed.{Managed}
use Rattle.rds_body.specs.Body.{no_list, lone, managed_of}
use Rattle.rds_reading.specs.declared.Frame.{Frame}

-- section 3, 6 and 8: S, ERROR and DISCONNECT have no information after their header of `at` octets
unfoldable pub empty_of : ℕ → ℕ → Option Body
empty_of n at = pick (eqb n at) (Some Empty) None

-- the information of I, UI, SET_ACK_MODE and ACCEPT: "any, not looked at"
abbrev pub information_of : List ℕ → ℕ → Body
information_of s at = Information at (length s - at)

-- SET_PARAMETERS: "items to the end, perhaps none", at most as many as there are octets
unfoldable pub items_of : List ℕ → ℕ → Option Body
items_of s at = pick (items_from (length s - at) (drop at s)) (Some (information_of s at)) None

-- MANAGE_PORT: "section 2; ADS is 0"
unfoldable pub manage_of : List ℕ → ℕ → Bool → Bool → Option Managed
manage_of s at ads response = pick ads None (managed_of (drop at s) at response)

-- section 1, "M4..M1": the information of a U frame that the table has
unfoldable pub u_body : List ℕ → ℕ → Bool → ℕ → Bool → Option Managed
u_body s at ads m response =
    pick (eqb m 1) (lone (empty_of (length s) at))
    (pick (eqb m 4) (lone (empty_of (length s) at))
    (pick (eqb m 10) (manage_of s at ads response)
    (pick (eqb m 11) (lone (items_of s at))
    (Some (no_list (information_of s at))))))

-- section 1, "Information": by the kind of the frame
unfoldable pub body_by : List ℕ → ℕ → Bool → Kind → Option Managed
body_by s at ads (K.I a ns nr r) = Some (no_list (information_of s at))
body_by s at ads (K.S a nr r) = lone (empty_of (length s) at)
body_by s at ads (K.Ui nu) = Some (no_list (information_of s at))
body_by s at ads (K.U m response) = u_body s at ads m response

-- section 1: "the information field: the rest, 0 to 1,520 octets (N201, 6.4.6)"
unfoldable pub body_after : List ℕ → Head → Option Managed
body_after s h = pick (leb (length s - h.end) information_most) (body_by s h.end h.ads h.kind) None

-- a header and what follows it
abbrev pub framed : Head → Option Managed → Option Frame
framed h (Some m) = Some (record { head = h; body = m.body; list = m.list })
framed h None = None

abbrev pub frame_by : List ℕ → Option Head → Option Frame
frame_by s (Some h) = framed h (body_after s h)
frame_by s None = None

-- the frame that s holds, sent by the network or by the UE; none where it is malformed
unfoldable pub frame_of : List ℕ → Bool → Option Frame
frame_of s network = frame_by s (head_of s network)
