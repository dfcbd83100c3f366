-- The header of a frame (RDS.md, section 1; TS 24.250, 5.2 to 5.4). Bits are counted 8 to 1; bit k of an octet has the weight 2^(k - 1).
use Rattle.std.specs.Prelude.{ℕ, ◌+◌, ◌/◌, ◌%◌, ◌≤◌, List, Bool, true, false, length, get_or, ltb, leb, eqb, Option, Some, None}
use Rattle.base_lists.specs.Seq.{pick}
use Rattle.rds_frame.specs.declared.Kind.{Kind}
use Rattle.rds_frame.specs.declared.Kind.TheVariants.{I, S, Ui, U}
use Rattle.rds_frame.specs.declared.Head.{Head}

-- the bit of weight w in an octet
abbrev pub flag : ℕ → ℕ → Bool
flag w x = eqb (x / w % 2) 1

-- section 1, "M4..M1": the commands are ERROR, DISCONNECT, SET_ACK_MODE, MANAGE_PORT, SET_PARAMETERS (5.4.1)
unfoldable pub commanded : ℕ → Bool
commanded m = pick (eqb m 1) true (pick (eqb m 4) true (pick (eqb m 7) true (pick (eqb m 10) true (pick (eqb m 11) true false))))

-- section 1, "M4..M1": the responses are ERROR, ACCEPT, MANAGE_PORT, SET_PARAMETERS (5.4.1)
unfoldable pub answered : ℕ → Bool
answered m = pick (eqb m 1) true (pick (eqb m 6) true (pick (eqb m 10) true (pick (eqb m 11) true false)))

-- 5.2.10: "a command has 0 from the UE and 1 from the network, a response the other value"
unfoldable pub responds : Bool → Bool → Bool
responds cr network = pick network (pick cr false true) cr

-- section 3, 7: a U frame whose M and direction are not in the table is malformed
unfoldable pub u_kind : ℕ → Bool → Option Kind
u_kind m response =
    pick response (pick (answered m) (Some (U m true)) None)
    (pick (commanded m) (Some (U m false)) None)

-- 5.4.1: S1 S2 are 1 1 (SACK) in every I and S frame
abbrev pub sacked : ℕ → Bool
sacked c = eqb (c % 4) 3

-- octets 1 and 2 of an I frame (5.2.6): PD, 0, A, X, ADS, N(S); N(R), R1 to R3, S1, S2
abbrev pub i_kind : ℕ → ℕ → Option Kind
i_kind b c = pick (sacked c) (Some (I (flag 32 b) (b % 8) (c / 32) (c / 4 % 8))) None

-- octets 1 and 2 of an S frame (5.2.7): PD, 1, 1, 0, ADS, A, X, X; octet 2 as of an I frame
abbrev pub s_kind : ℕ → ℕ → Option Kind
s_kind b c = pick (sacked c) (Some (S (flag 4 b) (c / 32) (c / 4 % 8))) None

-- the I, S or U frame (5.2.9: PD, 1, 1, 1, ADS, C/R, X, X; X, X, X, X, M) with the first two octets b and c
unfoldable pub kind_of : ℕ → ℕ → Bool → Option Kind
kind_of b c network =
    pick (ltb b 64) (i_kind b c)
    (pick (eqb (b / 16 % 2) 0) (s_kind b c)
    (u_kind (c % 16) (responds (flag 4 b) network)))

-- 5.2.3 to 5.2.5: with ADS 1 the octet at `at` has Source Port and Destination Port, else there is none and both are told as 0
unfoldable pub ports_after : List ℕ → Kind → Bool → ℕ → Option Head
ports_after s k ads at =
    pick ads
    (pick (leb (length s) at) None
    (Some (record { kind = k; ads = true; source = get_or s at 0 / 16; destination = get_or s at 0 % 16; end = at + 1 })))
    (Some (record { kind = k; ads = false; source = 0; destination = 0; end = at }))

-- the header of an I, S or U frame, where its first two octets are of a kind
abbrev pub headed : List ℕ → Bool → Option Kind → Option Head
headed s ads (Some k) = ports_after s k ads 2
headed s ads None = None

-- the header: PD is 0 (5.2.2); a UI frame (5.2.8: PD, 1, 0, X, ADS, N(U)) has no second octet
unfoldable pub head_of : List ℕ → Bool → Option Head
head_of s network =
    pick (eqb (length s) 0) None
    (pick (leb 128 (get_or s 0 0)) None
    (pick (eqb (get_or s 0 0 / 32) 2) (ports_after s (Ui (get_or s 0 0 % 8)) (flag 8 (get_or s 0 0)) 1)
    (pick (ltb (length s) 2) None
    (headed s (flag 8 (get_or s 0 0)) (kind_of (get_or s 0 0) (get_or s 1 0) network)))))

-- at the end of the header the frame goes on or ends, and a header has at most three octets
abbrev pub Inside : List ℕ → Head → Type 0
Inside s h = (h.end ≤ length s) × (h.end ≤ 3)
