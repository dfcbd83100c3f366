-- Promise 8 (RDS.md, section 9), of one call: "A command from the peer is answered by exactly one frame, an ERROR command and a response by none."
use Rattle.std.specs.Prelude.{ℕ, ◌≤◌, ◌≡◌, Bool, true, false, List, get_or, eqb, Option, Some, None}
use Rattle.base_lists.specs.Seq.{pick}
use Rattle.rds_frame.specs.declared.Kind.{Kind}
use Rattle.rds_frame.specs.declared.Kind.TheVariants as K
use Rattle.rds_reading.specs.declared.Frame.{Frame}
use Rattle.rds_reading.specs.Read.{frame_of}
use Rattle.rds_receiving.specs.Receiving.{from_peer, receive_of}

-- a command that is no ERROR command (M 1)
abbrev pub is_command : Kind → Bool
is_command (K.I a ns nr r) = false
is_command (K.S a nr r) = false
is_command (K.Ui nu) = false
is_command (K.U m response) = pick response false (pick (eqb m 1) false true)

-- a frame that is read is such a command
abbrev pub commands : Option Frame → Bool
commands (Some f) = is_command f.head.kind
commands None = false

-- section 6, `rds_receive`, word 0: "length of the frame in OUT, 0 none"; a frame has two octets at least
pub record AnsweredFrame (b o a s : List ℕ) : Type 0 where
  pub one : (receive_of b o a s).number ≡ 0 → commands (frame_of s (from_peer b)) ≡ true → 2 ≤ get_or (receive_of b o a s).answer 0 0
  pub none : (receive_of b o a s).number ≡ 0 → commands (frame_of s (from_peer b)) ≡ false → get_or (receive_of b o a s).answer 0 0 ≡ 0
