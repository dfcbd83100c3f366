-- What the engine takes of a PDU is all that its turn depends on. Assumes nothing.
use Prim.Native.Nat.{ℕ}
use mathlib.Core.Path.{◌≡◌}
use mathlib.Core.List.{List}
use Rattle.codec_items.specs.Info.{first_from, info_from}
use Rattle.codec_pdu.specs.Pdu.{info_of, unknown_of}
use Rattle.codec_pdu.specs.Brief.{brief_of, as_pdu}
use Rattle.codec_pdu.specs.declared.Brief.{Brief}
use Rattle.codec_pdu.specs.declared.Pdu.{Pdu}
use Rattle.table_record.specs.declared.Role.{Role}
use Rattle.step_arrivals.specs.Arrivals.{arrived_of}
use Rattle.call_receive.specs.Receives.{taken_call, user_part, taken_turn, kept_part, opened_call, opened_turn, arrival_opening, unmatched_turn}

module _ (t : List ℕ) (time : ℕ) (b : Brief) (p : Pdu) (e : b ≡ brief_of p) where
  pub taken_same : (place : ℕ) → taken_turn t place time (as_pdu b) b.unknown.identity ≡ taken_turn t place time p (unknown_of p).identity
  unfolding taken_turn taken_call user_part as_pdu brief_of info_of info_from first_from
  taken_same place = rw e

  pub unmatched_same : (role : Role) (peer tid : ℕ) (s : List ℕ) → unmatched_turn t role peer tid time s (as_pdu b) b.unknown.identity ≡ unmatched_turn t role peer tid time s p (unknown_of p).identity
  unfolding unmatched_turn opened_turn opened_call kept_part user_part arrival_opening arrived_of as_pdu brief_of
  unmatched_same role peer tid s = rw e
