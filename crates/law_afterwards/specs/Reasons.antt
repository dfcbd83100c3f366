-- The type and reason of an abort that a call shows (01, "Numbers given back").
use Rattle.std.specs.Prelude.{ℕ, ◌≡◌, ◌⊎◌}
use Rattle.codec_pdu.specs.declared.Kind.TheVariants as Kind
use Rattle.codec_reading.specs.Read.{pdu_of}
use Rattle.step_shown.specs.declared.Shown.{Shown}
use Rattle.step_plan.specs.declared.Step.{Step}
use Rattle.step_outcome.specs.Carry.{Lent}
use Rattle.law_rows_done.specs.Leaves.{reason_sent}

-- what a step shows, first or second
abbrev pub Shows : Step → Shown → Type 0
Shows step shown = (step.first ≡ shown) ⊎ (step.second ≡ shown)

-- "those received": the Abort that was lent
abbrev pub ReceivedSo : Lent → (kind reason : ℕ) → Type 0
ReceivedSo l kind reason = (pdu_of l.given).kind ≡ Kind.Abort kind reason

-- "else provider with the reason sent, or 8 if none is sent"
abbrev pub SentSo : Step → (kind reason : ℕ) → Type 0
SentSo step kind reason = (kind ≡ 0) × (reason ≡ reason_sent step.send)
