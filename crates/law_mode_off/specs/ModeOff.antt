-- The mode off (02, L6: "our own mode, off or on in the settings"): every answer is as before.
use Rattle.std.specs.Prelude.{ℕ, ◌<◌, ◌≡◌, List}
use Rattle.table_layout.specs.Table.{count, settings_of, record_at}
use Rattle.table_record_ok.specs.OneRecord.{Live}
use Rattle.law_history.specs.Trace.{Entry, Throughout}
use Rattle.law_mode_off.specs.BaseCalls.{base_promised}

-- docs/TABLE.md: the waiting limit of the settings is 0, and no live record has one in force
pub record ModeOff (t : List ℕ) : Type 0 where
  pub settings : (settings_of t).limit ≡ 0
  pub records : (i : ℕ) → i < count t → Live (record_at t i) → (record_at t i).limit ≡ 0

-- 02, L6, with the mode off: a call gave and left what the base's engine gives and leaves, lent the same
abbrev pub AsBefore : Entry → List Entry → Type 0
AsBefore e h = e.done ≡ base_promised e.call e.lent

-- 02, L6, with the mode off: after any calls it is still off, and each of them was as before
pub record StaysOff (t : List ℕ) (h : List Entry) : Type 0 where
  pub off : ModeOff t
  pub as_before : Throughout AsBefore h
