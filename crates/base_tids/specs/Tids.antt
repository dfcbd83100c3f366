-- The TID of a received PDU (01, "Bytes on the air").
use Rattle.std.specs.Prelude.{ℕ, ◌+◌, ◌*◌}
use Rattle.base_tids.specs.declared.RcvTid.{RcvTid}

-- 01: "then the TID, high octet first"
abbrev pub received_tid : ℕ → ℕ → RcvTid
received_tid high low = record { 0 = high * 256 + low }
