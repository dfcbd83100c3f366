-- The fields of header and record lie one after the other and fill them, and the bounds come from where document 01 has them. Assumes nothing.
use mathlib.Core.Path.{refl}
use Rattle.law_layout.specs.Sums.{HeaderAdds, RecordAdds, BoundsFrom}

pub header_adds : HeaderAdds
header_adds = record { gen_tid = refl; rcr_max = refl; aec_max = refl; a = refl; w = refl; row_1 = refl; row_2 = refl; limit = refl; modes = refl; tidnew_due = refl; spare = refl; cached = refl; whole = refl }

pub record_adds : RecordAdds
record_adds = record { peer = refl; tid = refl; rcr = refl; aec = refl; flags = refl; exit_len = refl; deadline = refl; len = refl; limit = refl; unknown = refl; sent = refl; spare = refl; exit = refl; whole = refl }

pub bounds_from : BoundsFrom
bounds_from = record { interval = refl; time = refl; deadline = refl; tids = refl; last_tid = refl; cached = refl; peer = refl; octet = refl; output = refl; states = refl; flags = refl }
