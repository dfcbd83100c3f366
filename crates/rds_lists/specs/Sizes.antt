-- The sizes of a frame and of its words (RDS.md, sections 1 and 6).
use Rattle.std.specs.Prelude.{ℕ, cond, eqb, Option, Some, None}

-- section 1: "the information field: the rest, 0 to 1,520 octets (N201, 6.4.6)"
abbrev pub information_most : ℕ
information_most = 1520

-- a size that no information field has
abbrev pub too_long : ℕ
too_long = 1521

-- section 1: "So a frame has 1 to 1,523 octets"; section 6: `RDS_OUTPUT`
abbrev pub frame_most : ℕ
frame_most = 1523

-- a length that a definition tells as 0 where there is none
abbrev pub nonzero : ℕ → Option ℕ
nonzero n = cond (eqb n 0) None (Some n)

-- section 6: `RDS_FIELDS` is 100 words, `RDS_PART` 8, `RDS_ANSWER` 16 at least
abbrev pub fields_least : ℕ
fields_least = 100

abbrev pub part_least : ℕ
part_least = 8

abbrev pub answer_least : ℕ
answer_least = 16
