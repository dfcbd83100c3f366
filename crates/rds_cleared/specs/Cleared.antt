-- A header with its spare bits cleared, and those alone (RDS.md, section 9, promise 4; the spare bits are X of section 1).
use Rattle.std.specs.Prelude.{ℕ, ◌+◌, ◌*◌, ◌/◌, ◌%◌, List, ◌∷◌, get_or, drop}
use Rattle.rds_frame.specs.declared.Kind.{Kind}
use Rattle.rds_frame.specs.declared.Kind.TheVariants as K

-- section 1: X in octet 1 is bit 5 of I and UI, bits 2 and 1 of S and U; in octet 2 of U bits 8 to 5
unfoldable pub cleared_head : Kind → List ℕ → List ℕ
cleared_head (K.I a ns nr r) s = (get_or s 0 0 / 32 * 32 + get_or s 0 0 % 16) ∷ drop 1 s
cleared_head (K.S a nr r) s = get_or s 0 0 / 4 * 4 ∷ drop 1 s
cleared_head (K.Ui nu) s = (get_or s 0 0 / 32 * 32 + get_or s 0 0 % 16) ∷ drop 1 s
cleared_head (K.U m response) s = get_or s 0 0 / 4 * 4 ∷ get_or s 1 0 % 16 ∷ drop 2 s
