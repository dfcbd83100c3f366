-- The distance of two TIDs is what has to be added to the one to come to the other, in integers and modulo 32,768. Assumes nothing.
use Rattle.std.proofs.Common.{◌≡◌, ℕ, ◌+◌, ◌-◌, ◌%◌, ◌<◌, ◌≤◌, arith}
use Rattle.table_tids.specs.Tids.{distance}

pub small : (tid last : ℕ) → distance tid last < 32768
unfolding distance
small tid last = omega arith

pub reaches : (tid last : ℕ) → (last + distance tid last) % 32768 ≡ tid % 32768
unfolding distance
reaches tid last = omega arith

-- and no other number below 32,768 does
pub unique : (tid last d : ℕ) → d < 32768 → (last + d) % 32768 ≡ tid % 32768 → d ≡ distance tid last
unfolding distance
unique tid last d h e = omega arith

-- of TIDs of 15 bits
pub of_tids : (tid last : ℕ) → last ≤ 32768 → distance tid last ≡ (tid + 32768 - last) % 32768
unfolding distance
of_tids tid last h = omega arith

-- a wrapping subtraction and then a remainder give the distance
pub wraps : (r tid last : ℕ) → (r + last) % 65536 ≡ tid → r % 32768 ≡ distance tid last
wraps r tid last e =
    let m : (last + r % 32768) % 32768 ≡ tid % 32768 = omega arith in
    unique tid last (r % 32768) (omega arith) m
