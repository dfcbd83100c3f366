-- Promise 10 (RDS.md, section 9): a refused call leaves book, output and answer as they were.
use Rattle.std.specs.Prelude.{ℕ, ◌≡◌, List, ◌⊎◌}
use Rattle.rds_lent.specs.Left.{Left, left}

-- the call was accepted, or nothing but its number tells of it
abbrev pub Refusing : Left → List ℕ → List ℕ → List ℕ → Type 0
Refusing x b o a = (x.number ≡ 0) ⊎ (x ≡ left x.number b o a)

-- the same of a call that lends the book alone
abbrev pub RefusingBook : ℕ → List ℕ → List ℕ → Type 0
RefusingBook number after b = (number ≡ 0) ⊎ (after ≡ b)
