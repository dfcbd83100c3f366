-- What tests must tell of document 01's conditions for the number to be exact.
use Rattle.std.specs.Prelude.{◌≡◌, List, [], ◌∷◌, true, false}
use Rattle.call_refusal.specs.Judging.{Test, Condition}

-- a test tells its condition, both ways, and both have one number
abbrev pub Tells : Test → Condition → Type 0
Tells t c = (t.number ≡ c.number) × (t.holds ≡ true → c.says) × (t.holds ≡ false → c.says → ⊥)

-- each test of a list tells the condition at its place in the other
abbrev pub AllTell : List Test → List Condition → Type 0
AllTell [] [] = Unit
AllTell [] (c ∷ cs) = ⊥
AllTell (t ∷ ts) [] = ⊥
AllTell (t ∷ ts) (c ∷ cs) = Tells t c × AllTell ts cs
