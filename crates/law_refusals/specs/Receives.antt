-- When a received PDU is refused, as document 01's table of numbers says it.
use Rattle.std.specs.Prelude.{ℕ, ◌≤◌, ◌<◌, ◌≡◌, List, [], ◌∷◌, ◌⊎◌}
use Rattle.base_layout.specs.Layout.{peers, datagram_bound}
use Rattle.base_numbers.specs.declared.Refusal.TheVariants.{PeerTooLarge, WrongLength}
use Rattle.call_refusal.specs.Judging.{Condition, condition, Unfit, Late}

-- 11: "datagram or PDU length outside 1 to 1,500"
abbrev pub OutsideLength : ℕ → Type 0
OutsideLength len = (len ≡ 0) ⊎ (datagram_bound < len)

-- numbers 1, 2, 3 and 11
abbrev pub receive_conditions : List ℕ → ℕ → ℕ → ℕ → ℕ → ℕ → List Condition
receive_conditions t store output time peer len =
    Unfit t store output
    ∷ Late t time
    ∷ condition PeerTooLarge (peers ≤ peer)
    ∷ condition WrongLength (OutsideLength len)
    ∷ []
