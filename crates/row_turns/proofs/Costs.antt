-- What a PDU costs: no more than an Invoke, and nothing with any data where it costs nothing without. Assumes nothing.
use Prim.Native.Nat.{ℕ, ◌+◌, ◌≤◌}
use native.Mathlib.Omega.{arith}
use mathlib.Core.Path.{◌≡◌, refl}
use mathlib.Core.Bool.{true}
use lib.Dec.{eqb}
use borrow.Author.Tests.{eqb-true}
use Rattle.row_columns.specs.declared.Send.{Send}
use Rattle.row_turns.specs.Turns.{cost_of}

pub cost_most : (send : Send) (len : ℕ) → cost_of send len ≤ 4 + len
cost_most Send.Nothing len = omega arith
cost_most (Send.Invoke again) len = omega arith
cost_most (Send.Tidok again) len = omega arith
cost_most (Send.LastAck again) len = omega arith
cost_most (Send.HoldOn again) len = omega arith
cost_most (Send.Tidve again) len = omega arith
cost_most (Send.Result again) len = omega arith
cost_most (Send.Abort kind reason) len = omega arith

pub costs_nothing : (send : Send) (len : ℕ) → eqb (cost_of send 0) 0 ≡ true → cost_of send len ≡ 0
costs_nothing Send.Nothing len e = refl
costs_nothing (Send.Invoke again) len e = absurd (omega (arith, eqb-true 4 0 e))
costs_nothing (Send.Tidok again) len e = absurd (omega (arith, eqb-true 3 0 e))
costs_nothing (Send.LastAck again) len e = refl
costs_nothing (Send.HoldOn again) len e = refl
costs_nothing (Send.Tidve again) len e = refl
costs_nothing (Send.Result again) len e = refl
costs_nothing (Send.Abort kind reason) len e = refl
