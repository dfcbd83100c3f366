-- Each turn passes one place more.
use mathlib.Core.Path.{◌≡◌}
use mathlib.Core.Bool.{true}
use Prim.Native.Nat.{◌≤◌}
use Rattle.base_lists.specs.Seq.{every}
use Rattle.rds_book.specs.Book.{place_ok}
use Rattle.rds_book.proofs.places_ok.Given as goal

abbrev pub invariant-loop-p : goal.invariant-loop-p
invariant-loop-p l = (l.p ≤ 16) × (every (place_ok l.book) l.p ≡ true)
