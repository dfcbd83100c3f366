-- The four octets before an Application ID, the Application ID and what follows it, joined. Assumes nothing.
use mathlib.Core.Path.{◌≡◌}
use mathlib.Core.List.{List, [], ◌∷◌, ◌++◌}
use Prim.Native.Nat.{ℕ, ◌+◌}
use native.Mathlib.Omega.{arith}
use lib.ListN.{length, length-append}
use Rattle.base_lists.specs.Seq.{put}
use Rattle.rds_book.proofs.Written.{three_stores}

module _ (t w p f n : ℕ) (app z : List ℕ) (e : length app ≡ n) where
  pub sent_stored : (o : List ℕ) → put (put (put o 0 (t ∷ w ∷ p ∷ f ∷ [])) 4 app) (4 + n) z ≡ put o 0 (t ∷ w ∷ p ∷ f ∷ (app ++ z))
  sent_stored o = rw (← e) (three_stores o 0 t w p f app z)

  pub sent_length : 4 + n + length z ≡ length (t ∷ w ∷ p ∷ f ∷ (app ++ z))
  sent_length = omega (arith, e, length-append app z)
