-- What stores into a place of the book leave. Assumes nothing.
use mathlib.Core.Path.{◌≡◌, sym, ap, ◌∙◌}
use mathlib.Core.List.{List, [], ◌∷◌, ◌++◌}
use Prim.Native.Nat.{ℕ, ◌+◌, ◌-◌, ◌≤◌}
use native.Mathlib.Omega.{arith}
use lib.ListN.{length, take, drop, replicate, length-drop, length-replicate}
use lib.Seq.{take_all, take_at}
use Rattle.base_lists.specs.Seq.{put}
use Rattle.base_lists.proofs.StoresAndParts.{put_append, put_front}
use Rattle.rds_book.specs.Book.{app_most}

-- fields, Application ID and zeros, stored one after the other
pub three_stores : (b : List ℕ) (at t o p f : ℕ) (app z : List ℕ)
    → put (put (put b at (t ∷ o ∷ p ∷ f ∷ [])) (at + 4) app) (at + 4 + length app) z ≡ put b at (t ∷ o ∷ p ∷ f ∷ (app ++ z))
three_stores b at t o p f app z =
    sym (put_append (t ∷ o ∷ p ∷ f ∷ []) (app ++ z) b at ∙ put_append app z (put b at (t ∷ o ∷ p ∷ f ∷ [])) (at + 4))

-- an array of zeros
abbrev pub zeroed : List ℕ
zeroed = replicate app_most 0

-- zeros from place n on, lent as the rest of an array
pub rest_zero : (n : ℕ) → n ≤ app_most → take (app_most - n) (drop n zeroed) ≡ drop n zeroed
rest_zero n h = take_all (app_most - n) (drop n zeroed) (omega (arith, length-drop n zeroed, length-replicate {A = ℕ} app_most 0))

-- what is stored at the start of an array of zeros is its first octets
pub stored_front : (w : List ℕ) (n : ℕ) → length w ≡ n → n ≤ app_most → take n (put zeroed 0 w) ≡ w
stored_front w n e h = ap (take n) (put_front zeroed w (omega (arith, length-replicate {A = ℕ} app_most 0))) ∙ take_at w (drop (length w) zeroed) n e

pub stored_length : (w : List ℕ) (n : ℕ) → length w ≡ n → n ≤ app_most → length (take n (put zeroed 0 w)) ≡ n
stored_length w n e h = ap length (stored_front w n e h) ∙ e
