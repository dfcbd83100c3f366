-- The largest is in range exactly where every one is. Assumes nothing.
use Rattle.std.proofs.Common.{◌≡◌, ℕ, ◌+◌, true, false, ◌⊎◌, inl, inr, max, leb, refl, ◌∙◌, rules, arith, leb-true, leb-false, le-leb}
use Rattle.std.proofs.lemmas.Bool.{lt-leb}
use native.Mathlib.Numerals.{add-one}
use Rattle.std.proofs.lemmas.Iterator.{YieldsList-from_range}
use Rattle.std.proofs.lemmas.Iterator.Consumers.{fold_from_yields_List}
use Rattle.base_layout.specs.Layout.{cached_bound, peers}
use Rattle.base_lists.specs.Seq.{every, pick}
use Rattle.base_lists.proofs.StoresAndParts.{told}
use Rattle.base_lists.proofs.Ranges.{kept_by_fold}
use Rattle.table_layout.specs.Table.{cached_of}
use Rattle.table_header_ok.proofs.cached_ok.Goals as goal

-- the larger of two is in range exactly where both are
both : (m c b : ℕ) → leb (max m c) b ≡ pick (leb c b) (leb m b) false
both m c b = go (told (leb c b)) (told (leb m b)) where
  go : (leb c b ≡ true) ⊎ (leb c b ≡ false) → (leb m b ≡ true) ⊎ (leb m b ≡ false) → leb (max m c) b ≡ pick (leb c b) (leb m b) false
  go (inl e) (inl f) = rw (e, f) (le-leb (max m c) b (omega (arith, leb-true c b e, leb-true m b f)))
  go (inl e) (inr f) = rw (e, f) (lt-leb (max m c) b (omega (arith, leb-false m b f)))
  go (inr e) f = rw e (lt-leb (max m c) b (omega (arith, leb-false c b e)))

one_more : (cached : ℕ → ℕ) (b n m : ℕ) → leb m b ≡ every (λ p. leb (cached p) b) n → leb (max m (cached n)) b ≡ every (λ p. leb (cached p) b) (n + 1)
unfolding every
one_more cached b n m e = both m (cached n) b ∙ rw (add-one, e) refl

pub returns : goal.returns
unfolding every
returns c =
    let p = λ (peer : ℕ). cached_of c.args.t.now peer in
    let h = λ (m peer : ℕ). max m (p peer) in
    kept_by_fold h (λ n m. leb m cached_bound ≡ every (λ k. leb (p k) cached_bound) n) (one_more p cached_bound) peers 0 _
    (fold_from_yields_List _ h 0 _ c.fold.ensures.ran (YieldsList-from_range _ _ _ refl refl) (λ a x b q k. (search rules, search rules)))
    refl
