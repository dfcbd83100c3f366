-- What `fold` gathers is a mark exactly where a key is k. Assumes nothing.
use Rattle.std.proofs.Common.{◌≡◌, ℕ, Bool, true, false, not, bit_or, eqb, get_or, refl, rules, eq-eqb, ne_eqb}
use mir.Val.{bool_byte}
use Rattle.std.proofs.lemmas.Iterator.{YieldsList-from_slice}
use Rattle.std.proofs.lemmas.Iterator.Consumers.{fold_from_yields_List}
use Rattle.base_lists.specs.Seq.{every, pick}
use Rattle.base_lists.proofs.Every.{marks_more}
use Rattle.base_lists.proofs.Ranges.{kept_by_items}
use Rattle.table_names_ok.specs.Names.{new_key}
use Rattle.table_names_ok.proofs.new_key.Goals as goal

mark : (b : Bool) → bool_byte b ≡ pick (not b) 0 1
mark true = refl
mark false = refl

pub returns-then-k-eq0 : goal.returns-then-k-eq0
unfolding new_key
returns-then-k-eq0 c = rw (eq-eqb _ _ c.if-k-eq0.true) refl

pub returns : goal.returns
unfolding new_key every
returns c =
    let k = c.args.k in
    let p = λ (j : ℕ). not (eqb (get_or c.args.keys.now j 0) k) in
    let h = λ (m x : ℕ). bit_or m (bool_byte (eqb x k)) in
    rw (ne_eqb _ _ c.if-k-eq0.false)
    (rw c.told-keys at (kept_by_items h (λ j m. eqb m 0 ≡ every p j) 0 c.args.keys.now 0 c.fold-marks.result (λ j m l e. marks_more p j m _ e (mark (eqb (get_or c.args.keys.now j 0) k)))
    (fold_from_yields_List _ h 0 _ c.fold-marks.ensures.ran (YieldsList-from_slice _ c.iter.ensures.rest) (λ a x b q k. (search rules, search rules)))
    refl))
