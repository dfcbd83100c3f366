-- Two functions of a row, or of an opening, whose values are the same one after another are the same at each. Assumes nothing.
use Prim.Native.Nat.{ℕ, ◌<◌}
use native.Mathlib.Nat.{zero-add}
use mathlib.Core.Path.{◌≡◌, refl, sym, ap, ◌∙◌}
use mathlib.Core.List.{List}
use lib.ListN.{get_or}
use lib.Dec.{ltb}
use borrow.Author.Tests.{ltb-true}
use Rattle.base_lists.specs.Seq.{every, tab}
use Rattle.base_lists.proofs.StoresAndParts.{get_tab}
use Rattle.row_events.specs.Events.{row_number, row_numbered, same_row_is, opening_number, opening_numbered, same_opening}
use Rattle.row_events.specs.declared.Row.{Row}
use Rattle.row_events.specs.declared.Opening.{Opening}
use Rattle.row_events.proofs.Finite.{at_row, same_row, at_opening, same_opening_holds}

-- the values of a function at each number below n
abbrev pub column : {A : Type 0} → (ℕ → A) → ℕ → List A
column f n = tab f n 0

-- the same columns, the same at each number
at_number : {A : Type 0} (f g : ℕ → A) (n : ℕ) → column f n ≡ column g n → (k : ℕ) → k < n → f k ≡ g k
at_number f g n e k h = rw (zero-add k) at (sym (get_tab f n 0 k (f 0) h) ∙ ap (λ l. get_or l k (f 0)) e ∙ get_tab g n 0 k (f 0) h)

pub at_each_row : {A : Type 0} (f g : Row → A) → column (λ k. f (row_numbered k)) 36 ≡ column (λ k. g (row_numbered k)) 36 → (x : Row) → f x ≡ g x
unfolding every
at_each_row f g e x =
    let known : row_numbered (row_number x) ≡ x = same_row (row_numbered (row_number x)) x (at_row (λ y. same_row_is (row_numbered (row_number y)) y) refl x) in
    let small : row_number x < 36 = ltb-true (row_number x) 36 (at_row (λ y. ltb (row_number y) 36) refl x) in
    ap f (sym known) ∙ at_number (λ k. f (row_numbered k)) (λ k. g (row_numbered k)) 36 e (row_number x) small ∙ ap g known

pub at_each_opening : {A : Type 0} (f g : Opening → A) → column (λ k. f (opening_numbered k)) 16 ≡ column (λ k. g (opening_numbered k)) 16 → (x : Opening) → f x ≡ g x
unfolding every
at_each_opening f g e x =
    let known : opening_numbered (opening_number x) ≡ x = same_opening_holds (opening_numbered (opening_number x)) x (at_opening (λ y. same_opening (opening_numbered (opening_number y)) y) refl x) in
    let small : opening_number x < 16 = ltb-true (opening_number x) 16 (at_opening (λ y. ltb (opening_number y) 16) refl x) in
    ap f (sym known) ∙ at_number (λ k. f (opening_numbered k)) (λ k. g (opening_numbered k)) 16 e (opening_number x) small ∙ ap g known
