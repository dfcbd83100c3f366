-- An indication is shown as its own kind, and the kind's word tells the kind, so that an abort is never shown as a result. Assumes nothing.
use Prim.Native.Nat.{ℕ}
use mathlib.Core.Path.{◌≡◌, refl, ap, sym, ◌∙◌}
use native.Mathlib.Omega.{arith}
use lib.ListN.{get_or}
use lib.Dec.{eqb}
use Rattle.base_lists.specs.Seq.{pick}
use Rattle.table_record.specs.declared.Role.{Role}
use Rattle.row_columns.specs.declared.Indication.{Indication}
use Rattle.row_columns.specs.declared.Indication.TheVariants as Indication
use Rattle.step_shown.specs.declared.Place.{Place}
use Rattle.step_shown.specs.declared.Shown.{Shown}
use Rattle.step_shown.specs.declared.Shown.TheVariants.{Nothing, Invoke, Confirm, Result, Abort}
use Rattle.step_shown.specs.declared.Context.{Context}
use Rattle.step_shown.specs.Shows.{shown_of, place_of}
use Rattle.step_shown.specs.Words.{front_words, own_words, shown_words}
use Rattle.step_shown.specs.Kinds.{by_kind, by_indication}

module _ {ℓ} {A : Type ℓ} (none invoke confirm result abort : A) where
  -- an indication is shown as its own kind: an abort as an abort, a result as a result
  pub kind_kept : (i : Indication) (c : Context) → by_kind none invoke confirm result abort (shown_of i c) ≡ by_indication none invoke confirm result abort i
  unfolding shown_of
  kind_kept Indication.Nothing c = refl
  kind_kept (Indication.Invoke verified) c = refl
  kind_kept (Indication.Confirm acked) c = refl
  kind_kept Indication.Result c = refl
  kind_kept (Indication.Abort type reason) c = refl

-- nothing is 0, an Invoke 1, a confirmation 2, a result 3, an abort 4
pub kind_word : (s : Shown) → get_or (shown_words s) 0 0 ≡ by_kind 0 1 2 3 4 s
unfolding front_words own_words place_of shown_words
kind_word Nothing = refl
kind_word (Invoke peer tid class up place) = refl
kind_word (Confirm role peer tid place) = refl
kind_word (Result peer tid place) = refl
kind_word (Abort role peer tid type reason) = refl

module _ {ℓ} {A : Type ℓ} (none invoke confirm result abort : A) where
  abbrev numbered : ℕ → A
  numbered k = pick (eqb k 0) none (pick (eqb k 1) invoke (pick (eqb k 2) confirm (pick (eqb k 3) result abort)))

  by_number : (s : Shown) → numbered (by_kind 0 1 2 3 4 s) ≡ by_kind none invoke confirm result abort s
  by_number Nothing = refl
  by_number (Invoke peer tid class up place) = refl
  by_number (Confirm role peer tid place) = refl
  by_number (Result peer tid place) = refl
  by_number (Abort role peer tid type reason) = refl

  -- the same word 0 only for the same kind
  pub same_word_same_kind : (s t : Shown) → get_or (shown_words s) 0 0 ≡ get_or (shown_words t) 0 0
      → by_kind none invoke confirm result abort s ≡ by_kind none invoke confirm result abort t
  same_word_same_kind s t e =
      sym (by_number s) ∙ (ap numbered (sym (kind_word s) ∙ (e ∙ kind_word t)) ∙ by_number t)

-- an abort's words are no result's, with data or without
pub abort_no_result : (role : Role) (peer tid type reason peer' tid' : ℕ) (place : Place) → shown_words (Abort role peer tid type reason) ≡ shown_words (Result peer' tid' place) → ⊥
abort_no_result role peer tid type reason peer' tid' place e =
    let k : ◌≡◌ {A = ℕ} 1 0 = same_word_same_kind 0 0 0 0 1 (Abort role peer tid type reason) (Result peer' tid' place) (ap (λ w. get_or w 0 0) e) in
    omega arith

-- "A Result with no data is a true result": a result's kind, the place where its data would start, and the length 0
pub empty_result : (c : Context) → c.user.len ≡ 0
    → (get_or (shown_words (shown_of Indication.Result c)) 0 0 ≡ 3)
    × (place_of (shown_of Indication.Result c) ≡ c.user)
    × (get_or (shown_words (shown_of Indication.Result c)) 10 0 ≡ 0)
unfolding shown_of front_words own_words place_of shown_words
empty_result c e = (refl, refl, e)
