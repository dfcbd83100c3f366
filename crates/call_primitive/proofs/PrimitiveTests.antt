-- What the tests of numbers 4 and 9 say of a primitive. Assumes nothing.
use Prim.Native.Nat.{ℕ, ◌≤◌, ◌<◌}
use native.Mathlib.Omega.{arith}
use borrow.Author.Tests.{ltb-true, ltb-false, eqb-true, eq-eqb}
use mathlib.Core.Path.{◌≡◌, refl, sym, ap, ◌∙◌}
use mathlib.Core.List.{List}
use mathlib.Core.Bool.{Bool, true, false}
use mathlib.Core.Logic.{◌⊎◌, inl, inr}
use lib.Dec.{ltb, eqb}
use Rattle.std.specs.Prelude.{Option, Some}
use Rattle.base_layout.specs.Layout.{exit_bound, cell_size}
use Rattle.base_lists.specs.Seq.{pick}
use Rattle.base_lists.proofs.StoresAndParts.{true_false, both, both_fst, both_snd}
use Rattle.table_record.specs.Record.{role_of, class_of}
use Rattle.table_record.specs.declared.Role.{Role}
use Rattle.table_record.specs.declared.Role.TheVariants.{Initiator, Responder}
use Rattle.table_layout.specs.Table.{record_at}
use Rattle.row_events.specs.declared.Row.{Row}
use Rattle.row_events.specs.Events.{same_row_is}
use Rattle.row_events.proofs.Finite.{same_row}
use Rattle.call_primitive.specs.Primitives.{is_responder, exit_refused, too_much_is, refuses_row}
use Rattle.call_primitive.specs.declared.Primitive.{Primitive}

is_responder_holds : (a : Role) → is_responder a ≡ true → a ≡ Responder
is_responder_holds Initiator e = true_false (sym e)
is_responder_holds Responder e = refl

module _ (t : List ℕ) (i : ℕ) where
  pub exit_refused_holds : exit_refused t (Some i) ≡ true → (class_of (record_at t i).state ≡ 2) × (role_of (record_at t i).state ≡ Responder)
  unfolding exit_refused
  exit_refused_holds e =
      let class = eqb (class_of (record_at t i).state) 2 in
      let role = is_responder (role_of (record_at t i).state) in
      (eqb-true (class_of (record_at t i).state) 2 (both_fst class role e), is_responder_holds (role_of (record_at t i).state) (both_snd class role e))

  pub exit_not_refused : exit_refused t (Some i) ≡ false → class_of (record_at t i).state ≡ 2 → role_of (record_at t i).state ≡ Responder → ⊥
  unfolding exit_refused
  exit_not_refused e class role =
      true_false (sym (both (eqb (class_of (record_at t i).state) 2) (is_responder (role_of (record_at t i).state)) (eq-eqb (class_of (record_at t i).state) 2 class) (ap is_responder role)) ∙ e)

module _ (t : List ℕ) (p : Primitive) (found : Option ℕ) where
  abbrev pub TooMuchBy : Type 0
  TooMuchBy = (cell_size < p.len) ⊎ (exit_bound < p.exit_len) ⊎ ((1 ≤ p.exit_len) × (exit_refused t found ≡ true))

  pub record NotTooMuch : Type 0 where
    pub message : p.len ≤ cell_size
    pub exit : p.exit_len ≤ exit_bound
    pub allowed : 1 ≤ p.exit_len → exit_refused t found ≡ false

  pub too_much : too_much_is t p found ≡ true → TooMuchBy
  unfolding too_much_is
  too_much h = go (ltb cell_size p.len) (ltb exit_bound p.exit_len) (ltb 0 p.exit_len) refl refl refl h
    where
      go : (a b c : Bool) → ltb cell_size p.len ≡ a → ltb exit_bound p.exit_len ≡ b → ltb 0 p.exit_len ≡ c → pick a true (pick b true (pick c (exit_refused t found) false)) ≡ true → TooMuchBy
      go true b c e f g h = inl (ltb-true cell_size p.len e)
      go false true c e f g h = inr (inl (ltb-true exit_bound p.exit_len f))
      go false false true e f g h = inr (inr (ltb-true 0 p.exit_len g, h))
      go false false false e f g h = true_false (sym h)

  pub not_too_much : too_much_is t p found ≡ false → NotTooMuch
  unfolding too_much_is
  not_too_much h = go (ltb cell_size p.len) (ltb exit_bound p.exit_len) (ltb 0 p.exit_len) refl refl refl h
    where
      go : (a b c : Bool) → ltb cell_size p.len ≡ a → ltb exit_bound p.exit_len ≡ b → ltb 0 p.exit_len ≡ c → pick a true (pick b true (pick c (exit_refused t found) false)) ≡ false → NotTooMuch
      go true b c e f g h = true_false h
      go false true c e f g h = true_false h
      go false false true e f g h = record { message = ltb-false cell_size p.len e; exit = ltb-false exit_bound p.exit_len f; allowed = λ some. h }
      go false false false e f g h = record { message = ltb-false cell_size p.len e; exit = ltb-false exit_bound p.exit_len f; allowed = λ some. absurd (omega (arith, some, ltb-false 0 p.exit_len g)) }

module _ (row : Row) where
  pub row_refuses : refuses_row row ≡ true → row ≡ Row.NotAllowed
  unfolding refuses_row
  row_refuses e = same_row row Row.NotAllowed e

  pub row_allows : refuses_row row ≡ false → row ≡ Row.NotAllowed → ⊥
  unfolding refuses_row
  row_allows e q = true_false (ap (λ (x : Row). same_row_is x Row.NotAllowed) (sym q) ∙ e)
