-- The deadline call (02, L3): "one tells the earliest deadline and its transaction, or none", "without changing anything": it takes no time, the words that it tells are all that it writes, and it is no entry of a history.
use Rattle.std.specs.Prelude.{ℕ, List, [], ◌∷◌, length, ltb, Option, Some, None}
use Rattle.base_layout.specs.Layout.{deadline_bound}
use Rattle.base_lists.specs.Seq.{pick, put}
use Rattle.base_numbers.specs.Numbers.{number_of}
use Rattle.base_numbers.specs.declared.Refusal.TheVariants.{WrongSize}
use Rattle.table_record.specs.Record.{role_of, role_number}
use Rattle.table_layout.specs.Table.{count, record_at}
use Rattle.table_finding.specs.Finding.{due_of}
use Rattle.table_well_formed.specs.WellFormed.{well_formed}

-- 01: "deadlines to the time bound plus 86,400,000": at that time each live record with a deadline is due, so that the due one is the earliest of all; crates/law_timer_in_two says it another way
unfoldable pub earliest_of : List ℕ → Option ℕ
earliest_of t = due_of t (count t) deadline_bound

-- the C interface: "1 or 0 (no record has a deadline: all five are 0), the earliest deadline, role, peer and TID of its record"
unfoldable pub due_words : List ℕ → Option ℕ → List ℕ
due_words t (Some i) = 1 ∷ (record_at t i).deadline ∷ role_number (role_of (record_at t i).state) ∷ (record_at t i).peer ∷ (record_at t i).tid ∷ []
due_words t None = 0 ∷ 0 ∷ 0 ∷ 0 ∷ 0 ∷ []

-- the C interface: "Refused with 1 alone: a table of the wrong size or not well formed, fewer than 5 words"
abbrev pub or_unfit {ℓ} : {A : Type ℓ} → List ℕ → List ℕ → A → A → A
or_unfit t due refused else = pick (ltb (length due) 5) refused (pick (well_formed t) else refused)

-- its result
unfoldable pub deadline_number : List ℕ → List ℕ → ℕ
deadline_number t due = or_unfit t due (number_of WrongSize) 0

-- the C interface: "needs 5 words and writes the first 5 .. `due` is all that it writes"
unfoldable pub due_after : List ℕ → List ℕ → List ℕ
due_after t due = or_unfit t due due (put due 0 (due_words t (earliest_of t)))
