-- What an act sends and shows agrees with the state that it leads to: computed for every live state, event and condition, and for every opening. Assumes nothing.
use Prim.Native.Nat.{ℕ, ◌+◌}
use mathlib.Core.Path.{◌≡◌, refl}
use mathlib.Core.Bool.{Bool, true, false, beq}
use mathlib.Core.List.{List, [], ◌∷◌}
use borrow.Author.Tests.{le-leb}
use lib.Dec.{leb, eqb}
use Rattle.base_lists.specs.Seq.{pick, every}
use Rattle.table_record.specs.Record.{state_number, state_of}
use Rattle.table_record.specs.declared.State.{State}
use Rattle.table_record.specs.declared.State.TheVariants.{Free, IResultWait1, IResultWait2, IResultRespWait, IWaitTimeout, RTidokWait1, RTidokWait2, RInvokeRespWait1, RInvokeRespWait2, RResultWait, RResultRespWait, RWaitTimeout}
use Rattle.table_record.specs.declared.Record.{Record}
use Rattle.table_layout.specs.declared.Settings.{Settings}
use Rattle.table_ranges.specs.Ranges.{all_of}
use Rattle.table_ranges.proofs.Tests.{Each, each}
use Rattle.table_record_ok.specs.OneRecord.{Live}
use Rattle.row_events.specs.declared.Event.{Event}
use Rattle.row_events.specs.declared.Conditions.{Conditions}
use Rattle.row_events.specs.declared.Opening.{Opening}
use Rattle.row_events.proofs.Finite.{at_state, at_opening}
use Rattle.row_choice.specs.Rows.{row_of}
use Rattle.row_conditions.specs.Conditions.{mark_of, conditions_of}
use Rattle.row_columns.specs.Columns.{act_with, taken, acked, stored, shown}
use Rattle.row_columns.specs.declared.Next.{Next}
use Rattle.row_columns.specs.declared.Next.TheVariants.{Stays, Ends, Goes}
use Rattle.row_columns.specs.declared.Count.{Count}
use Rattle.row_columns.specs.declared.Act.{Act}
use Rattle.row_entries.specs.Acts.{act_of, opening_act}
use Rattle.row_turns.specs.Turns.{hold_on_after}
use Rattle.law_rows.specs.Shown.{act_at}
use Rattle.law_rows.proofs.Rows.{same_self}
use Rattle.law_counting.specs.Counting.{Counts, of_turn, counts_in}

-- what an act adds
abbrev pub added : Act → Counts
added a = of_turn a.send a.first a.second

-- whether RCR counts what a state has sent: Invoke and TIDok PDUs, or Result PDUs
abbrev pub asks : State → Bool
asks s = eqb (counts_in s 0 false).sends 1

abbrev pub answers : State → Bool
answers s = eqb (counts_in s 0 false).results_sent 1

-- whether the n PDUs that an act adds agree with what it does to RCR, between a state where RCR counts them and the next
abbrev pub agrees : Bool → Bool → Count → ℕ → Bool
agrees false false k n = eqb n 0
agrees true false k n = false
agrees false true Count.Same n = false
agrees false true Count.RcrZero n = eqb n 1
agrees false true Count.RcrUp n = false
agrees false true Count.AecZero n = false
agrees false true Count.AecUp n = false
agrees true true Count.Same n = eqb n 0
agrees true true Count.RcrZero n = false
agrees true true Count.RcrUp n = eqb n 1
agrees true true Count.AecZero n = eqb n 0
agrees true true Count.AecUp n = eqb n 0

-- the tests of an act that keeps its record, by the counts of its state and of the next at an RCR of 0; and of one that ends it
abbrev pub kept_tests : State → State → Counts → Counts → Act → List Bool
kept_tests s t c d a =
    leb 1 (state_number t)
    ∷ agrees (asks s) (asks t) a.count (added a).sends
    ∷ agrees (answers s) (answers t) a.count (added a).results_sent
    ∷ eqb (c.confirms + (added a).confirms) d.confirms
    ∷ eqb (c.results + (added a).results) d.results
    ∷ eqb (c.aborts + (added a).aborts) d.aborts
    ∷ eqb (c.shows + (added a).shows) d.shows
    ∷ []

abbrev pub end_tests : State → Counts → Act → List Bool
end_tests s c a =
    leb (added a).sends (pick (asks s) 0 1)
    ∷ leb (added a).results_sent (pick (answers s) 0 1)
    ∷ leb (c.confirms + (added a).confirms) 1
    ∷ leb (c.results + (added a).results) 1
    ∷ leb (c.aborts + (added a).aborts) 1
    ∷ leb (c.shows + (added a).shows) 1
    ∷ []

abbrev pub tests : Next → State → Bool → Act → List Bool
tests Stays s holdOn a = kept_tests s s (counts_in s 0 holdOn) (counts_in s 0 (hold_on_after a.mark holdOn)) a
tests Ends s holdOn a = end_tests s (counts_in s 0 holdOn) a
tests (Goes t) s holdOn a = kept_tests s t (counts_in s 0 holdOn) (counts_in t 0 (hold_on_after a.mark holdOn)) a

-- what an act sends and shows agrees with the state that it leads to
abbrev pub Agrees : State → Bool → Act → Type 0
Agrees s holdOn a = Each (tests a.next s holdOn a)

-- the mark that a row asks of is HoldOn in the initiator's RESULT WAIT of class 2
abbrev asks_hold_on : State → Bool → Bool → Bool
asks_hold_on s mark holdOn = pick (eqb (state_number s) (state_number IResultWait2)) (beq mark holdOn) true

own_mark : (s : State) (holdOn user_ack holdOnSent : Bool) → asks_hold_on s (mark_of s holdOn user_ack holdOnSent) holdOn ≡ true
own_mark Free holdOn user_ack holdOnSent = refl
own_mark IResultWait1 holdOn user_ack holdOnSent = refl
own_mark IResultWait2 holdOn user_ack holdOnSent = same_self holdOn
own_mark IResultRespWait holdOn user_ack holdOnSent = refl
own_mark IWaitTimeout holdOn user_ack holdOnSent = refl
own_mark RTidokWait1 holdOn user_ack holdOnSent = refl
own_mark RTidokWait2 holdOn user_ack holdOnSent = refl
own_mark RInvokeRespWait1 holdOn user_ack holdOnSent = refl
own_mark RInvokeRespWait2 holdOn user_ack holdOnSent = refl
own_mark RResultWait holdOn user_ack holdOnSent = refl
own_mark RResultRespWait holdOn user_ack holdOnSent = refl
own_mark RWaitTimeout holdOn user_ack holdOnSent = refl

module _ (kind reason : ℕ) where
  -- of a live state, where the mark is the one that the record has
  tested : Bool → Bool → State → Event → Conditions → Bool
  tested tidok holdOn s e c =
      pick (leb 1 (state_number s)) (pick (asks_hold_on s c.mark holdOn) (let a = act_at s e c tidok kind reason in all_of (tests a.next s holdOn a)) true) true

  all_tested : (tidok holdOn : Bool) (s : State) (e : Event) (c : Conditions) → tested tidok holdOn s e c ≡ true
  unfolding tested every state_of row_of act_of act_with taken acked stored shown
  all_tested true true s e c = at_state (tested true true) refl s e c
  all_tested true false s e c = at_state (tested true false) refl s e c
  all_tested false true s e c = at_state (tested false true) refl s e c
  all_tested false false s e c = at_state (tested false false) refl s e c

  -- any event, in any live state: the row for the record's own conditions
  pub rows_agree : (e : Event) (s : Settings) (r : Record) → Live r → Agrees r.state r.hold_on (act_at r.state e (conditions_of s r) r.tidok_sent kind reason)
  unfolding tested conditions_of
  rows_agree e s r live =
      let a = act_at r.state e (conditions_of s r) r.tidok_sent kind reason in
      each (tests a.next r.state r.hold_on a)
      (rw (le-leb 1 (state_number r.state) live, own_mark r.state r.hold_on r.user_ack r.hold_on_sent) at (all_tested r.tidok_sent r.hold_on r.state e (conditions_of s r)))

-- any opening: nothing was sent or shown before
pub openings_agree : (o : Opening) → Agrees Free false (opening_act o)
unfolding every opening_act act_with stored shown
openings_agree o = each (tests (opening_act o).next Free false (opening_act o)) (at_opening (λ x. all_of (tests (opening_act x).next Free false (opening_act x))) refl o)
