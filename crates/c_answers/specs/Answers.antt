-- The C interface's result and the words of an answer, 32, two of the cost and six more (01, "Numbers given back": "at most one PDU", "at most two indications, in order").
use Rattle.std.specs.Prelude.{ℕ, ◌+◌, ◌≡◌, List, [], ◌∷◌, ◌++◌, Bool, true, false, eqb, Ok, Err}
use Rattle.base_lists.specs.Seq.{pick, bit, put}
use Rattle.base_numbers.specs.Numbers.{number_of}
use Rattle.codec_items.specs.declared.Unknown.{Unknown}
use Rattle.table_record.specs.Record.{role_number, role_of}
use Rattle.table_record.specs.declared.Role.{Role}
use Rattle.table_record.specs.declared.Role.TheVariants.{Initiator, Responder}
use Rattle.table_record.specs.declared.Record.{Record}
use Rattle.table_layout.specs.Table.{record_at}
use Rattle.step_shown.specs.declared.Shown.{Shown}
use Rattle.step_shown.specs.declared.Shown.TheVariants as Shown
use Rattle.step_shown.specs.Kinds.{by_kind}
use Rattle.step_shown.specs.Words.{shown_words}
use Rattle.step_shown.specs.Shows.{shown_of}
use Rattle.row_turns.specs.declared.Turn.{Turn}
use Rattle.step_commit.specs.declared.Change.{Change}
use Rattle.step_commit.specs.declared.Change.TheVariants as Change
use Rattle.step_commit.specs.declared.Changes.{Changes}
use Rattle.step_plan.specs.Steps.{told_of_is, context_of}
use Rattle.step_plan.specs.declared.Holder.{Holder}
use Rattle.step_plan.specs.declared.Call.{Call}
use Rattle.step_plan.specs.declared.Told.{Told}
use Rattle.step_plan.specs.declared.Told.TheVariants.{Nothing, Tid, Fired}
use Rattle.step_outcome.specs.Carry.{Answer}
use Rattle.c_answers.specs.declared.Cost.{Cost}

-- nothing is no indication, all else is one
abbrev pub shown_count : Shown → ℕ
shown_count s = by_kind 0 1 1 1 1 s

-- the C interface: word 2, "the TID given to the request; else 0"
abbrev pub told_tid : Told → ℕ
told_tid Nothing = 0
told_tid (Tid tid) = tid
told_tid (Fired role peer tid) = 0

-- the C interface: word 3, "1 a record was fired, 0 none was due; else 0"
abbrev pub told_fired : Told → ℕ
told_fired Nothing = 0
told_fired (Tid tid) = 0
told_fired (Fired role peer tid) = 1

-- the C interface: words 0 to 3, "bytes sent", "indications, 0 to 2", and the two above
unfoldable pub head_words : ℕ → Told → Shown → Shown → List ℕ
head_words sent told first second = sent ∷ (shown_count first + shown_count second) ∷ told_tid told ∷ told_fired told ∷ []

-- the C interface: words 28 to 30, "role, peer and TID of the record that was fired .. else 0", and word 31, 0
unfoldable pub record_words : Told → List ℕ
record_words Nothing = 0 ∷ 0 ∷ 0 ∷ 0 ∷ []
record_words (Tid tid) = 0 ∷ 0 ∷ 0 ∷ 0 ∷ []
record_words (Fired role peer tid) = role_number role ∷ peer ∷ tid ∷ 0 ∷ []

-- the 32 words: "in order", the first indication before the second
unfoldable pub answer_words : ℕ → Told → Shown → Shown → List ℕ
answer_words sent told first second = head_words sent told first second ++ (shown_words first ++ (shown_words second ++ record_words told))

-- the words of a turn that sent this much
unfoldable pub turn_words : ℕ → Turn → Holder → Call → List ℕ
turn_words sent turn h c = answer_words sent (told_of_is c.tells h) (shown_of turn.first (context_of h c)) (shown_of turn.second (context_of h c))

-- a call that sent, told and showed nothing
unfoldable pub idle_words : List ℕ
idle_words = answer_words 0 Nothing Shown.Nothing Shown.Nothing

-- the C interface: "The result is 0 where the call was accepted", else the refusal's number
unfoldable pub answer_number : Answer → ℕ
answer_number (Err r) = number_of r
answer_number (Ok a) = 0

-- 01: "A refusal gives only its number"; the C interface: an accepted call writes words 0 to 31
unfoldable pub answer_after : Answer → List ℕ → List ℕ
answer_after (Err r) words = words
answer_after (Ok a) words = put words 0 (answer_words a.sent a.told a.first a.second)

-- 02, L11: a call that concerns no initiator's record of class 1 or 2 tells no cost
unfoldable pub no_cost : Cost
no_cost = record { sent = 0; ended = false }

-- 02, L11: "Each ended initiator transaction of class 1 or 2 reports the bytes it sent": a responder's record tells nothing
unfoldable pub role_cost : Role → (sent : ℕ) → (ended : Bool) → Cost
role_cost Initiator sent ended = record { sent = sent; ended = ended }
role_cost Responder sent ended = no_cost

-- the C interface: word 32, "the running byte count of the [..] record [..], as it is after the call (or was when the record ended); 0 where there is none"
unfoldable pub change_cost : Change → (was : Record) → Cost
change_cost Change.Nothing was = no_cost
change_cost (Change.Put r) was = role_cost (role_of r.state) r.sent false
change_cost Change.Clear was = role_cost (role_of was.state) was.sent true

-- of a call with these changes of a table
unfoldable pub cost_by : List ℕ → Changes → Cost
cost_by t c = change_cost c.change (record_at t c.place)

-- the C interface: word 32, and word 33, "1 where that transaction ended in this call, so that word 32 is its report; else 0"
unfoldable pub cost_words : Cost → List ℕ
cost_words c = c.sent ∷ bit c.ended ∷ []

-- the C interface: word 34 and 35, "identity, and place of the first octet, of the first item in the PDU that is not known; 0, 0 none"; 36 to 39 are 0
unfoldable pub more_words : Unknown → List ℕ
more_words u = u.identity ∷ u.place ∷ 0 ∷ 0 ∷ 0 ∷ 0 ∷ []

-- the C interface: "an accepted call writes the first 40": words 34 to 39, where the result is 0
unfoldable pub told_after : (result : ℕ) → List ℕ → (more : List ℕ) → List ℕ
told_after result words more = pick (eqb result 0) (put words 34 more) words

-- the same answer to a caller: octets sent, TID, record fired, and what is shown
pub record SameAnswer (sent : ℕ) (told : Told) (first second : Shown) (sent₁ : ℕ) (told₁ : Told) (first₁ second₁ : Shown) : Type 0 where
  pub sent_same : sent ≡ sent₁
  pub tid_same : told_tid told ≡ told_tid told₁
  pub fired_same : told_fired told ≡ told_fired told₁
  pub record_same : record_words told ≡ record_words told₁
  pub first_same : first ≡ first₁
  pub second_same : second ≡ second₁
