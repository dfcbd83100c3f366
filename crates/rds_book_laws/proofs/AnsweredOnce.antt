-- Promise 8, of one frame: every row of a command is event 1 or 3, which is answered; every row of a response is event 2 or 0, which is not. Assumes nothing.
use mathlib.Core.Path.{◌≡◌, refl, sym}
use mathlib.Core.List.{List, [], ◌∷◌}
use mathlib.Core.Bool.{Bool, true, false}
use Prim.Native.Nat.{ℕ, ◌+◌, ◌%◌, ◌≤◌}
use native.Mathlib.Omega.{arith}
use lib.ListN.{length}
use lib.Dec.{eqb}
use Rattle.base_lists.specs.Seq.{pick}
use Rattle.base_lists.proofs.StoresAndParts.{true_false}
use Rattle.rds_frame.specs.declared.Head.{Head}
use Rattle.rds_book.specs.Book.{place_of}
use Rattle.rds_rows.specs.declared.Row.TheVariants.{R10, R11, R12, R13, R14}
use Rattle.rds_rows.specs.Rows.{event_of, reserve_row, release_row, answer_row}
use Rattle.rds_turn.specs.declared.Turn.{Turn}
use Rattle.rds_turn.specs.Turn.{quiet, told, error_turn}
use Rattle.rds_sending.specs.Sent.{ports_octet, response_octet, answer_frame, error_frame}
use Rattle.rds_lent.specs.Asked.{outstanding}
use Rattle.rds_receiving.specs.Receiving.{reply_of}
use Rattle.rds_book_laws.specs.Answering.{SentOne, SentNone, ErrorRow}

pub reserve_event : (again mine taken none : Bool) → event_of (reserve_row again mine taken none) ≡ 1
unfolding reserve_row
reserve_event true mine taken none = refl
reserve_event false true true none = refl
reserve_event false true false true = refl
reserve_event false true false false = refl
reserve_event false false taken true = refl
reserve_event false false taken false = refl

pub release_event : (mine held : Bool) → event_of (release_row mine held) ≡ 1
unfolding release_row
release_event true true = refl
release_event true false = refl
release_event false held = refl

pub answer_event : (release : Bool) (status : ℕ) → event_of (answer_row release status) ≡ 2
unfolding answer_row
answer_event release status = go release (eqb status 0) (eqb status 2) where
  go : (r x y : Bool) → event_of (pick r (pick x R12 (pick y R12 R13)) (pick x R10 R11)) ≡ 2
  go true true y = refl
  go true false true = refl
  go true false false = refl
  go false true y = refl
  go false false y = refl

module _ (b : List ℕ) (h : Head) (t : Turn) where
  answer_long : (x : Bool) (n f s c : ℕ) → 2 ≤ length (pick x (c ∷ 10 ∷ n ∷ f ∷ s ∷ []) (c ∷ 10 ∷ n ∷ s ∷ []))
  answer_long true n f s c = omega arith
  answer_long false n f s c = omega arith

  error_long : (x : Bool) (p c : ℕ) → 2 ≤ length (pick x ((c + 8) ∷ 1 ∷ p ∷ []) (c ∷ 1 ∷ []))
  error_long true p c = omega arith
  error_long false p c = omega arith

  pub answered_one : event_of t.row ≡ 1 → SentOne b t h
  unfolding reply_of answer_frame
  answered_one e = rw e (answer_long (eqb t.action 5) t.action t.format (t.status % 256) (response_octet b))

  pub error_one : event_of t.row ≡ 3 → SentOne b t h
  unfolding reply_of error_frame
  error_one e = rw e (error_long h.ads (ports_octet h.destination h.source) (response_octet b))

  pub ours_none : event_of t.row ≡ 2 → SentNone b t h
  unfolding reply_of
  ours_none e = rw e refl

  pub nothing_none : event_of t.row ≡ 0 → SentNone b t h
  unfolding reply_of
  nothing_none e = rw e refl

pub error_row : (b : List ℕ) → ErrorRow b
unfolding error_turn outstanding told
error_row b = record { answers = go (eqb (place_of b 0).tag 0); ports = refl } where
  go : (z : Bool) → pick z false true ≡ true → (pick z quiet (told b R14 256 0 false)).row ≡ R14
  go true h = true_false (sym h)
  go false h = refl
