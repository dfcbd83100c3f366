-- The answer has 32 words, and they tell what was sent, told and shown, so that an abort and a result never look alike. Assumes nothing.
use Prim.Native.Nat.{ℕ, ◌+◌, ◌≤◌}
use mathlib.Core.Path.{◌≡◌, refl, sym, ap, ◌∙◌}
use mathlib.Core.List.{List, [], ◌∷◌, ◌++◌}
use native.Mathlib.Omega.{arith}
use lib.ListN.{length, get_or, take, drop, replicate, length-append}
use lib.Seq.{take-append_seam, drop-append_seam}
use Rattle.base_lists.specs.Seq.{put}
use Rattle.base_lists.proofs.StoresAndParts.{put_append}
use Rattle.table_record.specs.declared.Role.{Role}
use Rattle.step_shown.specs.declared.Place.{Place}
use Rattle.step_shown.specs.declared.Shown.{Shown}
use Rattle.step_shown.specs.declared.Shown.TheVariants as Shown
use Rattle.row_columns.specs.declared.Indication.{Indication}
use Rattle.row_columns.specs.declared.Indication.TheVariants as Indication
use Rattle.step_shown.specs.declared.Context.{Context}
use Rattle.step_shown.specs.Kinds.{by_indication}
use Rattle.step_shown.specs.Shows.{shown_of, place_of}
use Rattle.step_shown.specs.Words.{shown_words, front_words, own_words}
use Rattle.step_shown.proofs.Back.{same_words_same_shown, twelve_words}
use Rattle.step_shown.proofs.OwnKind.{abort_no_result}
use Rattle.step_plan.specs.declared.Told.{Told}
use Rattle.step_plan.specs.declared.Told.TheVariants.{Nothing, Tid, Fired}
use Rattle.c_answers.specs.Answers.{shown_count, told_tid, told_fired, head_words, record_words, answer_words, SameAnswer}

-- stores one after the other, from the start on, are one store
pub four_stores : (words a b c d : List ℕ) → length a ≡ 4 → length b ≡ 12 → length c ≡ 12
    → put (put (put (put words 0 a) 4 b) 16 c) 28 d ≡ put words 0 (a ++ (b ++ (c ++ d)))
four_stores words a b c d la lb lc =
    rw (put_append a (b ++ (c ++ d)) words 0, la, put_append b (c ++ d), lb, put_append c d, lc)

-- an indication is one at most, and counts as what it shows does
pub count_le : (i : Indication) → by_indication 0 1 1 1 1 i ≤ 1
count_le Indication.Nothing = omega arith
count_le (Indication.Invoke verified) = omega arith
count_le (Indication.Confirm acked) = omega arith
count_le Indication.Result = omega arith
count_le (Indication.Abort type reason) = omega arith

count_shown : (i : Indication) (c : Context) → by_indication 0 1 1 1 1 i ≡ shown_count (shown_of i c)
unfolding shown_of
count_shown Indication.Nothing c = refl
count_shown (Indication.Invoke verified) c = refl
count_shown (Indication.Confirm acked) c = refl
count_shown Indication.Result c = refl
count_shown (Indication.Abort type reason) c = refl

-- no indication shows twelve zeros
pub none_shown : (i : Indication) (c : Context) → ◌≡◌ {A = ℕ} (by_indication 0 1 1 1 1 i) 0 → replicate 12 0 ≡ shown_words (shown_of i c)
unfolding shown_of shown_words front_words own_words place_of
none_shown Indication.Nothing c e = refl
none_shown (Indication.Invoke verified) c e = absurd (omega arith)
none_shown (Indication.Confirm acked) c e = absurd (omega arith)
none_shown Indication.Result c e = absurd (omega arith)
none_shown (Indication.Abort type reason) c e = absurd (omega arith)

-- the head by the indications is that of what they show
pub head_shown : (sent : ℕ) (told : Told) (first second : Indication) (c : Context)
    → sent ∷ (by_indication 0 1 1 1 1 first + by_indication 0 1 1 1 1 second) ∷ told_tid told ∷ told_fired told ∷ [] ≡ head_words sent told (shown_of first c) (shown_of second c)
unfolding head_words
head_shown sent told first second c = λ j. sent ∷ (count_shown first c j + count_shown second c j) ∷ told_tid told ∷ told_fired told ∷ []

pub head_length : (sent : ℕ) (told : Told) (first second : Shown) → length (head_words sent told first second) ≡ 4
unfolding head_words
head_length sent told first second = refl

record_length : (told : Told) → length (record_words told) ≡ 4
unfolding record_words
record_length Nothing = refl
record_length (Tid tid) = refl
record_length (Fired role peer tid) = refl

module _ (sent : ℕ) (told : Told) (first second : Shown) where
  pub thirty_two_words : length (answer_words sent told first second) ≡ 32
  unfolding answer_words
  thirty_two_words =
      rw (length-append (head_words sent told first second) (shown_words first ++ (shown_words second ++ record_words told)), length-append (shown_words first) (shown_words second ++ record_words told), length-append (shown_words second) (record_words told), head_length sent told first second, record_length told, (twelve_words first).0, (twelve_words second).0)

-- a list in two pieces has no other pieces of these lengths
split : (a a₁ b b₁ : List ℕ) → length a ≡ length a₁ → a ++ b ≡ a₁ ++ b₁ → (a ≡ a₁) × (b ≡ b₁)
split a a₁ b b₁ l e =
    (sym (take-append_seam a b) ∙ (ap (take (length a)) e ∙ rw l (take-append_seam a₁ b₁)), sym (drop-append_seam a b) ∙ (ap (drop (length a)) e ∙ rw l (drop-append_seam a₁ b₁)))

module _ (sent : ℕ) (told : Told) (first second : Shown) (sent₁ : ℕ) (told₁ : Told) (first₁ second₁ : Shown) where
  head_same : head_words sent told first second ≡ head_words sent₁ told₁ first₁ second₁ → (sent ≡ sent₁) × (told_tid told ≡ told_tid told₁) × (told_fired told ≡ told_fired told₁)
  unfolding head_words
  head_same e = (ap (λ w. get_or w 0 0) e, ap (λ w. get_or w 2 0) e, ap (λ w. get_or w 3 0) e)

  -- the same words only for the same octets sent, TID, record fired and indications
  pub one_answer : answer_words sent told first second ≡ answer_words sent₁ told₁ first₁ second₁ → SameAnswer sent told first second sent₁ told₁ first₁ second₁
  unfolding answer_words
  one_answer e =
      let h = split (head_words sent told first second) (head_words sent₁ told₁ first₁ second₁) (shown_words first ++ (shown_words second ++ record_words told)) (shown_words first₁ ++ (shown_words second₁ ++ record_words told₁)) (head_length sent told first second ∙ sym (head_length sent₁ told₁ first₁ second₁)) e in
      let f = split (shown_words first) (shown_words first₁) (shown_words second ++ record_words told) (shown_words second₁ ++ record_words told₁) ((twelve_words first).0 ∙ sym (twelve_words first₁).0) h.1 in
      let s = split (shown_words second) (shown_words second₁) (record_words told) (record_words told₁) ((twelve_words second).0 ∙ sym (twelve_words second₁).0) f.1 in
      let t = head_same h.0 in
      record {
        sent_same = t.0;
        tid_same = t.1;
        fired_same = t.2;
        record_same = s.1;
        first_same = same_words_same_shown first first₁ f.0;
        second_same = same_words_same_shown second second₁ s.0;
      }

-- "An abort shown as a result without data": no answer with an abort has the words of one with a result, with data or without
pub abort_not_result : (sent : ℕ) (told : Told) (role : Role) (peer tid type reason : ℕ) (second : Shown) (sent₁ : ℕ) (told₁ : Told) (peer₁ tid₁ : ℕ) (place : Place) (second₁ : Shown)
    → answer_words sent told (Shown.Abort role peer tid type reason) second ≡ answer_words sent₁ told₁ (Shown.Result peer₁ tid₁ place) second₁
    → ⊥
abort_not_result sent told role peer tid type reason second sent₁ told₁ peer₁ tid₁ place second₁ e =
    abort_no_result role peer tid type reason peer₁ tid₁ place (ap shown_words (one_answer sent told (Shown.Abort role peer tid type reason) second sent₁ told₁ (Shown.Result peer₁ tid₁ place) second₁ e).first_same)
