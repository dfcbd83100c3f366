-- Promise 10 of the four calls of frames: the lowest number that applies is given, and none without its condition. Assumes nothing.
use Prim.Native.Nat.{ℕ, ◌+◌, ◌%◌, ◌≤◌}
use native.Mathlib.Omega.{arith}
use mathlib.Core.Path.{◌≡◌, refl, sym, ◌∙◌}
use mathlib.Core.Bool.{Bool, true, false}
use mathlib.Core.List.{List}
use mathlib.Core.Logic.{◌⊎◌, inl, inr}
use lib.ListN.{length, get_or}
use lib.Dec.{ltb, leb, eqb}
use borrow.Author.Tests.{ltb-true, ltb-false, le-leb, lt-leb, eqb-true, eqb-false}
use Rattle.base_lists.specs.Seq.{pick, put}
use Rattle.base_lists.proofs.StoresAndParts.{told, true_false}
use Rattle.base_octets.proofs.StoredAndRead.{get_same}
use Rattle.base_numbers.specs.declared.Refusal.TheVariants.{WrongSize, WrongSetting, WrongLength, WrongFrame}
use Rattle.rds_malformed.specs.Malformed.{not, or}
use Rattle.rds_malformed.proofs.RefusedExactly.{refused_exactly}
use Rattle.std.specs.Prelude.{Option, Some, None, is_some, is_none, Result, Ok, Err}
use Rattle.rds_reading.specs.declared.Frame.{Frame}
use Rattle.rds_reading.specs.Read.{frame_of}
use Rattle.base_numbers.specs.declared.Refusal.{Refusal}
use Rattle.rds_datagram.specs.Put.{fit_of, plan_of, frame_octets, done, put_by, put_of}
use Rattle.rds_encoding.specs.Encoding.{octets_of}
use Rattle.rds_said.specs.Said.{frame_said}
use Rattle.rds_writing.specs.Write.{accepts, write_said, write_of}
use Rattle.rds.specs.Calls.{is_on, read_number_is, put_words, putting_number, putting_words, put_number, put_answer, write_number}
use Rattle.rds_laws.specs.FourCalls.{lowest, read_list, ReadNumbers, unfit, put_list, PutNumbers, accepted_as, WriteNumbers}

read_number : (least : ℕ) (s : List ℕ) (network : ℕ) (words : List ℕ) → read_number_is least s network words ≡ lowest (read_list least s network words)
unfolding read_number_is
read_number least s network words = rw (← (refused_exactly s (is_on network))) (go (ltb (length words) least) (frame_of s (is_on network))) where
  go : (x : Bool) (o : Option Frame) → ◌≡◌ {A = ℕ} (pick x 1 (pick (is_some o) 0 16)) (pick x 1 (pick (is_none o) 16 0))
  go true o = refl
  go false (Some f) = refl
  go false None = refl

-- `rds_read`, `rds_take`
pub read_numbers : (s : List ℕ) (network : ℕ) (words : List ℕ) → ReadNumbers s network words
read_numbers s network words = record { fields = read_number 100 s network words; part = read_number 8 s network words }

not_over : (d n : ℕ) → leb d n ≡ not (ltb n d)
not_over d n = go (told (ltb n d)) where
  go : (ltb n d ≡ true) ⊎ (ltb n d ≡ false) → leb d n ≡ not (ltb n d)
  go (inl e) = rw e (lt-leb d n (ltb-true n d e))
  go (inr e) = rw e (le-leb d n (ltb-false n d e))

fit_said : (ports : Bool) (s d n : ℕ) → not (fit_of ports s d n) ≡ unfit ports s d n
unfolding fit_of
fit_said ports s d n = rw (not_over d 15) (go ports (ltb 7 n) (ltb 15 s) (ltb 15 d) (eqb s 0) (eqb d 0)) where
  go : (p x a b y z : Bool) → not (pick x false (pick p (pick a false (not b)) (pick y z false))) ≡ or x (pick p (or a b) (or (not y) (not z)))
  go true true a b y z = refl
  go true false true b y z = refl
  go true false false true y z = refl
  go true false false false y z = refl
  go false true a b y z = refl
  go false false a b true true = refl
  go false false a b true false = refl
  go false false a b false z = refl

put_by_holds : (frame out : List ℕ) (x : Result ℕ Refusal) → (put_by frame out x).answer ≡ x
unfolding put_by
put_by_holds frame out (Ok n) = refl
put_by_holds frame out (Err r) = refl

module _ (t : List ℕ) (ports s d n : ℕ) (out answer : List ℕ) where
  abbrev plan : Result ℕ Refusal
  plan = plan_of (length t) (length out) (is_on ports) (fit_of (is_on ports) s d n)

  put_plan : (put_of t (is_on ports) s d n out).answer ≡ plan
  unfolding put_of
  put_plan = put_by_holds (frame_octets t (is_on ports) s d n) out plan

  put_number_holds : put_number t ports s d n out answer ≡ lowest (put_list t ports s d n out answer)
  unfolding put_number plan_of
  put_number_holds = rw (put_plan, ← (fit_said (is_on ports) s d n)) (go (ltb (length answer) 16) (ltb (length out) 1523) (fit_of (is_on ports) s d n) (eqb (length t) 0) (ltb 1500 (length t)) (is_on ports)) where
    go : (x a f z y p : Bool)
        → ◌≡◌ {A = ℕ} (pick x 1 (putting_number (pick a (Err WrongSize) (pick f (pick z (Err WrongLength) (pick y (Err WrongLength) (pick p (Ok (2 + length t)) (Ok (1 + length t))))) (Err WrongSetting)))))
        (pick (or x a) 1 (pick (not f) 10 (pick (or z y) 11 0)))
    go true a f z y p = refl
    go false true f z y p = refl
    go false false false z y p = refl
    go false false true true y p = refl
    go false false true false true p = refl
    go false false true false false true = refl
    go false false true false false false = refl

  fit_small : fit_of (is_on ports) s d n ≡ true → n ≤ 7
  unfolding fit_of
  fit_small = go (ltb 7 n) refl where
    go : (x : Bool) → ltb 7 n ≡ x → pick x false (pick (is_on ports) (pick (ltb 15 s) false (leb d 15)) (pick (eqb s 0) (eqb d 0) false)) ≡ true → n ≤ 7
    go true e k = true_false (sym k)
    go false e k = ltb-false 7 n e

  next_word : (len : ℕ) → 16 ≤ length answer → n ≤ 7 → get_or (put answer 0 (put_words len n)) 12 0 ≡ pick (eqb n 7) 0 (n + 1)
  unfolding put_words
  next_word len l small = get_same (put_words len n) answer 0 12 l (omega arith) ∙ go (told (eqb n 7)) where
    go : (eqb n 7 ≡ true) ⊎ (eqb n 7 ≡ false) → (n % 8 + 1) % 8 ≡ pick (eqb n 7) 0 (n + 1)
    go (inl e) = rw (eqb-true n 7 e) refl
    go (inr e) = rw e (omega (arith, eqb-false n 7 e, small))

  next_number : put_number t ports s d n out answer ≡ 0 → get_or (put_answer t ports s d n out answer) 12 0 ≡ pick (eqb n 7) 0 (n + 1)
  unfolding put_number put_answer plan_of
  next_number q = rw put_plan (go (ltb (length answer) 16) refl (ltb (length out) 1523) (fit_of (is_on ports) s d n) refl (eqb (length t) 0) (ltb 1500 (length t)) (is_on ports) (rw put_plan at q)) where
    by : Bool → Bool → Bool → Bool → Bool → Result ℕ Refusal
    by a f z y p = pick a (Err WrongSize) (pick f (pick z (Err WrongLength) (pick y (Err WrongLength) (pick p (Ok (2 + length t)) (Ok (1 + length t))))) (Err WrongSetting))

    go : (x : Bool) → ltb (length answer) 16 ≡ x → (a f : Bool) → fit_of (is_on ports) s d n ≡ f → (z y p : Bool) → ◌≡◌ {A = ℕ} (pick x 1 (putting_number (by a f z y p))) 0
        → get_or (pick x answer (putting_words (by a f z y p) n answer)) 12 0 ≡ pick (eqb n 7) 0 (n + 1)
    go true e a f g z y p k = absurd (omega (arith, k))
    go false e true f g z y p k = absurd (omega (arith, k))
    go false e false false g z y p k = absurd (omega (arith, k))
    go false e false true g true y p k = absurd (omega (arith, k))
    go false e false true g false true p k = absurd (omega (arith, k))
    go false e false true g false false true k = next_word (2 + length t) (ltb-false (length answer) 16 e) (fit_small g)
    go false e false true g false false false k = next_word (1 + length t) (ltb-false (length answer) 16 e) (fit_small g)

-- `rds_put`
pub put_numbers : (t : List ℕ) (ports s d n : ℕ) (out answer : List ℕ) → PutNumbers t ports s d n out answer
put_numbers t ports s d n out answer = record { number = put_number_holds t ports s d n out answer; next = next_number t ports s d n out answer }

-- `rds_write`
pub write_numbers : (w s : List ℕ) (network : ℕ) (out answer : List ℕ) → WriteNumbers w s network out answer
unfolding write_number write_of
write_numbers w s network out answer = go (ltb (length answer) 16) (ltb (length w) 100) (ltb (length out) 1523) (frame_said w) where
  by : (f : Frame) (c : Bool) → ◌≡◌ {A = ℕ} (putting_number (pick c (done (Ok (length (octets_of s f (is_on network)))) (put out 0 (octets_of s f (is_on network)))) (done (Err WrongFrame) out)).answer) (pick (not c) 16 0)
  by f true = refl
  by f false = refl

  go : (x a b : Bool) (o : Option Frame) → ◌≡◌ {A = ℕ} (pick x 1 (putting_number (pick a (done (Err WrongSize) out) (pick b (done (Err WrongSize) out) (write_said w s (is_on network) out o))).answer))
      (pick (or x (or a b)) 1 (pick (not (accepted_as w s o)) 16 0))
  go true a b o = refl
  go false true b o = refl
  go false false true o = refl
  go false false false (Some f) = by f (accepts w s f)
  go false false false None = refl
