-- The 97 words of the list, one by one. Assumes nothing.
use Prim.Native.Nat.{ℕ, suc, ◌+◌, ◌-◌, ◌*◌, ◌≤◌, ◌<◌}
use native.Mathlib.Omega.{arith}
use native.Mathlib.Nat.{zero-add}
use mathlib.Core.Path.{◌≡◌, ◌∙◌}
use mathlib.Core.List.{List, ◌++◌}
use lib.ListN.{length, get_or, replicate, length-append, length-replicate, get_or-replicate, get_or-append}
use lib.Seq.{get_or-append-add}
use Rattle.base_lists.specs.Seq.{put}
use Rattle.base_lists.proofs.StoresAndParts.{length_put}
use Rattle.base_octets.proofs.StoredAndRead.{get_same, get_d_after}
use Rattle.table_salvage.specs.Salvage.{pairs_size, list_of}
use Rattle.law_salvage.specs.Listed.{how_many, place_in, reason_in, Written}
use Rattle.law_salvage.proofs.Pairs.{Pairs}

module _ (list : List ℕ) (room : 97 ≤ length list) (f : ℕ → ℕ) (n : ℕ) (ps : List ℕ) (p : Pairs f n ps) (few : length ps ≤ pairs_size) where
  abbrev pub words : List ℕ
  words = put list 0 (list_of ps)

  abbrev zeros : List ℕ
  zeros = replicate (pairs_size - length ps) 0

  size : length (list_of ps) ≡ 97
  size = omega (arith, length-append ps zeros, zeros_long, few)
    where
      zeros_long : length zeros ≡ pairs_size - length ps
      zeros_long = length-replicate (pairs_size - length ps) 0

  word : (k : ℕ) → k < 97 → get_or words k 0 ≡ get_or (list_of ps) k 0
  word k l =
      let e : 0 + k ≡ k = zero-add k in
      rw e at (get_same (list_of ps) list 0 k (rw size room) (rw size l))

  -- after the first word
  later : (k : ℕ) → k < 96 → get_or words (1 + k) 0 ≡ get_or (ps ++ zeros) k 0
  later k l =
      let e : 1 + k ≡ suc k = omega arith in
      rw e (word (suc k) (omega arith))

  in_pairs : (k : ℕ) → k < length ps → get_or words (1 + k) 0 ≡ get_or ps k 0
  in_pairs k l = later k (omega (arith, few)) ∙ get_or-append ps zeros 0 k l

  pub how_many_holds : how_many words ≡ p.half
  how_many_holds = word 0 (omega arith) ∙ omega (arith, p.long)

  pub place_in_holds : (k : ℕ) → k < p.half → place_in words k ≡ get_or ps (k * 2) 0
  place_in_holds k l = in_pairs (k * 2) (omega (arith, p.long))

  pub reason_in_holds : (k : ℕ) → k < p.half → reason_in words k ≡ get_or ps (k * 2 + 1) 0
  reason_in_holds k l =
      let e : 1 + k * 2 + 1 ≡ 1 + (k * 2 + 1) = omega arith in
      rw e (in_pairs (k * 2 + 1) (omega (arith, p.long)))

  after_pairs : (k : ℕ) → 1 + p.half * 2 ≤ k → k < 97 → get_or words k 0 ≡ 0
  after_pairs k h l =
      let m : ℕ = k - 1 - length ps in
      let e : k ≡ 1 + (length ps + m) = omega (arith, p.long) in
      let zero : get_or zeros m 0 ≡ 0 = get_or-replicate (pairs_size - length ps) m 0 0 (omega (arith, p.long)) in
      rw e (later (length ps + m) (omega (arith, p.long)) ∙ get_or-append-add ps zeros m 0 ∙ zero)

  pub words_written : Written list words
  words_written = record {
    same_length = length_put list 0 (list_of ps);
    zeros = λ k h l. after_pairs k (rw how_many_holds at h) l;
    further = λ k h. get_d_after (list_of ps) list 0 k (rw size (omega arith));
  }
