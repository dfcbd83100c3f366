-- Joined and then separated, PDUs are as they were. Assumes nothing.
use Prim.Native.Nat.{ℕ, ◌+◌, ◌*◌, ◌/◌, ◌%◌, ◌≤◌}
use native.Mathlib.Omega.{arith}
use borrow.Author.Tests.{leb-true, leb-false}
use mathlib.Core.Path.{◌≡◌, refl, sym, ap, ◌∙◌}
use mathlib.Core.List.{List, [], ◌∷◌, ◌++◌, append_assoc}
use mathlib.Core.Bool.{Bool, true, false}
use lib.ListN.{length, get_or, take, drop, length-append, length-drop}
use lib.Seq.{get_or-append_seam, get_or-append-add, length-take-le, take_at, drop_at}
use lib.Dec.{leb}
use Rattle.base_lists.specs.Seq.{part}
use Rattle.codec_separation.specs.Faults.{Announced, seven, fifteen}
use Rattle.codec_joining.specs.Join.{length_octets, listed, joined_octets, each_in_range, sum, joinable}
use Rattle.codec_joining.proofs.Octets.{one_octet, two_octets}
use Rattle.codec_joining.specs.Joinable.{Joinable}
use Rattle.codec_joining.proofs.Sizes.{length_listed, range_first, range_rest, joinable_facts}
use Rattle.law_datagrams.specs.Pdus.{cut, Separates}
use Rattle.law_datagrams.proofs.Holds.{Holds, holds_none, holds_more, holds_separates}

-- a length that was written is read as it was
length_read : (pre rest : List ℕ) (n : ℕ) → n ≤ 1500 → Announced (pre ++ (length_octets n ++ rest)) (length pre) (length pre + length (length_octets n)) n
length_read pre rest n h = go (leb n 127) refl
  where
    go : (b : Bool) → leb n 127 ≡ b → Announced (pre ++ (length_octets n ++ rest)) (length pre) (length pre + length (length_octets n)) n
    go true e =
        let small = leb-true n 127 e in
        let head = get_or-append_seam pre n rest 0 in
        let there : Announced (pre ++ n ∷ rest) (length pre) (length pre + 1) (get_or (pre ++ n ∷ rest) (length pre) 0) =
        seven (rw (length-append pre (n ∷ rest)) (omega arith)) (rw head (omega arith)) in
        rw (one_octet n small) (rw head at there)
    go false e =
        let large = leb-false n 127 e in
        let high : ℕ = 128 + n / 256 in
        let l : List ℕ = high ∷ n % 256 ∷ rest in
        let head = get_or-append_seam pre high (n % 256 ∷ rest) 0 in
        let low = get_or-append-add pre l 1 0 in
        let value : high % 128 * 256 + n % 256 ≡ n = omega arith in
        let place : length pre + 1 + 1 ≡ length pre + 2 = omega arith in
        let there : Announced (pre ++ l) (length pre) (length pre + 1 + 1) (get_or (pre ++ l) (length pre) 0 % 128 * 256 + get_or (pre ++ l) (length pre + 1) 0) =
        fifteen (rw (length-append pre l) (omega arith)) (rw head (omega arith)) in
        rw (two_octets n large) (rw (head, low, value, place) at there)

pub joined_holds : (ns bytes pre : List ℕ) → sum ns ≤ length bytes → each_in_range ns ≡ true → Holds (pre ++ listed bytes ns) (length pre) (cut bytes ns)
unfolding listed sum cut
joined_holds [] bytes pre s r = holds_none (pre ++ []) (length pre) (rw (length-append pre []) (omega arith))
joined_holds (n ∷ ns) bytes pre s r =
    let x : List ℕ = length_octets n in
    let y : List ℕ = take n bytes in
    let z : List ℕ = listed (drop n bytes) ns in
    let range = range_first n ns r in
    let ly : length y ≡ n = length-take-le n bytes (omega arith) in
    let split : (pre ++ (x ++ y)) ++ z ≡ pre ++ (x ++ (y ++ z)) = append_assoc pre (x ++ y) z ∙ ap (λ (l : List ℕ). pre ++ l) (append_assoc x y z) in
    let start : length (pre ++ x) ≡ length pre + length x = length-append pre x in
    let next : length (pre ++ (x ++ y)) ≡ length pre + length x + n = rw (length-append pre (x ++ y), length-append x y, ly) (omega arith) in
    let inside : length pre + length x + n ≤ length (pre ++ (x ++ (y ++ z))) = rw (length-append pre (x ++ (y ++ z)), length-append x (y ++ z), length-append y z, ly) (omega arith) in
    let octets : part (pre ++ (x ++ (y ++ z))) (length pre + length x) n ≡ y =
    rw (← append_assoc pre x (y ++ z), drop_at (pre ++ x) (y ++ z) (length pre + length x) start) (take_at y z n ly) in
    let ih : Holds ((pre ++ (x ++ y)) ++ z) (length (pre ++ (x ++ y))) (cut (drop n bytes) ns) =
    joined_holds ns (drop n bytes) (pre ++ (x ++ y)) (rw (length-drop n bytes) (omega arith)) (sym (range_rest n ns range.0 range.1) ∙ r) in
    holds_more (pre ++ (x ++ (y ++ z))) (length pre) (length pre + length x) n y (cut (drop n bytes) ns) (length_read pre (y ++ z) n range.1) range.0 inside octets (rw (split, next) at ih)

-- law: the joined datagram of PDUs that the joiner accepts separates into just these PDUs
pub joined_separated : (bytes lengths : List ℕ) → joinable bytes lengths ≡ true → Separates (joined_octets bytes lengths) (cut bytes lengths)
joined_separated bytes lengths e = go lengths (joinable_facts bytes lengths e)
  where
    go : (ns : List ℕ) → Joinable bytes ns → Separates (joined_octets bytes ns) (cut bytes ns)
    go [] j = absurd (omega (arith, j.some))
    go (n ∷ ns) j =
        let adds = j.adds in
        let l = length_listed (n ∷ ns) bytes (omega arith) in
        let first = range_first n ns j.each in
        holds_separates (joined_octets bytes (n ∷ ns)) (cut bytes (n ∷ ns)) (omega (arith, l, first)) (omega (arith, l, j.short)) refl (joined_holds (n ∷ ns) bytes (0 ∷ []) (omega arith) j.each)
