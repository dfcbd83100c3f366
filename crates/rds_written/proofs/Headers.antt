-- The header that is written reads as itself, whatever follows it. Assumes nothing.
use Prim.Native.Nat.{ℕ, suc, ◌+◌, ◌*◌, ◌/◌, ◌%◌, ◌≤◌, ◌<◌}
use native.Mathlib.Omega.{arith}
use mathlib.Core.Path.{◌≡◌, refl, sym, ap, ◌∙◌}
use mathlib.Core.List.{List, [], ◌∷◌, ◌++◌}
use Rattle.std.specs.Prelude.{Some}
use mathlib.Core.Bool.{Bool, true, false}
use lib.ListN.{length, take}
use lib.Dec.{eqb}
use borrow.Author.Tests.{lt-ltb, le-ltb, lt-leb, eq-eqb, ne_eqb}
use Rattle.base_lists.specs.Seq.{bit}
use Rattle.base_lists.proofs.StoresAndParts.{bit_le}
use Rattle.rds_frame.specs.declared.Kind.{Kind}
use Rattle.rds_frame.specs.declared.Kind.TheVariants as K
use Rattle.rds_frame.specs.declared.Head.{Head}
use Rattle.rds_frame.specs.Frame.{flag, responds, u_kind, kind_of, ports_after, headed, head_of}
use Rattle.rds_pieces.specs.Octets.{ports_octet, kind_octets, kind_length}
use Rattle.rds_encoding.specs.Encoding.{head_octets}
use Rattle.rds_written.proofs.Narrow.{NarrowKind, NarrowHead}

-- a flag that was told as a bit
pub bit_said : (b : Bool) → eqb (bit b) 1 ≡ b
bit_said true = refl
bit_said false = refl

-- the bit of weight w is that of b
flag_is : (w x : ℕ) (b : Bool) → x / w % 2 ≡ bit b → flag w x ≡ b
flag_is w x b e = ap (λ (y : ℕ). eqb y 1) e ∙ bit_said b

pub responds_twice : (r n : Bool) → responds (responds r n) n ≡ r
unfolding responds
responds_twice true true = refl
responds_twice true false = refl
responds_twice false true = refl
responds_twice false false = refl

-- S1 S2 in octet 2
sack_again : (nr r : ℕ) → (nr % 8 * 32 + r % 8 * 4 + 3) % 4 ≡ 3
sack_again nr r =
    let fours : nr % 8 * 32 + r % 8 * 4 + 3 ≡ (nr % 8 * 8 + r % 8) * 4 + 3 = omega arith in
    ap (λ (x : ℕ). x % 4) fours ∙ three (nr % 8 * 8 + r % 8) where
      three : (x : ℕ) → (x * 4 + 3) % 4 ≡ 3
      three x = omega arith

-- N(R) in octet 2
nr_again : (nr r : ℕ) → nr < 8 → r < 8 → (nr % 8 * 32 + r % 8 * 4 + 3) / 32 ≡ nr
nr_again nr r y z =
    let plain : nr % 8 * 32 + r % 8 * 4 + 3 ≡ nr * 32 + (r * 4 + 3) = omega (arith, y, z) in
    ap (λ (x : ℕ). x / 32) plain ∙ upper (r * 4 + 3) (omega (arith, z)) where
      upper : (x : ℕ) → x < 32 → (nr * 32 + x) / 32 ≡ nr
      upper x h = omega (arith, h)

-- R in octet 2
r_again : (nr r : ℕ) → nr < 8 → r < 8 → (nr % 8 * 32 + r % 8 * 4 + 3) / 4 % 8 ≡ r
r_again nr r y z =
    let quarter : (nr % 8 * 32 + r % 8 * 4 + 3) / 4 ≡ nr * 8 + r = omega (arith, y, z) in
    let low : (nr * 8 + r) % 8 ≡ r = omega (arith, z) in
    ap (λ (x : ℕ). x % 8) quarter ∙ low

-- what follows octets 1 and 2: the ports octet where ADS is 1, and then t
abbrev rest : Bool → ℕ → ℕ → List ℕ → List ℕ
rest ads s d t = take (bit ads) (ports_octet s d ∷ []) ++ t

-- a header
abbrev pub head : Kind → Bool → ℕ → ℕ → ℕ → Head
head k ads s d end = record { kind = k; ads = ads; source = s; destination = d; end = end }

-- the ports octet after one octet, and after two
module _ (k : Kind) (s d : ℕ) (t : List ℕ) where
  ports_one : (ads : Bool) (b : ℕ) → NarrowHead (head k ads s d 0) → ports_after (b ∷ rest ads s d t) k ads 1 ≡ Some (head k ads s d (1 + bit ads))
  unfolding ports_after
  ports_one true b n =
      let long : 1 < suc (suc (length t)) = omega arith in
      let from : ports_octet s d / 16 ≡ s = omega (arith, n.source_narrow, n.destination_narrow) in
      let to : ports_octet s d % 16 ≡ d = omega (arith, n.source_narrow, n.destination_narrow) in
      simp (lt-leb _ _ long) (λ i. Some (head k true (from i) (to i) 2))
  ports_one false b n = λ i. Some (head k false (sym (n.no_ports refl).0 i) (sym (n.no_ports refl).1 i) 1)

  ports_two : (ads : Bool) (b c : ℕ) → NarrowHead (head k ads s d 0) → ports_after (b ∷ c ∷ rest ads s d t) k ads 2 ≡ Some (head k ads s d (2 + bit ads))
  unfolding ports_after
  ports_two true b c n =
      let long : 2 < suc (suc (suc (length t))) = omega arith in
      let from : ports_octet s d / 16 ≡ s = omega (arith, n.source_narrow, n.destination_narrow) in
      let to : ports_octet s d % 16 ≡ d = omega (arith, n.source_narrow, n.destination_narrow) in
      simp (lt-leb _ _ long) (λ i. Some (head k true (from i) (to i) 3))
  ports_two false b c n = λ i. Some (head k false (sym (n.no_ports refl).0 i) (sym (n.no_ports refl).1 i) 2)

-- a frame of two octets or more that is no UI frame
pub two_octets : (b c : ℕ) (r : List ℕ) (network : Bool) → b < 128 → (b / 32 ≡ 2 → ⊥) → head_of (b ∷ c ∷ r) network ≡ headed (b ∷ c ∷ r) (flag 8 b) (kind_of b c network)
unfolding head_of
two_octets b c r network low ui =
    let some : suc (suc (length r)) ≡ 0 → ⊥ = λ h. omega arith in
    let two : 2 ≤ suc (suc (length r)) = omega arith in
    simp (ne_eqb _ _ some, lt-leb _ _ low, ne_eqb _ _ ui, le-ltb _ _ two)

pub one_octet : (b : ℕ) (r : List ℕ) (network : Bool) → b < 128 → b / 32 ≡ 2 → head_of (b ∷ r) network ≡ ports_after (b ∷ r) (K.Ui (b % 8)) (flag 8 b) 1
unfolding head_of
one_octet b r network low ui =
    let some : suc (length r) ≡ 0 → ⊥ = λ h. omega arith in
    simp (ne_eqb _ _ some, lt-leb _ _ low, eq-eqb _ _ ui)

module _ (network ads : Bool) (s d : ℕ) (t : List ℕ) where
  i_kind_holds : (a : Bool) (ns nr r : ℕ) → ns < 8 → nr < 8 → r < 8 → kind_of (bit a * 32 + bit ads * 8 + ns % 8) (nr % 8 * 32 + r % 8 * 4 + 3) network ≡ Some (K.I a ns nr r)
  unfolding kind_of
  i_kind_holds a ns nr r x y z =
      let low : bit a * 32 + bit ads * 8 + ns % 8 < 64 = omega (arith, bit_le a, bit_le ads) in
      let sack : (nr % 8 * 32 + r % 8 * 4 + 3) % 4 ≡ 3 = sack_again nr r in
      let fa : flag 32 (bit a * 32 + bit ads * 8 + ns % 8) ≡ a = flag_is 32 (bit a * 32 + bit ads * 8 + ns % 8) a (omega (arith, bit_le a, bit_le ads)) in
      let fs : (bit a * 32 + bit ads * 8 + ns % 8) % 8 ≡ ns = omega (arith, x) in
      let fr : (nr % 8 * 32 + r % 8 * 4 + 3) / 32 ≡ nr = nr_again nr r y z in
      let ff : (nr % 8 * 32 + r % 8 * 4 + 3) / 4 % 8 ≡ r = r_again nr r y z in
      simp (lt-ltb _ _ low, eq-eqb _ _ sack) (λ i. Some (K.I (fa i) (fs i) (fr i) (ff i)))

  s_kind_holds : (a : Bool) (nr r : ℕ) → nr < 8 → r < 8 → kind_of (96 + bit ads * 8 + bit a * 4) (nr % 8 * 32 + r % 8 * 4 + 3) network ≡ Some (K.S a nr r)
  unfolding kind_of
  s_kind_holds a nr r y z =
      let high : 64 ≤ 96 + bit ads * 8 + bit a * 4 = omega arith in
      let bit5 : (96 + bit ads * 8 + bit a * 4) / 16 % 2 ≡ 0 = omega (arith, bit_le a, bit_le ads) in
      let sack : (nr % 8 * 32 + r % 8 * 4 + 3) % 4 ≡ 3 = sack_again nr r in
      let fa : flag 4 (96 + bit ads * 8 + bit a * 4) ≡ a = flag_is 4 (96 + bit ads * 8 + bit a * 4) a (omega (arith, bit_le a, bit_le ads)) in
      let fr : (nr % 8 * 32 + r % 8 * 4 + 3) / 32 ≡ nr = nr_again nr r y z in
      let ff : (nr % 8 * 32 + r % 8 * 4 + 3) / 4 % 8 ≡ r = r_again nr r y z in
      simp (le-ltb _ _ high, eq-eqb _ _ bit5, eq-eqb _ _ sack) (λ i. Some (K.S (fa i) (fr i) (ff i)))

  u_kind_holds : (m : ℕ) (response : Bool) → m < 16 → u_kind m response ≡ Some (K.U m response) → kind_of (112 + bit ads * 8 + bit (responds response network) * 4) (m % 16) network ≡ Some (K.U m response)
  unfolding kind_of
  u_kind_holds m response y e =
      let cr = responds response network in
      let high : 64 ≤ 112 + bit ads * 8 + bit cr * 4 = omega arith in
      let bit5 : (112 + bit ads * 8 + bit cr * 4) / 16 % 2 ≡ 0 → ⊥ = λ h. omega (arith, bit_le cr, bit_le ads) in
      let fm : m % 16 % 16 ≡ m = omega (arith, y) in
      let fc : flag 4 (112 + bit ads * 8 + bit cr * 4) ≡ cr = flag_is 4 (112 + bit ads * 8 + bit cr * 4) cr (omega (arith, bit_le cr, bit_le ads)) in
      simp (le-ltb _ _ high, ne_eqb _ _ bit5) (λ i. u_kind (fm i) (responds (fc i) network)) ∙ ap (u_kind m) (responds_twice response network) ∙ e

  two_again : (b c : ℕ) (k : Kind) → b < 128 → (b / 32 ≡ 2 → ⊥) → kind_of b c network ≡ Some k → flag 8 b ≡ ads → NarrowHead (head k ads s d 0) → head_of (b ∷ c ∷ rest ads s d t) network ≡ Some (head k ads s d (2 + bit ads))
  two_again b c k low ui e f p = two_octets b c (rest ads s d t) network low ui ∙ (λ i. headed (b ∷ c ∷ rest ads s d t) (f i) (e i)) ∙ ports_two k s d t ads b c p

  one_again : (b nu : ℕ) → b < 128 → b / 32 ≡ 2 → b % 8 ≡ nu → flag 8 b ≡ ads → NarrowHead (head (K.Ui nu) ads s d 0) → head_of (b ∷ rest ads s d t) network ≡ Some (head (K.Ui nu) ads s d (1 + bit ads))
  one_again b nu low ui e f p = one_octet b (rest ads s d t) network low ui ∙ (λ i. ports_after (b ∷ rest ads s d t) (K.Ui (e i)) (f i) 1) ∙ ports_one (K.Ui nu) s d t ads b p

  -- the header that is written, before t
  pub head_again : (k : Kind) → NarrowKind k → NarrowHead (head k ads s d 0) → head_of (head_octets (head k ads s d 0) network ++ t) network ≡ Some (head k ads s d (kind_length k + bit ads))
  unfolding head_octets kind_octets kind_length NarrowKind
  head_again (K.I a ns nr r) n p =
      let low : bit a * 32 + bit ads * 8 + ns % 8 < 128 = omega (arith, bit_le a, bit_le ads) in
      let ui : (bit a * 32 + bit ads * 8 + ns % 8) / 32 ≡ 2 → ⊥ = λ h. omega (arith, bit_le a, bit_le ads) in
      let f : flag 8 (bit a * 32 + bit ads * 8 + ns % 8) ≡ ads = flag_is 8 (bit a * 32 + bit ads * 8 + ns % 8) ads (omega (arith, bit_le a, bit_le ads)) in
      two_again _ _ (K.I a ns nr r) low ui (i_kind_holds a ns nr r n.0 n.1 n.2) f p
  head_again (K.S a nr r) n p =
      let low : 96 + bit ads * 8 + bit a * 4 < 128 = omega (arith, bit_le a, bit_le ads) in
      let ui : (96 + bit ads * 8 + bit a * 4) / 32 ≡ 2 → ⊥ = λ h. omega (arith, bit_le a, bit_le ads) in
      let f : flag 8 (96 + bit ads * 8 + bit a * 4) ≡ ads = flag_is 8 (96 + bit ads * 8 + bit a * 4) ads (omega (arith, bit_le a, bit_le ads)) in
      two_again _ _ (K.S a nr r) low ui (s_kind_holds a nr r n.0 n.1) f p
  head_again (K.Ui nu) n p =
      let low : 64 + bit ads * 8 + nu % 8 < 128 = omega (arith, bit_le ads) in
      let ui : (64 + bit ads * 8 + nu % 8) / 32 ≡ 2 = omega (arith, bit_le ads) in
      let f : flag 8 (64 + bit ads * 8 + nu % 8) ≡ ads = flag_is 8 (64 + bit ads * 8 + nu % 8) ads (omega (arith, bit_le ads)) in
      let k : (64 + bit ads * 8 + nu % 8) % 8 ≡ nu = omega (arith, n) in
      one_again _ nu low ui k f p
  head_again (K.U m response) n p =
      let cr = responds response network in
      let low : 112 + bit ads * 8 + bit cr * 4 < 128 = omega (arith, bit_le cr, bit_le ads) in
      let ui : (112 + bit ads * 8 + bit cr * 4) / 32 ≡ 2 → ⊥ = λ h. omega (arith, bit_le cr, bit_le ads) in
      let f : flag 8 (112 + bit ads * 8 + bit cr * 4) ≡ ads = flag_is 8 (112 + bit ads * 8 + bit cr * 4) ads (omega (arith, bit_le cr, bit_le ads)) in
      two_again _ _ (K.U m response) low ui (u_kind_holds m response n.0 n.1) f p
