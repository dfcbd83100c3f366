-- A header that was read has narrow fields, and is written as it was but for its spare bits. Assumes nothing.
use Prim.Native.Nat.{ℕ, suc, ◌+◌, ◌-◌, ◌*◌, ◌/◌, ◌%◌, ◌<◌, ◌≤◌}
use native.Mathlib.Omega.{arith}
use mathlib.Core.Path.{◌≡◌, refl, sym, ap, subst, ◌∙◌}
use mathlib.Core.List.{List, [], ◌∷◌, ◌++◌, append-nil}
use Rattle.std.specs.Prelude.{Option, Some, None}
use Rattle.std.proofs.lemmas.Option.{none-some}
use mathlib.Core.Bool.{Bool, true, false}
use mathlib.Core.Logic.{◌⊎◌, inl, inr}
use lib.ListN.{length, get_or, take}
use lib.Seq.{take-suc}
use lib.Dec.{ltb, leb, eqb}
use borrow.Author.Tests.{eqb-true, eqb-false, ltb-true, ltb-false, leb-false, ne_eqb}
use Rattle.base_lists.specs.Seq.{pick, bit, every}
use Rattle.base_lists.proofs.StoresAndParts.{true_false, every_at, told}
use Rattle.rds_frame.specs.declared.Kind.{Kind}
use Rattle.rds_frame.specs.declared.Kind.TheVariants as K
use Rattle.rds_frame.specs.declared.Head.{Head}
use Rattle.rds_frame.specs.Frame.{flag, sacked, commanded, answered, responds, u_kind, kind_of, ports_after, headed, head_of}
use Rattle.rds_pieces.specs.Octets.{ports_octet, kind_octets, kind_length}
use Rattle.rds_encoding.specs.Encoding.{head_octets}
use Rattle.rds_written.proofs.Narrow.{NarrowKind, NarrowHead}
use Rattle.rds_written.proofs.Headers.{head, responds_twice, one_octet, two_octets}
use Rattle.rds_written.proofs.Written.{same_kinds, same_heads, u_narrow}
use Rattle.rds_cleared.specs.Cleared.{cleared_head}

-- a bit as it was read
bit_of : (x : ℕ) → x < 2 → bit (eqb x 1) ≡ x
bit_of x h = go (eqb x 1) refl where
  go : (b : Bool) → eqb x 1 ≡ b → bit b ≡ x
  go true p = sym (eqb-true x 1 p)
  go false p = omega (arith, eqb-false x 1 p, h)

bit_flag : (w b : ℕ) → bit (flag w b) ≡ b / w % 2
bit_flag w b = bit_of (b / w % 2) (low (b / w)) where
  low : (y : ℕ) → y % 2 < 2
  low y = omega arith

-- the ports octet after `at` octets of s
record Ports (s : List ℕ) (at : ℕ) (h : Head) (ads : Bool) (k : Kind) : Type 0 where
  same_kind : h.kind ≡ k
  same_ads : h.ads ≡ ads
  narrow : NarrowHead (head h.kind h.ads h.source h.destination 0)
  octets : take h.end s ≡ take at s ++ take (bit h.ads) (ports_octet h.source h.destination ∷ [])
  ended : h.end ≡ at + bit h.ads

module _ (s : List ℕ) (octet : (i : ℕ) → get_or s i 0 < 256) (k : Kind) (at : ℕ) where
  ports_kept : (ads : Bool) (h : Head) → ports_after s k ads at ≡ Some h → Ports s at h ads k
  unfolding ports_after
  ports_kept true h e = go (leb (length s) at) refl e where
    there : Head
    there = record { kind = k; ads = true; source = get_or s at 0 / 16; destination = get_or s at 0 % 16; end = at + 1 }

    go : (b : Bool) → leb (length s) at ≡ b → pick b None (Some there) ≡ Some h → Ports s at h true k
    go true p e = absurd (none-some h e)
    go false p e =
        let o = octet at in
        let same : get_or s at 0 ≡ ports_octet (get_or s at 0 / 16) (get_or s at 0 % 16) = omega (arith, o) in
        let z : at + 1 ≡ suc at = omega arith in
        subst (λ (h : Head). Ports s at h true k) (same_heads there h e) (record {
          same_kind = refl;
          same_ads = refl;
          narrow = record { source_narrow = omega (arith, o); destination_narrow = omega arith; no_ports = λ e. true_false e };
          octets = ap (λ (n : ℕ). take n s) z ∙ take-suc s at 0 (leb-false (length s) at p) ∙ ap (λ (x : ℕ). take at s ++ (x ∷ [])) same;
          ended = refl;
        })
  ports_kept false h e = subst (λ (h : Head). Ports s at h false k) (same_heads (record { kind = k; ads = false; source = 0; destination = 0; end = at }) h e) (record {
    same_kind = refl;
    same_ads = refl;
    narrow = record { source_narrow = omega arith; destination_narrow = omega arith; no_ports = λ e. (refl, refl) };
    octets = sym (append-nil (take at s));
    ended = omega arith;
  })

-- a kind that was read in octets b and c: it is narrow, and its octets are these but for the spare bits
record KindKept (network : Bool) (b c : ℕ) (k : Kind) : Type 0 where
  narrow : NarrowKind k
  octets : (t : List ℕ) → take (kind_length k) (kind_octets k (flag 8 b) network) ++ t ≡ cleared_head k (b ∷ c ∷ t)

u_is : (m : ℕ) (response : Bool) (k : Kind) → u_kind m response ≡ Some k → K.U m response ≡ k
unfolding u_kind
u_is m true k h = go (answered m) h where
  go : (b : Bool) → pick b (Some (K.U m true)) None ≡ Some k → K.U m true ≡ k
  go true h = same_kinds (K.U m true) k h
  go false h = absurd (none-some k h)
u_is m false k h = go (commanded m) h where
  go : (b : Bool) → pick b (Some (K.U m false)) None ≡ Some k → K.U m false ≡ k
  go true h = same_kinds (K.U m false) k h
  go false h = absurd (none-some k h)

second_octet : (c : ℕ) → c < 256 → c % 4 ≡ 3 → c / 32 % 8 * 32 + c / 4 % 8 % 8 * 4 + 3 ≡ c
second_octet c h e =
    let q : c ≡ c / 4 * 4 + 3 = omega (arith, e) in
    let u : c / 32 ≡ c / 4 / 8 = omega arith in
    omega (arith, q, u, h)

above : (n b : ℕ) → n ≤ b → b ≡ n + (b - n)
above n b h = omega (arith, h)

-- octet 1 without its spare bits, over all values: of I, UI, S and U
i_octet : (b : ℕ) → b < 64 → b / 32 % 2 * 32 + b / 8 % 2 * 8 + b % 8 % 8 ≡ b / 32 * 32 + b % 16
unfolding every
i_octet b h = eqb-true _ _ (every_at (λ x. eqb (x / 32 % 2 * 32 + x / 8 % 2 * 8 + x % 8 % 8) (x / 32 * 32 + x % 16)) 64 all b h) where
  all : every (λ x. eqb (x / 32 % 2 * 32 + x / 8 % 2 * 8 + x % 8 % 8) (x / 32 * 32 + x % 16)) 64 ≡ true
  all = refl

ui_octet : (y : ℕ) → y < 32 → 64 + (64 + y) / 8 % 2 * 8 + (64 + y) % 8 % 8 ≡ (64 + y) / 32 * 32 + (64 + y) % 16
unfolding every
ui_octet b h = eqb-true _ _ (every_at (λ y. eqb (64 + (64 + y) / 8 % 2 * 8 + (64 + y) % 8 % 8) ((64 + y) / 32 * 32 + (64 + y) % 16)) 32 all b h) where
  all : every (λ y. eqb (64 + (64 + y) / 8 % 2 * 8 + (64 + y) % 8 % 8) ((64 + y) / 32 * 32 + (64 + y) % 16)) 32 ≡ true
  all = refl

s_octet : (y : ℕ) → y < 16 → 96 + (96 + y) / 8 % 2 * 8 + (96 + y) / 4 % 2 * 4 ≡ (96 + y) / 4 * 4
unfolding every
s_octet b h = eqb-true _ _ (every_at (λ y. eqb (96 + (96 + y) / 8 % 2 * 8 + (96 + y) / 4 % 2 * 4) ((96 + y) / 4 * 4)) 16 all b h) where
  all : every (λ y. eqb (96 + (96 + y) / 8 % 2 * 8 + (96 + y) / 4 % 2 * 4) ((96 + y) / 4 * 4)) 16 ≡ true
  all = refl

u_octet : (y : ℕ) → y < 16 → 112 + (112 + y) / 8 % 2 * 8 + (112 + y) / 4 % 2 * 4 ≡ (112 + y) / 4 * 4
unfolding every
u_octet b h = eqb-true _ _ (every_at (λ y. eqb (112 + (112 + y) / 8 % 2 * 8 + (112 + y) / 4 % 2 * 4) ((112 + y) / 4 * 4)) 16 all b h) where
  all : every (λ y. eqb (112 + (112 + y) / 8 % 2 * 8 + (112 + y) / 4 % 2 * 4) ((112 + y) / 4 * 4)) 16 ≡ true
  all = refl

module _ (network : Bool) (b c : ℕ) (hb : b < 128) (hc : c < 256) where
  i_kept : b < 64 → c % 4 ≡ 3 → KindKept network b c (K.I (flag 32 b) (b % 8) (c / 32) (c / 4 % 8))
  unfolding NarrowKind kind_length kind_octets cleared_head
  i_kept low sack =
      let x : bit (flag 32 b) * 32 + bit (flag 8 b) * 8 + b % 8 % 8 ≡ b / 32 * 32 + b % 16 = (λ i. bit_flag 32 b i * 32 + bit_flag 8 b i * 8 + b % 8 % 8) ∙ i_octet b low in
      record { narrow = (omega arith, omega (arith, hc), omega arith); octets = λ t i. x i ∷ second_octet c hc sack i ∷ t }

  s_kept : 64 ≤ b → (b / 32 ≡ 2 → ⊥) → b / 16 % 2 ≡ 0 → c % 4 ≡ 3 → KindKept network b c (K.S (flag 4 b) (c / 32) (c / 4 % 8))
  unfolding NarrowKind kind_length kind_octets cleared_head
  s_kept high ui bit5 sack =
      let x : 96 + bit (flag 8 b) * 8 + bit (flag 4 b) * 4 ≡ b / 4 * 4 =
      (λ i. 96 + bit_flag 8 b i * 8 + bit_flag 4 b i * 4) ∙ rw (above 96 b (omega (arith, high, ui, bit5, hb))) (s_octet (b - 96) (omega (arith, high, ui, bit5, hb))) in
      record { narrow = (omega (arith, hc), omega arith); octets = λ t i. x i ∷ second_octet c hc sack i ∷ t }

  u_kept : 64 ≤ b → (b / 32 ≡ 2 → ⊥) → (b / 16 % 2 ≡ 0 → ⊥) → (k : Kind) → u_kind (c % 16) (responds (flag 4 b) network) ≡ Some k → KindKept network b c k
  unfolding NarrowKind kind_length kind_octets cleared_head
  u_kept high ui bit5 k some =
      let r : Bool = responds (flag 4 b) network in
      let e : K.U (c % 16) r ≡ k = u_is (c % 16) r k some in
      let cr : bit (responds r network) ≡ b / 4 % 2 = ap bit (responds_twice (flag 4 b) network) ∙ bit_flag 4 b in
      let x : 112 + bit (flag 8 b) * 8 + bit (responds r network) * 4 ≡ b / 4 * 4 =
      (λ i. 112 + bit_flag 8 b i * 8 + cr i * 4) ∙ rw (above 112 b (omega (arith, high, ui, bit5, hb))) (u_octet (b - 112) (omega (arith, high, ui, bit5, hb))) in
      let y : c % 16 % 16 ≡ c % 16 = omega arith in
      subst (KindKept network b c) e (record { narrow = u_narrow c r (K.U (c % 16) r) (some ∙ ap Some (sym e)); octets = λ t i. x i ∷ y i ∷ t })

-- a header that was read: it is narrow, and its octets are those of the frame but for the spare bits
pub record HeadKept (s : List ℕ) (network : Bool) (h : Head) : Type 0 where
  pub narrow_kind : NarrowKind h.kind
  pub narrow_head : NarrowHead (head h.kind h.ads h.source h.destination 0)
  pub octets : head_octets h network ≡ cleared_head h.kind (take h.end s)

module _ (s : List ℕ) (network : Bool) (h : Head) where
  kept_by : (k : Kind) (ads : Bool) (at : ℕ) → Ports s at h ads k → NarrowKind k → ((t : List ℕ) → take (kind_length k) (kind_octets k ads network) ++ t ≡ cleared_head k (take at s ++ t)) → HeadKept s network h
  unfolding head_octets
  kept_by k ads at p n f =
      let t : List ℕ = take (bit h.ads) (ports_octet h.source h.destination ∷ []) in
      record {
        narrow_kind = rw p.same_kind n;
        narrow_head = p.narrow;
        octets = (λ i. take (kind_length (p.same_kind i)) (kind_octets (p.same_kind i) (p.same_ads i) network) ++ t) ∙ f t ∙ (λ i. cleared_head (sym p.same_kind i) (sym p.octets i));
      }

kind_kept : (network : Bool) (b c : ℕ) → b < 128 → c < 256 → (b / 32 ≡ 2 → ⊥) → (k : Kind) → kind_of b c network ≡ Some k → KindKept network b c k
unfolding kind_of
kind_kept network b c hb hc ui k = go (ltb b 64) refl (sacked c) refl (eqb (b / 16 % 2) 0) refl where
  u : Option Kind
  u = u_kind (c % 16) (responds (flag 4 b) network)

  i : Kind
  i = K.I (flag 32 b) (b % 8) (c / 32) (c / 4 % 8)

  s : Kind
  s = K.S (flag 4 b) (c / 32) (c / 4 % 8)

  go : (x : Bool) → ltb b 64 ≡ x → (y : Bool) → sacked c ≡ y → (z : Bool) → eqb (b / 16 % 2) 0 ≡ z
      → pick x (pick y (Some i) None) (pick z (pick y (Some s) None) u) ≡ Some k → KindKept network b c k
  go true p true q z r e = subst (KindKept network b c) (same_kinds i k e) (i_kept network b c hb hc (ltb-true b 64 p) (eqb-true (c % 4) 3 q))
  go true p false q z r e = absurd (none-some k e)
  go false p true q true r e = subst (KindKept network b c) (same_kinds s k e) (s_kept network b c hb hc (ltb-false b 64 p) ui (eqb-true (b / 16 % 2) 0 r) (eqb-true (c % 4) 3 q))
  go false p false q true r e = absurd (none-some k e)
  go false p y q false r e = u_kept network b c hb hc (ltb-false b 64 p) ui (eqb-false (b / 16 % 2) 0 r) k e

ui_narrow : (b : ℕ) → NarrowKind (K.Ui (b % 8))
unfolding NarrowKind
ui_narrow b = omega arith

ui_kept : (network : Bool) (b : ℕ) (t : List ℕ) → b < 128 → b / 32 ≡ 2 → take (kind_length (K.Ui (b % 8))) (kind_octets (K.Ui (b % 8)) (flag 8 b) network) ++ t ≡ cleared_head (K.Ui (b % 8)) (b ∷ t)
unfolding kind_length kind_octets cleared_head
ui_kept network b t hb ui =
    let x : 64 + bit (flag 8 b) * 8 + b % 8 % 8 ≡ b / 32 * 32 + b % 16 = (λ i. 64 + bit_flag 8 b i * 8 + b % 8 % 8) ∙ rw (above 64 b (omega (arith, ui))) (ui_octet (b - 64) (omega (arith, ui))) in
    λ i. x i ∷ t

two_kept : (network : Bool) (b c : ℕ) (r : List ℕ) → ((i : ℕ) → get_or (b ∷ c ∷ r) i 0 < 256) → b < 128 → (b / 32 ≡ 2 → ⊥) → (h : Head)
    → headed (b ∷ c ∷ r) (flag 8 b) (kind_of b c network) ≡ Some h → HeadKept (b ∷ c ∷ r) network h
two_kept network b c r octet hb ui h = go (kind_of b c network) refl where
  go : (k : Option Kind) → kind_of b c network ≡ k → headed (b ∷ c ∷ r) (flag 8 b) k ≡ Some h → HeadKept (b ∷ c ∷ r) network h
  go (Some k) q e =
      let kept = kind_kept network b c hb (octet 1) ui k q in
      kept_by (b ∷ c ∷ r) network h k (flag 8 b) 2 (ports_kept (b ∷ c ∷ r) octet k 2 (flag 8 b) h e) kept.narrow kept.octets
  go None q e = absurd (none-some h e)

pub head_kept : (s : List ℕ) (network : Bool) → ((i : ℕ) → get_or s i 0 < 256) → (h : Head) → head_of s network ≡ Some h → HeadKept s network h
unfolding head_of
head_kept [] network octet h e = absurd (none-some h e)
head_kept (b ∷ r) network octet h e = go (told (leb 128 b)) (told (eqb (b / 32) 2)) r octet e where
  go : (leb 128 b ≡ true) ⊎ (leb 128 b ≡ false) → (eqb (b / 32) 2 ≡ true) ⊎ (eqb (b / 32) 2 ≡ false) → (r : List ℕ) → ((i : ℕ) → get_or (b ∷ r) i 0 < 256) → head_of (b ∷ r) network ≡ Some h → HeadKept (b ∷ r) network h
  go (inl p) q r octet e =
      let n : suc (length r) ≡ 0 → ⊥ = λ h. omega arith in
      absurd (none-some h (rw (ne_eqb _ _ n, p) at e))
  go (inr p) (inl q) r octet e =
      let one = one_octet b r network (leb-false 128 b p) (eqb-true (b / 32) 2 q) in
      kept_by (b ∷ r) network h (K.Ui (b % 8)) (flag 8 b) 1 (ports_kept (b ∷ r) octet (K.Ui (b % 8)) 1 (flag 8 b) h (sym one ∙ e)) (ui_narrow b) (λ t. ui_kept network b t (leb-false 128 b p) (eqb-true (b / 32) 2 q))
  go (inr p) (inr q) [] octet e = absurd (none-some h (rw (p, q) at e))
  go (inr p) (inr q) (c ∷ r) octet e = two_kept network b c r octet (leb-false 128 b p) (eqb-false (b / 32) 2 q) h (sym (two_octets b c r network (leb-false 128 b p) (eqb-false (b / 32) 2 q)) ∙ e)
