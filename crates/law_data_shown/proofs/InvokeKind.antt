-- A PDU of type 1 that isn't malformed is an Invoke, of class 0, 1 or 2. Assumes nothing.
use Prim.Native.Nat.{ℕ, ◌-◌, ◌/◌, ◌%◌, ◌≤◌}
use native.Mathlib.Omega.{arith}
use borrow.Author.Tests.{eqb-false}
use mathlib.Core.Path.{◌≡◌, refl, sym, ◌∙◌}
use mathlib.Core.Bool.{Bool, true, false}
use mathlib.Core.List.{List}
use lib.ListN.{length, get_or}
use lib.Dec.{ltb, eqb}
use Rattle.base_layout.specs.Layout.{datagram_bound}
use Rattle.base_lists.specs.Seq.{pick}
use Rattle.base_lists.proofs.StoresAndParts.{true_false}
use Rattle.codec_items.specs.Items.{Verdict, Items}
use Rattle.base_numbers.specs.declared.Malformed.TheVariants.{D1, D5}
use Rattle.std.specs.Prelude.{Ok, Err}
use Rattle.codec_pdu.specs.Pdu.{sound_of, bare_of, blank_pdu}
use Rattle.codec_pdu.specs.declared.Kind.{Kind}
use Rattle.codec_pdu.specs.declared.Kind.TheVariants as Kind
use Rattle.codec_pdu.specs.declared.Pdu.{Pdu}
use Rattle.codec_reading.specs.Read.{flag, lowest, kind_of, type_of, bad_head, good_head, head_of, whole, finish_by, finished, items_after, after_head, pdu_of}
use Rattle.codec_reading.specs.declared.Head.{Head}
use Rattle.step_arrivals.specs.Arrivals.{wanted_of}

-- an Invoke, of class and U/P as they are read of it
pub record InvokeKind (k : Kind) : Type 0 where
  pub gtr : Bool
  pub ttr : Bool
  pub rid : Bool
  pub version : ℕ
  pub tid_new : Bool
  pub is : k ≡ Kind.Invoke gtr ttr rid version tid_new (wanted_of k).up (wanted_of k).class
  pub class_known : (wanted_of k).class ≤ 2

-- if it isn't malformed
abbrev Invokes : Kind → Type 0
Invokes k = sound_of k ≡ true → InvokeKind k

chosen : (b : Bool) (p q : Pdu) → Invokes p.kind → Invokes q.kind → Invokes (pick b p q).kind
chosen true p q h k = h
chosen false p q h k = k

blank : (k : Kind) → sound_of k ≡ false → Invokes (blank_pdu k).kind
unfolding blank_pdu
blank k e sound = true_false (sym sound ∙ e)

class_of_two_bits : (n : ℕ) → eqb (n % 4) 3 ≡ false → n % 4 ≤ 2
class_of_two_bits n e = omega (arith, eqb-false (n % 4) 3 e)

type_1 : (f x : ℕ) → Invokes (kind_of 1 f x)
unfolding kind_of wanted_of sound_of
type_1 f x = go (eqb (x % 4) 3) refl
  where
    go : (b : Bool) → eqb (x % 4) 3 ≡ b → Invokes (pick b (Kind.Wrong D5) (Kind.Invoke (flag 4 f) (flag 2 f) (lowest f) (x / 64) (flag 32 x) (flag 16 x) (x % 4)))
    go true e sound = true_false (sym sound)
    go false e sound = record { gtr = flag 4 f; ttr = flag 2 f; rid = lowest f; version = x / 64; tid_new = flag 32 x; is = refl; class_known = class_of_two_bits x e }

module _ (s : List ℕ) (type : type_of s ≡ 1) where
  short_head : (b : Bool) (h : Head) → Invokes h.kind → Invokes (pick b (bad_head D1) h).kind
  unfolding sound_of
  short_head true h k sound = true_false (sym sound)
  short_head false h k sound = k sound

  head : Invokes (head_of s).kind
  unfolding head_of
  head = rw type (short_head (ltb (length s) 3) (pick (ltb (length s) 4) (bad_head D1) (good_head s 1 (get_or s 3 0) 4)) (short_head (ltb (length s) 4) (good_head s 1 (get_or s 3 0) 4) (type_1 (get_or s 0 0 % 8) (get_or s 3 0))))

  finishes : (h : Head) (i : Items) → Invokes h.kind → Invokes (finished s h i).kind
  unfolding finished sound_of
  finishes h i k = go i.verdict
    where
      go : (v : Verdict) → Invokes (finish_by v s h i).kind
      go (Err d) = blank _ refl
      go (Ok tt) = chosen (bare_of h.kind) _ _ (chosen (eqb (length s - i.end) 0) (whole h i 0 0) _ k (blank _ refl)) k

  after : (h : Head) → Invokes h.kind → Invokes (after_head s h).kind
  unfolding after_head
  after h k = go (sound_of h.kind) refl
    where
      go : (b : Bool) → sound_of h.kind ≡ b → Invokes (pick b (finished s h (items_after s h)) (blank_pdu h.kind)).kind
      go true e = finishes h (items_after s h) k
      go false e = blank h.kind e

  pub invoke_read : Invokes (pdu_of s).kind
  unfolding pdu_of sound_of
  invoke_read = chosen (eqb (length s) 0) _ _ (blank _ refl) (chosen (ltb datagram_bound (length s)) _ _ (blank _ refl) (after (head_of s) head))
