-- The kind of a PDU that was read from octets holds octets. Assumes nothing.
use Prim.Native.Nat.{ℕ, ◌+◌, ◌-◌, ◌/◌, ◌%◌, ◌≤◌, ◌<◌}
use native.Mathlib.Omega.{arith}
use mathlib.Core.Path.{◌≡◌, sym}
use mathlib.Core.List.{List}
use mathlib.Core.Logic.{◌⊎◌, inl, inr}
use mathlib.Core.Bool.{Bool, true, false}
use lib.ListN.{length, get_or, get_or-eq_default}
use lib.Dec.{ltb, eqb}
use Rattle.base_lists.specs.Seq.{pick}
use Rattle.base_lists.proofs.StoresAndParts.{true_false, lt_or_le}
use Rattle.base_numbers.specs.declared.Malformed.TheVariants.{D1, D2, D5, D6, D7}
use Rattle.base_numbers.specs.declared.Malformed.{Malformed}
use Rattle.base_numbers.specs.declared.Refusal.TheVariants.{WrongLength}
use Rattle.std.specs.Prelude.{Ok, Err}
use Rattle.codec_items.specs.Items.{Verdict, Items}
use Rattle.codec_pdu.specs.Pdu.{sound_of, bare_of, blank_pdu}
use Rattle.codec_pdu.specs.declared.Kind.{Kind}
use Rattle.codec_pdu.specs.declared.Kind.TheVariants.{Invoke, Result, Ack, Abort, SegInvoke, SegResult, Nack, Wrong, Refused}
use Rattle.codec_reading.specs.declared.Head.{Head}
use Rattle.codec_reading.specs.Read.{flag, lowest, kind_of, type_of, bad_head, good_head, head_of, whole, finish_by, finished, items_after, after_head, pdu_of}
use Rattle.codec_said.specs.Said.{NarrowKind}
use Rattle.law_writes_back.specs.WritesBack.{Octets}

-- a kind that is a PDU's holds octets
abbrev Tame : Kind → Type 0
Tame k = sound_of k ≡ true → NarrowKind k

tame_wrong : (d : Malformed) → Tame (Wrong d)
unfolding sound_of
tame_wrong d e = true_false (sym e)

tame_invoke : (a b c : Bool) (v : ℕ) (n u : Bool) (l : ℕ) → v < 256 → l < 256 → Tame (Invoke a b c v n u l)
unfolding NarrowKind
tame_invoke a b c v n u l p q e = (p, q)

tame_abort : (t r : ℕ) → t < 256 → r < 256 → Tame (Abort t r)
unfolding NarrowKind
tame_abort t r p q e = (p, q)

tame_kind : (t f x : ℕ) → f < 256 → x < 256 → Tame (kind_of t f x)
unfolding kind_of NarrowKind
tame_kind t f x u v = go (eqb t 1) (eqb (x % 4) 3) (eqb t 2) (eqb t 3) (eqb t 4) (ltb 1 f) (eqb t 5) (eqb t 6) (eqb t 7)
  where
    go : (one three two ack abort over segInvoke segResult nack : Bool)
        → Tame (pick one (pick three (Wrong D5) (Invoke (flag 4 f) (flag 2 f) (lowest f) (x / 64) (flag 32 x) (flag 16 x) (x % 4)))
        (pick two (Result (flag 4 f) (flag 2 f) (lowest f))
        (pick ack (Ack (flag 4 f) (lowest f))
        (pick abort (pick over (Wrong D6) (Abort f x))
        (pick segInvoke (SegInvoke (flag 4 f) (flag 2 f) (lowest f) x)
        (pick segResult (SegResult (flag 4 f) (flag 2 f) (lowest f) x)
        (pick nack (Nack (lowest f) x 4) (Wrong D2))))))))
    go true true b c d e g h k = tame_wrong D5
    go true false b c d e g h k = tame_invoke _ _ _ (x / 64) _ _ (x % 4) (omega arith) (omega arith)
    go false a true c d e g h k = λ _. tt
    go false a false true d e g h k = λ _. tt
    go false a false false true true g h k = tame_wrong D6
    go false a false false true false g h k = tame_abort f x u v
    go false a false false false e true h k = λ _. v
    go false a false false false e false true k = λ _. v
    go false a false false false e false false true = λ _. v
    go false a false false false e false false false = tame_wrong D2

module _ (b : List ℕ) (octets : Octets b) where
  octet : (i : ℕ) → get_or b i 0 < 256
  octet i = go (lt_or_le i (length b))
    where
      go : (i < length b) ⊎ (length b ≤ i) → get_or b i 0 < 256
      go (inl h) = octets i h
      go (inr h) = rw (get_or-eq_default b 0 h) (omega arith)

  good : (t x end : ℕ) → x < 256 → Tame (good_head b t x end).kind
  good t x end h = tame_kind t (get_or b 0 0 % 8) x (omega arith) h

  tame_head : Tame (head_of b).kind
  unfolding head_of
  tame_head = go (eqb (type_of b) 0) (ltb 7 (type_of b)) (ltb (length b) 3) (eqb (type_of b) 2) (eqb (type_of b) 3) (ltb (length b) 4) (eqb (type_of b) 7) (ltb (length b) (get_or b 3 0 + 4))
    where
      go : (none over short result ack cut nack list : Bool)
          → Tame (pick none (bad_head D2) (pick over (bad_head D2) (pick short (bad_head D1) (pick result (good_head b 2 0 3) (pick ack (good_head b 3 0 3)
          (pick cut (bad_head D1) (pick nack (pick list (bad_head D1) (good_head b 7 (get_or b 3 0) (get_or b 3 0 + 4))) (good_head b (type_of b) (get_or b 3 0) 4)))))))).kind
      go true p q r s t u v = tame_wrong D2
      go false true q r s t u v = tame_wrong D2
      go false false true r s t u v = tame_wrong D1
      go false false false true s t u v = good 2 0 3 (omega arith)
      go false false false false true t u v = good 3 0 3 (omega arith)
      go false false false false false true u v = tame_wrong D1
      go false false false false false false true true = tame_wrong D1
      go false false false false false false true false = good 7 (get_or b 3 0) (get_or b 3 0 + 4) (octet 3)
      go false false false false false false false v = good (type_of b) (get_or b 3 0) 4 (octet 3)

  tame_blank : (k : Kind) → Tame k → Tame (blank_pdu k).kind
  unfolding blank_pdu
  tame_blank k p = p

  tame_finish : (v : Verdict) (h : Head) (i : Items) → Tame h.kind → Tame (finish_by v b h i).kind
  tame_finish (Err d) h i p = tame_blank (Wrong d) (tame_wrong d)
  tame_finish (Ok tt) h i p = go (bare_of h.kind) (eqb (length b - i.end) 0)
    where
      go : (bare none : Bool) → Tame (pick bare (pick none (whole h i 0 0) (blank_pdu (Wrong D7))) (whole h i i.end (length b - i.end))).kind
      go true true = p
      go true false = tame_blank (Wrong D7) (tame_wrong D7)
      go false none = p

  refused : Tame (blank_pdu (Refused WrongLength)).kind
  unfolding sound_of blank_pdu
  refused e = true_false (sym e)

  pub tame_read : sound_of (pdu_of b).kind ≡ true → NarrowKind (pdu_of b).kind
  unfolding pdu_of after_head finished
  tame_read = go (eqb (length b) 0) (ltb 1500 (length b)) (sound_of (head_of b).kind)
    where
      go : (none long sound : Bool)
          → Tame (pick none (blank_pdu (Refused WrongLength)) (pick long (blank_pdu (Refused WrongLength))
          (pick sound (finish_by (items_after b (head_of b)).verdict b (head_of b) (items_after b (head_of b))) (blank_pdu (head_of b).kind)))).kind
      go true long sound = refused
      go false true sound = refused
      go false false true = tame_finish (items_after b (head_of b)).verdict (head_of b) (items_after b (head_of b)) tame_head
      go false false false = tame_blank (head_of b).kind tame_head
