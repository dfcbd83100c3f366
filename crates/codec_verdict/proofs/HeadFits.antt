-- Words 0 to 23 of a PDU that fits are within their bounds, kind by kind. Assumes nothing.
use Prim.Native.Nat.{ℕ, zero, suc, ◌+◌, ◌≤◌, ◌<◌}
use native.Mathlib.Omega.{arith}
use mathlib.Core.Path.{◌≡◌, refl}
use mathlib.Core.List.{List, [], ◌++◌}
use mathlib.Core.Bool.{true}
use mathlib.Core.Logic.{◌⊎◌, inl, inr}
use lib.ListN.{length, get_or}
use Rattle.base_lists.proofs.StoresAndParts.{bit_le, below_or_last}
use Rattle.codec_items.specs.declared.Unknown.{Unknown}
use Rattle.codec_pdu.specs.Pdu.{bare_of}
use Rattle.codec_pdu.specs.declared.Kind.{Kind}
use Rattle.codec_pdu.specs.declared.Kind.TheVariants.{Invoke, Result, Ack, Abort, SegInvoke, SegResult, Nack, Wrong, Refused}
use Rattle.codec_words.specs.Words.{front_words, invoke_words, other_words, rest_words}
use Rattle.codec_said.specs.Said.{word, NarrowKind}
use Rattle.codec_said.proofs.Stored.{head_of}
use Rattle.codec_encoding.specs.Write.{FitKind}
use Rattle.codec_verdict.specs.Widths.{any, widths}
use Rattle.codec_verdict.proofs.Types.{Typed}

-- P of every number below n
abbrev pub Upto : (ℕ → Type 0) → ℕ → Type 0
Upto P zero = Unit
Upto P (suc n) = P n × Upto P n

pub upto_at : (P : ℕ → Type 0) (n : ℕ) → Upto P n → (i : ℕ) → i < n → P i
upto_at P zero u i h = absurd (omega arith)
upto_at P (suc n) u i h = last (below_or_last i n h) (λ k. upto_at P n u.1 i k)
  where
    last : (i < n) ⊎ (i ≡ n) → (i < n → P i) → P i
    last (inl k) f = f k
    last (inr k) f = rw k u.0

module _ (s : List ℕ) (tid count start len : ℕ) (unknown : Unknown) (rest : List ℕ) where
  -- the words of a kind, and then others
  abbrev pub words : Kind → List ℕ
  words k = head_of tid count start len unknown rest k ++ rest

  abbrev pub Below : Kind → ℕ → Type 0
  Below k i = word (words k) i ≤ get_or (get_or widths i []) (word (words k) 0) 0

  pub record HeadFits (k : Kind) : Type 0 where
    pub type_said : Typed (word (words k) 0)
    pub narrow : Upto (Below k) 24
    pub list_inside : word (words k) 14 + word (words k) 13 ≤ length s

  module _ (tid_fits : tid < 65536) (count_fits : count ≤ any) (start_fits : start ≤ any) (len_fits : len ≤ any) (unknown_fits : (unknown.identity ≤ any) × (unknown.place ≤ any)) (here : length s ≤ any) where
    pub head_fits : (k : Kind) → FitKind s k → NarrowKind k → (bare_of k ≡ true → start ≡ 0) → HeadFits k
    unfolding FitKind NarrowKind bare_of widths front_words invoke_words other_words rest_words
    head_fits (Invoke a b c v n u l) f o z = record { type_said = Typed.invoke refl; narrow = omega (arith, bit_le a, bit_le b, bit_le c, bit_le n, bit_le u, unknown_fits.0, unknown_fits.1); list_inside = omega arith }
    head_fits (Result a b c) f o z = record { type_said = Typed.result refl; narrow = omega (arith, bit_le a, bit_le b, bit_le c, unknown_fits.0, unknown_fits.1); list_inside = omega arith }
    head_fits (Ack a c) f o z = record { type_said = Typed.ack refl; narrow = omega (arith, bit_le a, bit_le c, z refl, unknown_fits.0, unknown_fits.1); list_inside = omega arith }
    head_fits (Abort t r) f o z = record { type_said = Typed.abort refl; narrow = omega (arith, z refl, unknown_fits.0, unknown_fits.1); list_inside = omega arith }
    head_fits (SegInvoke a b c p) f o z = record { type_said = Typed.seg_invoke refl; narrow = omega (arith, bit_le a, bit_le b, bit_le c, unknown_fits.0, unknown_fits.1); list_inside = omega arith }
    head_fits (SegResult a b c p) f o z = record { type_said = Typed.seg_result refl; narrow = omega (arith, bit_le a, bit_le b, bit_le c, unknown_fits.0, unknown_fits.1); list_inside = omega arith }
    head_fits (Nack c n l) f o z = record { type_said = Typed.nack refl; narrow = omega (arith, bit_le c, z refl, unknown_fits.0, unknown_fits.1); list_inside = f }
    head_fits (Wrong d) f o z = absurd f
    head_fits (Refused r) f o z = absurd f
