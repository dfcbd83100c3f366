-- What a kind keeps when a Nack's list lies at another place. Assumes nothing.
use Prim.Native.Nat.{ℕ}
use mathlib.Core.Path.{◌≡◌, refl}
use mathlib.Core.List.{List}
use mathlib.Core.Bool.{true}
use Rattle.codec_pdu.specs.Pdu.{sound_of, bare_of}
use Rattle.codec_pdu.specs.declared.Kind.{Kind}
use Rattle.codec_pdu.specs.declared.Kind.TheVariants.{Invoke, Result, Ack, Abort, SegInvoke, SegResult, Nack, Wrong, Refused}
use Rattle.codec_encoding.specs.Write.{FitKind}
use Rattle.law_reads_back.specs.ReadsBack.{kind_at}

pub bare_same : (k : Kind) (at : ℕ) → bare_of (kind_at at k) ≡ bare_of k
unfolding bare_of kind_at
bare_same (Invoke a b c v n u l) at = refl
bare_same (Result a b c) at = refl
bare_same (Ack a c) at = refl
bare_same (Abort t r) at = refl
bare_same (SegInvoke a b c p) at = refl
bare_same (SegResult a b c p) at = refl
bare_same (Nack c n l) at = refl
bare_same (Wrong d) at = refl
bare_same (Refused r) at = refl

pub sound_kind : (s : List ℕ) (k : Kind) (at : ℕ) → FitKind s k → sound_of (kind_at at k) ≡ true
unfolding sound_of kind_at FitKind
sound_kind s (Invoke a b c v n u l) at w = refl
sound_kind s (Result a b c) at w = refl
sound_kind s (Ack a c) at w = refl
sound_kind s (Abort t r) at w = refl
sound_kind s (SegInvoke a b c p) at w = refl
sound_kind s (SegResult a b c p) at w = refl
sound_kind s (Nack c n l) at w = refl
sound_kind s (Wrong d) at w = absurd w
sound_kind s (Refused r) at w = absurd w

pub kind_twice : (k : Kind) (at from : ℕ) → kind_at at (kind_at from k) ≡ kind_at at k
unfolding kind_at
kind_twice (Invoke a b c v n u l) at from = refl
kind_twice (Result a b c) at from = refl
kind_twice (Ack a c) at from = refl
kind_twice (Abort t r) at from = refl
kind_twice (SegInvoke a b c p) at from = refl
kind_twice (SegResult a b c p) at from = refl
kind_twice (Nack c n l) at from = refl
kind_twice (Wrong d) at from = refl
kind_twice (Refused r) at from = refl
