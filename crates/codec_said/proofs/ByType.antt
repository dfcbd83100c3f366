-- The kind that words say, type by type. Assumes nothing.
use Prim.Native.Nat.{ℕ, ◌%◌}
use mathlib.Core.Path.{◌≡◌}
use mathlib.Core.List.{List}
use Rattle.codec_pdu.specs.declared.Kind.TheVariants.{Result, Ack, Abort, SegInvoke, SegResult, Nack}
use Rattle.codec_said.specs.Said.{word, set?, invoke_said, kind_said}

module _ (w : List ℕ) where
  pub said_invoke : word w 0 ≡ 1 → kind_said w ≡ invoke_said w
  unfolding kind_said
  said_invoke e = rw e

  pub said_result : word w 0 ≡ 2 → kind_said w ≡ Result (set? w 1) (set? w 2) (set? w 3)
  unfolding kind_said
  said_result e = rw e

  pub said_ack : word w 0 ≡ 3 → kind_said w ≡ Ack (set? w 9) (set? w 3)
  unfolding kind_said
  said_ack e = rw e

  pub said_abort : word w 0 ≡ 4 → kind_said w ≡ Abort (word w 10 % 256) (word w 11 % 256)
  unfolding kind_said
  said_abort e = rw e

  pub said_seg_invoke : word w 0 ≡ 5 → kind_said w ≡ SegInvoke (set? w 1) (set? w 2) (set? w 3) (word w 12 % 256)
  unfolding kind_said
  said_seg_invoke e = rw e

  pub said_seg_result : word w 0 ≡ 6 → kind_said w ≡ SegResult (set? w 1) (set? w 2) (set? w 3) (word w 12 % 256)
  unfolding kind_said
  said_seg_result e = rw e

  pub said_nack : word w 0 ≡ 7 → kind_said w ≡ Nack (set? w 3) (word w 13 % 256) (word w 14)
  unfolding kind_said
  said_nack e = rw e
