-- The header, the body and the entries of a frame that was read. Assumes nothing.
use mathlib.Core.Path.{◌≡◌, refl, subst}
use mathlib.Core.List.{List}
use mathlib.Core.Bool.{Bool}
use Prim.Native.Nat.{ℕ}
use Rattle.std.specs.Prelude.{Option, Some, None}
use Rattle.std.proofs.lemmas.Option.{none-some}
use Rattle.rds_frame.specs.declared.Head.{Head}
use Rattle.rds_frame.specs.Frame.{head_of}
use Rattle.rds_body.specs.declared.Managed.{Managed}
use Rattle.rds_reading.specs.declared.Frame.{Frame}
use Rattle.rds_reading.specs.Read.{body_after, framed, frame_by, frame_of}

pub same_frames : (a b : Frame) → Some a ≡ Some b → a ≡ b
same_frames a b p = cc

pub record Parts (s : List ℕ) (network : Bool) (G : Frame) : Type 0 where
  pub heads : head_of s network ≡ Some G.head
  pub bodies : body_after s G.head ≡ Some (record { body = G.body; list = G.list })

module _ (s : List ℕ) (network : Bool) (G : Frame) where
  with_body : (h : Head) → head_of s network ≡ Some h → (o : Option Managed) → body_after s h ≡ o → framed h o ≡ Some G → Parts s network G
  with_body h q (Some m) r e = subst (Parts s network) (same_frames (record { head = h; body = m.body; list = m.list }) G e) (record { heads = q; bodies = r })
  with_body h q None r e = absurd (none-some G e)

  pub parts_of : frame_of s network ≡ Some G → Parts s network G
  unfolding frame_of
  parts_of = go (head_of s network) refl where
    go : (h : Option Head) → head_of s network ≡ h → frame_by s h ≡ Some G → Parts s network G
    go (Some h) q e = with_body h q (body_after s h) refl e
    go None q e = absurd (none-some G e)
