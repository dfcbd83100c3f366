-- The frame that words say has fifteen places for entries; and one that is accepted fits. Assumes nothing.
use Prim.Native.Nat.{ℕ}
use mathlib.Core.Path.{◌≡◌, subst}
use Rattle.std.specs.Prelude.{Option, Some, None}
use Rattle.std.proofs.lemmas.Option.{none-some}
use Rattle.rds_frame.specs.declared.Head.{Head}
use mathlib.Core.List.{List}
use mathlib.Core.Bool.{Bool, true, false}
use lib.ListN.{length}
use lib.Dec.{ltb, leb}
use borrow.Author.Tests.{leb-true}
use Rattle.base_lists.proofs.StoresAndParts.{length_tab, both_fst, both_snd}
use Rattle.rds_body.specs.declared.Body.{Body}
use Rattle.rds_body.specs.declared.Body.TheVariants as B
use Rattle.rds_reading.specs.declared.Frame.{Frame}
use Rattle.rds_reading.proofs.Parts.{same_frames}
use Rattle.rds_pieces.specs.Octets.{pieces_of}
use Rattle.rds_encoding.specs.Encoding.{Fitting}
use Rattle.rds_encoding.proofs.Fits.{Sized, body_fits}
use Rattle.rds_said.specs.Said.{entry_said, list_said, entries_said, head_said, body_said, frame_with, frame_after, frame_said}
use Rattle.rds_writing.specs.Write.{same_words, is_items, size_of, accepts}

list_full : (w : List ℕ) (formats : Bool) (n : ℕ) → length (list_said w formats n) ≡ 15
unfolding list_said
list_full w formats n = length_tab (entry_said w formats n) 15 0

entries_full : (w : List ℕ) (b : Body) → length (entries_said w b) ≡ 15
unfolding entries_said
entries_full w B.Empty = list_full w false 0
entries_full w (B.Information a l) = list_full w false 0
entries_full w (B.Asking n s d a l f) = list_full w false 0
entries_full w (B.Answer n f t) = list_full w false 0
entries_full w (B.Query n p) = list_full w false 0
entries_full w (B.List n p c) = list_full w (ltb 5 n) c

module _ (w : List ℕ) (f : Frame) where
  said_with : (h : Head) (b : Option Body) → frame_with w h b ≡ Some f → length f.list ≡ 15
  said_with h (Some b) e = subst (λ (g : Frame). length g.list ≡ 15) (same_frames (record { head = h; body = b; list = entries_said w b }) f e) (entries_full w b)
  said_with h None e = absurd (none-some f e)

  pub said_full : frame_said w ≡ Some f → length f.list ≡ 15
  unfolding frame_said
  said_full = go (head_said w) where
    go : (h : Option Head) → frame_after w h ≡ Some f → length f.list ≡ 15
    go (Some h) e = said_with h (body_said w h.ads h.kind) e
    go None e = absurd (none-some f e)

module _ (w s : List ℕ) (f : Frame) (yes : accepts w s f ≡ true) where
  pub accepted_words : same_words w f ≡ true
  unfolding accepts
  accepted_words = both_fst (same_words w f) (leb (size_of s f) 1520) yes

  pub accepted_size : Sized s f.list (pieces_of f.body) (size_of s f)
  unfolding accepts
  accepted_size = body_fits s f.list (is_items f.head.kind) f.body (leb-true (size_of s f) 1520 (both_snd (same_words w f) (leb (size_of s f) 1520) yes))

  pub accepted_fits : Fitting s f.list (pieces_of f.body)
  accepted_fits = accepted_size.fits
