-- The words of a frame, stored over zeros, are just they. Assumes nothing.
use Prim.Native.Nat.{ℕ}
use native.Mathlib.Omega.{arith}
use mathlib.Core.Path.{◌≡◌, refl, ap, ◌∙◌}
use mathlib.Core.List.{List, [], ◌∷◌, ◌++◌, append-nil}
use lib.ListN.{length, replicate, length-append, length-replicate, drop_of_length-le}
use Rattle.base_lists.specs.Seq.{put, bit}
use Rattle.base_lists.proofs.StoresAndParts.{put_front}
use Rattle.rds_frame.specs.declared.Kind.{Kind}
use Rattle.rds_frame.specs.declared.Kind.TheVariants as K
use Rattle.rds_body.specs.declared.Body.{Body}
use Rattle.rds_body.specs.declared.Body.TheVariants as B
use Rattle.rds_reading.specs.declared.Frame.{Frame}
use Rattle.rds_words.specs.Words.{kind_words, head_words, body_words, entries_words, list_words, words_of}
use Rattle.rds_words.proofs.EntryWords.{length_entries_words}

pub length_kind_words : (k : Kind) (a s d : ℕ) → length (kind_words k a s d) ≡ 11
unfolding kind_words
length_kind_words (K.I a ns nr r) e s d = refl
length_kind_words (K.S a nr r) e s d = refl
length_kind_words (K.Ui nu) e s d = refl
length_kind_words (K.U m response) e s d = refl

length_body_words : (b : Body) → length (body_words b) ≡ 13
unfolding body_words
length_body_words B.Empty = refl
length_body_words (B.Information a l) = refl
length_body_words (B.Asking n s d a l f) = refl
length_body_words (B.Answer n f t) = refl
length_body_words (B.Query n p) = refl
length_body_words (B.List n p c) = refl

-- a frame has 100 words
pub length_words_holds : (f : Frame) → length f.list ≡ 15 → length (words_of f) ≡ 100
unfolding words_of head_words list_words
length_words_holds f full =
    let h = f.head in
    omega (arith, length-append (kind_words h.kind (bit h.ads) h.source h.destination) (body_words f.body ++ (entries_words f.list ++ (0 ∷ []))), length-append (body_words f.body) (entries_words f.list ++ (0 ∷ [])), length-append (entries_words f.list) (0 ∷ []), length_kind_words h.kind (bit h.ads) h.source h.destination, length_body_words f.body, length_entries_words f.list)

pub own_words_holds : (f : Frame) → length f.list ≡ 15 → put (replicate 100 0) 0 (words_of f) ≡ words_of f
own_words_holds f full =
    let n = length_words_holds f full in
    let z = length-replicate {A = ℕ} 100 0 in
    put_front (replicate 100 0) (words_of f) (omega (arith, n, z))
    ∙ ap (λ (x : List ℕ). words_of f ++ x) (drop_of_length-le (replicate 100 0) {i = length (words_of f)} (omega (arith, n, z)))
    ∙ append-nil (words_of f)
