-- An item that was written is read as it was, at its place. Assumes nothing.
use Prim.Native.Nat.{ℕ, suc, ◌+◌, ◌*◌, ◌/◌, ◌%◌, ◌-◌, ◌<◌, ◌≤◌}
use native.Mathlib.Omega.{arith}
use borrow.Author.Tests.{lt-ltb, le-leb}
use mathlib.Core.Path.{◌≡◌, ap, ◌∙◌}
use mathlib.Core.List.{List, ◌∷◌, ◌++◌}
use mathlib.Core.Bool.{Bool, true, false}
use lib.ListN.{length, get_or, length-append}
use lib.Seq.{get_or-append_seam, get_or-append-add}
use lib.Dec.{leb}
use Rattle.base_lists.specs.Seq.{bit, part}
use Rattle.base_lists.proofs.StoresAndParts.{length_part}
use Rattle.codec_items.specs.declared.Item.{Item}
use Rattle.codec_items.specs.Items.{item_at}
use Rattle.codec_items.proofs.Forms.{met}
use Rattle.codec_encoding.specs.Write.{form_of, item_octets, longest, FitItem}
use Rattle.law_reads_back.specs.ReadsBack.{lead, item_placed}
use Rattle.law_reads_back.proofs.Bits.{con_is, four_is}

-- what the item reads as, by what stands at its place
read_long : (s : List ℕ) (at h n : ℕ) → get_or s at 0 ≡ h → get_or s (at + 1) 0 ≡ n → h / 4 % 2 ≡ 1 → at + 2 + n ≤ length s
    → item_at s at ≡ met (record { identity = h / 8 % 16; long = true; start = at + 1 + 1; len = n }) (leb 128 h) (at + 1 + 1 + n)
read_long s at h n p q e l =
    simp (lt-ltb at (length s) (omega arith), p, e, lt-ltb (at + 1) (length s) (omega arith), q, le-leb n (length s - (at + 1 + 1)) (omega arith))

read_short : (s : List ℕ) (at h n : ℕ) → get_or s at 0 ≡ h → h % 4 ≡ n → h / 4 % 2 ≡ 0 → at + 1 + n ≤ length s
    → item_at s at ≡ met (record { identity = h / 8 % 16; long = false; start = at + 1; len = n }) (leb 128 h) (at + 1 + n)
read_short s at h n p q e l =
    simp (lt-ltb at (length s) (omega arith), p, e, q, le-leb n (length s - (at + 1)) (omega arith))

form_read : (pre body rest : List ℕ) (con long : Bool) (identity len : ℕ) → identity < 16 → len ≤ longest long → length body ≡ len
    → item_at (pre ++ (form_of long (bit con * 128 + identity * 8) len body ++ rest)) (length pre)
    ≡ met (record { identity = identity; long = long; start = length pre + lead long; len = len }) con (length pre + (lead long + len))
form_read pre body rest con true identity len f g e =
    let n : ℕ = length pre in
    let h : ℕ = bit con * 128 + identity * 8 + 4 in
    let s : List ℕ = pre ++ (h ∷ len ∷ body ++ rest) in
    let size : length s ≡ n + suc (suc (length body + length rest)) = length-append pre _ ∙ ap (λ (k : ℕ). n + suc (suc k)) (length-append body rest) in
    let r = read_long s n h len (get_or-append_seam pre h _ 0) (get_or-append-add pre (h ∷ len ∷ body ++ rest) 1 0) (omega arith) (omega arith) in
    let start_is : n + 1 + 1 ≡ n + 2 = omega arith in
    let next_is : n + 1 + 1 + len ≡ n + (2 + len) = omega arith in
    r ∙ (λ i. met (record { identity = four_is con identity 4 f (omega arith) i; long = true; start = start_is i; len = len }) (con_is con identity 4 f (omega arith) i) (next_is i))
form_read pre body rest con false identity len f g e =
    let n : ℕ = length pre in
    let h : ℕ = bit con * 128 + identity * 8 + len in
    let s : List ℕ = pre ++ (h ∷ body ++ rest) in
    let size : length s ≡ n + suc (length body + length rest) = length-append pre _ ∙ ap (λ (k : ℕ). n + suc k) (length-append body rest) in
    let r = read_short s n h len (get_or-append_seam pre h _ 0) (omega arith) (omega arith) (omega arith) in
    let next_is : n + 1 + len ≡ n + (1 + len) = omega arith in
    r ∙ (λ i. met (record { identity = four_is con identity len f (omega arith) i; long = false; start = n + 1; len = len }) (con_is con identity len f (omega arith) i) (next_is i))

form_length_holds : (long : Bool) (h len : ℕ) (body : List ℕ) → length body ≡ len → length (form_of long h len body) ≡ lead long + len
form_length_holds true h len body e = omega arith
form_length_holds false h len body e = omega arith

module _ (s : List ℕ) (con : Bool) (it : Item) (fits : FitItem s it) where
  body_length : length (part s it.start it.len) ≡ it.len
  body_length = length_part s it.start it.len fits.inside

  pub item_length_holds : length (item_octets s con it) ≡ lead it.long + it.len
  unfolding item_octets
  item_length_holds = form_length_holds it.long _ it.len _ body_length

  pub item_read : (pre rest : List ℕ) → item_at (pre ++ (item_octets s con it ++ rest)) (length pre) ≡ met (item_placed (length pre) it) con (length pre + (lead it.long + it.len))
  unfolding item_octets
  item_read pre rest = form_read pre (part s it.start it.len) rest con it.long it.identity it.len fits.identity_fits fits.len_fits body_length
