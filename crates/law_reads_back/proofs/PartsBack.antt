-- Parts of a source that were written stand in the octets as they were: items' data, Nack list, user data. Assumes nothing.
use Prim.Native.Nat.{ℕ, ◌+◌}
use native.Mathlib.Omega.{arith}
use mathlib.Core.Path.{◌≡◌, refl, sym, ap, ◌∙◌}
use mathlib.Core.List.{List, [], ◌∷◌, ◌++◌, map, append_assoc}
use mathlib.Core.Bool.{Bool, true, false}
use lib.ListN.{length, take, length-append}
use lib.Seq.{take_at, take_all, drop-append-add, drop-append_seam}
use Rattle.base_lists.specs.Seq.{part}
use Rattle.base_lists.proofs.StoresAndParts.{length_part}
use Rattle.codec_items.specs.declared.Item.{Item}
use Rattle.codec_pdu.specs.declared.Kind.{Kind}
use Rattle.codec_pdu.specs.declared.Kind.TheVariants.{Invoke, Result, Ack, Abort, SegInvoke, SegResult, Nack, Wrong, Refused}
use Rattle.codec_encoding.specs.Write.{extra_of, header_of_is, form_of, item_octets, items_octets, followed, FitItem, FitItems, FitKind}
use Rattle.law_reads_back.specs.ReadsBack.{kind_at, lead, item_placed, items_placed, ItemMeaning, item_meaning, nacks_of}
use Rattle.law_reads_back.proofs.ItemBack.{item_length_holds}

form_part : (long : Bool) (h len : ℕ) (body rest : List ℕ) → length body ≡ len → part (form_of long h len body ++ rest) (lead long) len ≡ body
form_part true h len body rest e = take_at body rest len e
form_part false h len body rest e = take_at body rest len e

item_part : (s : List ℕ) (con : Bool) (it : Item) (pre rest : List ℕ) → FitItem s it
    → item_meaning (pre ++ (item_octets s con it ++ rest)) (item_placed (length pre) it) ≡ item_meaning s it
unfolding item_octets
item_part s con it pre rest f =
    let same : part (pre ++ (item_octets s con it ++ rest)) (length pre + lead it.long) it.len ≡ part s it.start it.len =
    ap (take it.len) (drop-append-add pre (item_octets s con it ++ rest) (lead it.long))
    ∙ form_part it.long _ it.len _ rest (length_part s it.start it.len f.inside) in
    λ i. record { identity = it.identity; long = it.long; octets = same i }

pub item_parts : (s : List ℕ) (last : Bool) (its : List Item) (pre rest : List ℕ) → FitItems s its
    → map (item_meaning (pre ++ (items_octets s last its ++ rest))) (items_placed (length pre) its) ≡ map (item_meaning s) its
unfolding items_octets items_placed FitItems
item_parts s last [] pre rest f = refl
item_parts s last (it ∷ l) pre rest f =
    let x : List ℕ = item_octets s (followed l last) it in
    let y : List ℕ = items_octets s last l in
    let apart : pre ++ ((x ++ y) ++ rest) ≡ pre ++ (x ++ (y ++ rest)) = ap (λ (z : List ℕ). pre ++ z) (append_assoc x y rest) in
    let next : length pre + (lead it.long + it.len) ≡ length (pre ++ x) = omega (arith, length-append pre x, item_length_holds s (followed l last) it f.0) in
    (λ i. item_meaning (apart i) (item_placed (length pre) it) ∷ map (item_meaning (apart i)) (items_placed (next i) l))
    ∙ (λ i. item_part s (followed l last) it pre (y ++ rest) f.0 i ∷ map (item_meaning (sym (append_assoc pre x (y ++ rest)) i)) (items_placed (length (pre ++ x)) l))
    ∙ ap (λ (z : List ItemMeaning). item_meaning s it ∷ z) (item_parts s last l (pre ++ x) rest f.1)

pub nack_part : (s : List ℕ) (con : Bool) (k : Kind) (tid : ℕ) (rest : List ℕ) → FitKind s k → nacks_of (header_of_is s con k tid ++ rest) (kind_at 4 k) ≡ nacks_of s k
unfolding nacks_of header_of_is extra_of kind_at FitKind
nack_part s con (Invoke a b c v n u l) tid rest w = refl
nack_part s con (Result a b c) tid rest w = refl
nack_part s con (Ack a c) tid rest w = refl
nack_part s con (Abort t r) tid rest w = refl
nack_part s con (SegInvoke a b c p) tid rest w = refl
nack_part s con (SegResult a b c p) tid rest w = refl
nack_part s con (Nack c n l) tid rest w = take_at (part s l n) rest n (length_part s l n w)
nack_part s con (Wrong d) tid rest w = refl
nack_part s con (Refused r) tid rest w = refl

-- the last n octets, after those of a header and of items
pub user_part_holds : (pre x user : List ℕ) (n : ℕ) → length user ≡ n → part (pre ++ (x ++ user)) (length pre + length x) n ≡ user
user_part_holds pre x user n e = ap (take n) (drop-append-add pre (x ++ user) (length x) ∙ drop-append_seam x user) ∙ take_all n user (omega arith)
