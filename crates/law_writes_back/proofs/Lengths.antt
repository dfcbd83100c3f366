-- Clearing keeps the length. Assumes nothing.
use Prim.Native.Nat.{ℕ, zero, suc, ◌/◌, ◌%◌}
use mathlib.Core.Path.{◌≡◌, refl, ◌∙◌}
use mathlib.Core.List.{List}
use mathlib.Core.Bool.{Bool, true, false}
use lib.ListN.{length, get_or, length-set}
use lib.Dec.{leb, eqb}
use Rattle.base_lists.specs.Seq.{pick}
use Rattle.codec_reading.specs.Read.{type_of}
use Rattle.law_reading_order.specs.Layout.{fixed_length, item_end}
use Rattle.law_writes_back.specs.WritesBack.{clear_bit, clear_header, clear_item, clear_items, cleared}

pick_length : (t : Bool) (c d : List ℕ) (n : ℕ) → length c ≡ n → length d ≡ n → length (pick t c d) ≡ n
pick_length true c d n e f = e
pick_length false c d n e f = f

bit_length : (b : List ℕ) (i w : ℕ) → length (clear_bit b i w) ≡ length b
bit_length b i w = length-set b i _

two_length : (b : List ℕ) (i w u : ℕ) → length (clear_bit (clear_bit b i w) i u) ≡ length b
two_length b i w u = bit_length (clear_bit b i w) i u ∙ bit_length b i w

header_length_holds : (t : ℕ) (b : List ℕ) → length (clear_header t b) ≡ length b
unfolding clear_header
header_length_holds t b =
    pick_length (eqb t 1) _ _ _ (two_length b 3 8 4) (pick_length (eqb t 3) _ _ _ (bit_length b 0 2) (pick_length (eqb t 7) _ _ _ (two_length b 0 4 2) refl))

pub item_length_holds : (b : List ℕ) (at : ℕ) → length (clear_item b at) ≡ length b
unfolding clear_item
item_length_holds b at = pick_length (eqb (get_or b at 0 / 4 % 2) 0) _ _ _ refl (two_length b at 2 1)

pub items_length : (k : ℕ) (b : List ℕ) (at : ℕ) → length (clear_items k b at) ≡ length b
unfolding clear_items
items_length zero b at = refl
items_length (suc k) b at = pick_length (leb 128 (get_or b at 0)) _ _ _ (items_length k (clear_item b at) (item_end b at) ∙ item_length_holds b at) (item_length_holds b at)

pub cleared_same_length : (b : List ℕ) → length (cleared b) ≡ length b
unfolding cleared
cleared_same_length b =
    let e : length (clear_header (type_of b) b) ≡ length b = header_length_holds (type_of b) b in
    pick_length (leb 128 (get_or b 0 0)) _ _ _ (items_length _ (clear_header (type_of b) b) (fixed_length b) ∙ e) e
