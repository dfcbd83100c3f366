-- 01: "D1 for a value too wide for its place": the widest value of every word, and parts that lie within the bytes.
use Rattle.std.specs.Prelude.{ℕ, ◌+◌, ◌-◌, ◌*◌, ◌/◌, ◌%◌, List, [], ◌∷◌, Bool, false, length, get_or, ltb, leb, eqb}
use Rattle.base_lists.specs.Seq.{pick, every, tab}
use Rattle.codec_said.specs.Said.{word}

-- the widest value of a word: any is right
abbrev pub any : ℕ
any = 18446744073709551615

-- a word's widest values for the types 1 to 7
abbrev pub types : ℕ → ℕ → ℕ → ℕ → ℕ → ℕ → ℕ → List ℕ
types a b c d e f g = 0 ∷ a ∷ b ∷ c ∷ d ∷ e ∷ f ∷ g ∷ []

-- the same for every type
abbrev pub each : ℕ → List ℕ
each x = types x x x x x x x

-- only for those with user data, types 1, 2, 5, 6
abbrev pub with_data : ℕ → List ℕ
with_data x = types x x 0 0 x x 0

-- only for an Invoke
abbrev pub invoke : ℕ → List ℕ
invoke x = types x 0 0 0 0 0 0

-- only for an Abort
abbrev pub abort : ℕ → List ℕ
abort x = types 0 0 0 x 0 0 0

-- only for a Nack
abbrev pub nack : ℕ → List ℕ
nack x = types 0 0 0 0 0 0 x

-- 01's table of types, word by word in the order of the C interface; a word that the type hasn't is 0
unfoldable pub widths : List (List ℕ)
widths =
    each any  -- type, which D2 judges
    ∷ with_data 1  -- GTR
    ∷ with_data 1  -- TTR
    ∷ types 1 1 1 0 1 1 1  -- RID
    ∷ each 65535  -- TID
    ∷ invoke 3  -- version
    ∷ invoke 1  -- TIDnew
    ∷ invoke 1  -- U/P
    ∷ invoke 3  -- class
    ∷ types 0 0 1 0 0 0 0  -- Tve/Tok
    ∷ abort 7  -- abort type
    ∷ abort 255  -- abort reason
    ∷ types 0 0 0 0 255 255 0  -- packet number
    ∷ nack 255  -- Nack count
    ∷ nack any  -- start of the Nack list
    ∷ each any  -- number of items, which D4 judges
    ∷ with_data any  -- start of the user data
    ∷ each any  -- length of the user data, which D7 judges
    ∷ each any ∷ each any  -- 18 and 19, which a PDU to be written hasn't
    ∷ each 0 ∷ each 0 ∷ each 0 ∷ each 0 ∷ []  -- 20 to 23

-- 01: "0 and a 2-bit length, or 1 .. and a length octet"
abbrev pub longest_said : ℕ → ℕ
longest_said form = pick (eqb form 0) 3 255

-- word j of item k: identity of 4 bits, form, start, length; all 0 where there is no item k
unfoldable pub widest_item : List ℕ → ℕ → ℕ → ℕ
widest_item w k j = pick (ltb k (word w 15)) (get_or (15 ∷ 1 ∷ any ∷ longest_said (word w (24 + 4 * k + 1)) ∷ []) j 0) 0

-- the widest value of word i: by the type for words 0 to 23, then four words for each item
unfoldable pub widest : List ℕ → ℕ → ℕ
widest w i = pick (ltb i 24) (get_or (get_or widths i []) (word w 0) 0) (widest_item w ((i - 24) / 4) ((i - 24) % 4))

-- the word i is not too wide
abbrev pub narrow_at : List ℕ → ℕ → Bool
narrow_at w i = leb (word w i) (widest w i)

-- all 88 words, those "that the type hasn't" among them
unfoldable pub none_too_wide : List ℕ → Bool
none_too_wide w = every (narrow_at w) 88

-- the widest values of eight words from `at` on for the type t
unfoldable pub widths_of : ℕ → ℕ → List ℕ
widths_of t at = tab (λ i. get_or (get_or widths i []) t 0) 8 at

-- the widest values of the four words of item k
unfoldable pub widest_four : List ℕ → ℕ → List ℕ
widest_four w k = pick (ltb k (word w 15)) (15 ∷ 1 ∷ any ∷ longest_said (word w (24 + 4 * k + 1)) ∷ []) (0 ∷ 0 ∷ 0 ∷ 0 ∷ [])

-- none of the words from `at` on is over its bound
unfoldable pub row_narrow : List ℕ → ℕ → List ℕ → Bool
row_narrow w at most = every (λ j. leb (word w (at + j)) (get_or most j 0)) (length most)

-- none of the words 0 to 23, of the words of item k, of the words of all 16 items
unfoldable pub head_narrow : List ℕ → Bool
head_narrow w = pick (row_narrow w 0 (widths_of (word w 0) 0)) (pick (row_narrow w 8 (widths_of (word w 0) 8)) (row_narrow w 16 (widths_of (word w 0) 16)) false) false

abbrev pub item_narrow : List ℕ → ℕ → Bool
item_narrow w k = row_narrow w (24 + 4 * k) (widest_four w k)

unfoldable pub items_narrow : List ℕ → Bool
items_narrow w = every (item_narrow w) 16

-- len octets from start on lie within n
unfoldable pub inside : ℕ → ℕ → ℕ → Bool
inside n start len = leb (start + len) n

-- the C interface: "D1 is any value too wide for its place, a Nack list or user data that runs past BYTES": none of them, with n bytes
unfoldable pub fits : List ℕ → ℕ → Bool
fits w n = pick (none_too_wide w) (pick (inside n (word w 14) (word w 13)) (inside n (word w 16) (word w 17)) false) false
