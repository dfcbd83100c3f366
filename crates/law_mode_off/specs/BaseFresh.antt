-- The base's fresh-table call (01, "What the reader carries", "Numbers given back" 1 and 10; 02, L2): words 22 to 31 of the settings are 0.
use Rattle.std.specs.Prelude.{ℕ, ◌+◌, ◌*◌, Bool, false, List, ◌++◌, length, get_or, ltb, leb, eqb}
use Rattle.base_layout.specs.Layout.{record_size, gen_tid_at, header_spare_size, interval_bound, maximum_bound, tid_bound, peers}
use Rattle.base_lists.specs.Seq.{pick, every}
use Rattle.base_numbers.specs.declared.Refusal.TheVariants.{WrongSize, WrongSetting}
use Rattle.base_octets.specs.Octets.{enc}
use Rattle.table_layout.specs.Table.{count}
use Rattle.table_fresh.specs.Fresh.{right_size, zeros, four_each, Left, left}
use Rattle.std.specs.Prelude.{Result, Ok, Err}
use Rattle.base_numbers.specs.declared.Refusal.{Refusal}
use Rattle.law_mode_off.specs.BaseFormed.{base_spare}

-- 01: "RCR_MAX and AEC_MAX are 0 to 8", words 0 and 1; "The intervals A, W and R are 1 to 86,400,000", words 2 to 21; the others are 0
unfoldable pub base_word_ok : (k w : ℕ) → Bool
base_word_ok k w = pick (ltb k 2) (leb w maximum_bound) (pick (ltb k 22) (pick (leb 1 w) (leb w interval_bound) false) (eqb w 0))

-- 01, number 10: all 32 words are in range
unfoldable pub base_words_ok : List ℕ → Bool
base_words_ok ws = every (λ (k : ℕ). base_word_ok k (get_or ws k 0)) 32

-- 01, number 10: "a setting or first GenTID is out of range"
unfoldable pub base_in_range : List ℕ → (first : ℕ) → Bool
base_in_range ws first = pick (eqb (length ws) 32) (pick (base_words_ok ws) (leb first tid_bound) false) false

-- 01: "The lowest applicable number is given"
unfoldable pub base_fresh_answer : (len : ℕ) → List ℕ → (first : ℕ) → Result Unit Refusal
base_fresh_answer len ws first = pick (right_size len) (pick (base_in_range ws first) (Ok tt) (Err WrongSetting)) (Err WrongSize)

-- 01: the fresh-table call "leaves no live record, no cached TID and clock 0": the clock, GenTID, the settings, 5 spare octets, TIDnew due (02, L2), 14 spare octets, 256 cached TIDs of 2, n records
unfoldable pub base_fresh_table : (n : ℕ) → List ℕ → (first : ℕ) → List ℕ
base_fresh_table n ws first =
    zeros gen_tid_at
    ++ ((enc 2 first ++ (enc 1 (get_or ws 0 0) ++ (enc 1 (get_or ws 1 0) ++ (four_each 20 2 ws ++ (zeros base_spare ++ enc 1 1))))) ++ zeros (header_spare_size + peers * 2 + n * record_size))

-- 01: "A refusal gives only its number and changes no lent byte"
unfoldable pub base_table_after_fresh : Result Unit Refusal → (t ws : List ℕ) (first : ℕ) → List ℕ
base_table_after_fresh (Ok x) t ws first = base_fresh_table (count t) ws first
base_table_after_fresh (Err r) t ws first = t

-- 01, "What the reader carries": what the base's call leaves of a table, for the settings ws and the first GenTID
unfoldable pub base_left_by : (t ws : List ℕ) (first : ℕ) → Left
base_left_by t ws first = left (base_fresh_answer (length t) ws first) (base_table_after_fresh (base_fresh_answer (length t) ws first) t ws first)
