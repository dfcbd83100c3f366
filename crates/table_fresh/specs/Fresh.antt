-- The fresh-table call (01, "What the reader carries" and "Numbers given back", 1 and 10).
use Rattle.std.specs.Prelude.{ℕ, zero, suc, ◌+◌, ◌*◌, ◌-◌, ◌%◌, List, [], ◌++◌, Bool, true, false, length, get_or, replicate, ltb, leb, eqb, Result, Ok, Err}
use Rattle.base_numbers.specs.declared.Refusal.{Refusal}
use Rattle.base_layout.specs.Layout.{header_size, record_size, gen_tid_at, limit_at, modes_at, tidnew_due_at, header_spare_size, base, interval_bound, maximum_bound, tid_bound, peers, records_bound}
use Rattle.base_numbers.specs.Numbers.{number_of}
use Rattle.base_numbers.specs.declared.Refusal.TheVariants.{WrongSize, WrongSetting}
use Rattle.base_lists.specs.Seq.{pick, every, put}
use Rattle.base_octets.specs.Octets.{enc}
use Rattle.table_layout.specs.Table.{count}
use Rattle.table_ranges.specs.Ranges.{modes_ok}

-- 01: "1 to 48 records"; the bytes of a table for so many, else 0
unfoldable pub table_bytes : ℕ → ℕ
table_bytes n = pick (leb 1 n) (pick (leb n records_bound) (header_size + record_size * n) 0) 0

-- 01, number 1: "fresh-table call: size only"; the size is that of 1 to 48 records
unfoldable pub right_size : ℕ → Bool
right_size len = pick (leb (base 1) len) (pick (leb len (base records_bound)) (eqb ((len - header_size) % record_size) 0) false) false

-- 01: "RCR_MAX and AEC_MAX are 0 to 8", words 0 and 1; "The intervals A, W and R are 1 to 86,400,000", words 2 to 21; the mode and the limit, words 22 and 23, are judged together; the others are 0
unfoldable pub word_ok : ℕ → ℕ → Bool
word_ok k w = pick (ltb k 2) (leb w maximum_bound) (pick (ltb k 22) (pick (leb 1 w) (leb w interval_bound) false) (pick (ltb k 24) true (eqb w 0)))

-- all 32 words are in range
unfoldable pub words_ok : List ℕ → Bool
words_ok ws = every (λ (k : ℕ). word_ok k (get_or ws k 0)) 32

-- 01, number 10: "a setting or first GenTID is out of range"; the settings are 32 words, GenTID is 0 to 32,767; 02, L6: "a bad limit gives 10"
unfoldable pub in_range : List ℕ → ℕ → Bool
in_range ws first = pick (eqb (length ws) 32) (pick (words_ok ws) (pick (modes_ok (get_or ws 22 0) (get_or ws 23 0)) (leb first tid_bound) false) false) false

-- 01: "The lowest applicable number is given"
unfoldable pub fresh_answer : ℕ → List ℕ → ℕ → Result Unit Refusal
fresh_answer len ws first = pick (right_size len) (pick (in_range ws first) (Ok tt) (Err WrongSetting)) (Err WrongSize)

-- the number of an answer: 0 where the call was accepted
abbrev pub fresh_number : Result Unit Refusal → ℕ
fresh_number (Ok x) = 0
fresh_number (Err r) = number_of r

-- n octets of zero
unfoldable pub zeros : ℕ → List ℕ
zeros n = replicate n 0

-- the octets of n words from word k on, four each
unfoldable pub four_each : ℕ → ℕ → List ℕ → List ℕ
four_each zero k ws = []
four_each (suc n) k ws = enc 4 (get_or ws k 0) ++ four_each n (k + 1) ws

-- 02, L6: the waiting limit and its mode; 02, L2, "on its first class 1 or 2 Invoke from a fresh table": TIDnew is due; written one after the other
unfoldable pub put_requests : List ℕ → List ℕ → List ℕ
put_requests t ws = put (put (put t limit_at (enc 4 (get_or ws 23 0))) modes_at (enc 1 (get_or ws 22 0))) tidnew_due_at (enc 1 1)

-- GenTID, RCR_MAX, AEC_MAX, then A, W and the 18 R, then the waiting limit, its mode, and TIDnew, which is due
unfoldable pub fields_of : List ℕ → ℕ → List ℕ
fields_of ws first = enc 2 first ++ (enc 1 (get_or ws 0 0) ++ (enc 1 (get_or ws 1 0) ++ (four_each 20 2 ws ++ (enc 4 (get_or ws 23 0) ++ (enc 1 (get_or ws 22 0) ++ enc 1 1)))))

-- 01: the fresh-table call "leaves no live record, no cached TID and clock 0": the clock, the fields, 14 spare octets, 256 cached TIDs of 2, n records
unfoldable pub fresh_table : ℕ → List ℕ → ℕ → List ℕ
fresh_table n ws first = zeros gen_tid_at ++ (fields_of ws first ++ zeros (header_spare_size + peers * 2 + n * record_size))

-- 01: "A refusal gives only its number and changes no lent byte"
unfoldable pub table_after_fresh : Result Unit Refusal → List ℕ → List ℕ → ℕ → List ℕ
table_after_fresh (Ok x) t ws first = fresh_table (count t) ws first
table_after_fresh (Err r) t ws first = t

-- what the call leaves: its answer and the table
pub record Left : Type 0 where
  pub answer : Result Unit Refusal
  pub table : List ℕ

-- an answer and a table, as what is left
abbrev pub left : Result Unit Refusal → List ℕ → Left
left a t = record { answer = a; table = t }

-- what the call leaves of a table, for the settings ws and the first GenTID
unfoldable pub left_by_is : List ℕ → List ℕ → ℕ → Left
left_by_is t ws first = left (fresh_answer (length t) ws first) (table_after_fresh (fresh_answer (length t) ws first) t ws first)
