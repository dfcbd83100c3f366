-- Salvage (02, L12): "frees each record that has a field out of range, zeroes free ones that aren't zero, and then, where live ones share role, peer and TID, keeps the lowest place. It lists each place it changed, once, with the first of these reasons."
use Rattle.std.specs.Prelude.{ℕ, zero, suc, ◌+◌, ◌-◌, ◌*◌, ◌/◌, List, [], ◌∷◌, ◌++◌, Bool, false, length, get_or, replicate, ltb, eqb, Option, Some, None, is_some}
use Rattle.base_layout.specs.Layout.{base, records_bound}
use Rattle.base_lists.specs.Seq.{pick, put}
use Rattle.base_numbers.specs.Numbers.{number_of}
use Rattle.base_numbers.specs.declared.Refusal.TheVariants.{WrongSize, WrongHeader}
use Rattle.table_record.specs.Record.{role_of, state_number}
use Rattle.table_layout.specs.Table.{count, settings_of, record_at, clear_record}
use Rattle.table_finding.specs.Finding.{named_of}
use Rattle.table_header_ok.specs.Header.{header_ok_is}
use Rattle.table_record_ok.specs.OneRecord.{record_ok}
use Rattle.table_well_formed.specs.WellFormed.{length_ok}
use Rattle.table_salvage.specs.declared.Reason.{Reason}
use Rattle.table_salvage.specs.declared.Reason.TheVariants.{OutOfRange, NotZero, SharesName}

-- the C interface: "1 a field out of range, 2 free and not zero, 3 it shares role, peer and TID with a live record of a lower place"; 0 is no reason
abbrev pub reason_of : Option Reason → ℕ
reason_of None = 0
reason_of (Some OutOfRange) = 1
reason_of (Some NotZero) = 2
reason_of (Some SharesName) = 3

-- record i is live, and one of the live records at a lower place has its role, peer and TID
unfoldable pub shares_name : List ℕ → ℕ → Bool
shares_name t i = pick (eqb (state_number (record_at t i).state) 0) false (is_some (named_of t i (role_of (record_at t i).state) (record_at t i).peer (record_at t i).tid))

-- what is found of a place, where all lower places are salvaged: the test of a record first, then its name
unfoldable pub finding_at : List ℕ → ℕ → Option Reason
finding_at t i = pick (record_ok t (settings_of t) i) (pick (shares_name t i) (Some SharesName) None) (pick (eqb (get_or t (base i) 0) 0) (Some NotZero) (Some OutOfRange))

abbrev pub reason_at : List ℕ → ℕ → ℕ
reason_at t i = reason_of (finding_at t i)

-- the table and what is listed, where a place has this reason
abbrev pub zeroed_for : List ℕ → ℕ → ℕ → List ℕ
zeroed_for t i reason = pick (eqb reason 0) t (clear_record t i)

abbrev pub pair_for : ℕ → ℕ → List ℕ
pair_for i reason = pick (eqb reason 0) [] (i ∷ reason ∷ [])

-- the table after its first n places
unfoldable pub salvaged_to : List ℕ → ℕ → List ℕ
salvaged_to t zero = t
salvaged_to t (suc n) = zeroed_for (salvaged_to t n) n (reason_at (salvaged_to t n) n)

-- place and reason of each of them that was changed, in rising order
unfoldable pub pairs_to : List ℕ → ℕ → List ℕ
pairs_to t zero = []
pairs_to t (suc n) = pairs_to t n ++ pair_for n (reason_at (salvaged_to t n) n)

-- the C interface: "how many places it changed, then for each, in rising order, its place and its reason .., then zeros", 97 words
abbrev pub pairs_size : ℕ
pairs_size = records_bound * 2

abbrev pub list_of : List ℕ → List ℕ
list_of pairs = length pairs / 2 ∷ pairs ++ replicate (pairs_size - length pairs) 0

-- the C interface: "1: not a table's size, or fewer than 97 words; 15: a field outside the records is out of range"
abbrev pub or_refused {ℓ} : {A : Type ℓ} → List ℕ → List ℕ → A → A → A → A
or_refused t list size header else = pick (length_ok (length t)) (pick (ltb (length list) (1 + pairs_size)) size (pick (header_ok_is t) else header)) size

-- the result, and what table and list then hold
unfoldable pub salvage_number : List ℕ → List ℕ → ℕ
salvage_number t list = or_refused t list (number_of WrongSize) (number_of WrongHeader) 0

unfoldable pub table_salvaged : List ℕ → List ℕ → List ℕ
table_salvaged t list = or_refused t list t t (salvaged_to t (count t))

unfoldable pub list_salvaged : List ℕ → List ℕ → List ℕ
list_salvaged t list = or_refused t list list list (put list 0 (list_of (pairs_to t (count t))))
