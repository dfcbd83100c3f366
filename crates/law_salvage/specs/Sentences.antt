-- Document 02, L12, sentence by sentence: what an accepted salvage leaves of a table and of the words for its list.
use Rattle.std.specs.Prelude.{ℕ, ◌+◌, ◌≤◌, ◌<◌, ◌≡◌, List, length, get_or}
use Rattle.base_layout.specs.Layout.{header_size, record_size, base}
use Rattle.base_lists.specs.Seq.{put}
use Rattle.base_octets.specs.Octets.{gets}
use Rattle.table_layout.specs.Table.{count}
use Rattle.table_record_ok.specs.OneRecord.{FreeOk}
use Rattle.table_header_ok.specs.Header.{HeaderOk}
use Rattle.table_well_formed.specs.WellFormed.{Sized, WellFormed}
use Rattle.law_salvage.specs.Reasons.{Reason}
use Rattle.law_salvage.specs.Listed.{Listed, Rising, Written}

-- every octet of the record at a place is as it was
abbrev pub SameRecord : List ℕ → List ℕ → ℕ → Type 0
SameRecord t u i = (k : ℕ) → k < record_size → get_or u (base i + k) 0 ≡ get_or t (base i + k) 0

-- one isn't
pub record Changed (t u : List ℕ) (i : ℕ) : Type 0 where
  pub octet : ℕ
  pub inside : octet < record_size
  pub changed : get_or u (base i + octet) 0 ≡ get_or t (base i + octet) 0 → ⊥

-- the table after salvage with the record at a place as it was before
abbrev pub restored : List ℕ → List ℕ → ℕ → List ℕ
restored t u i = put u (base i) (gets record_size (base i) t)

pub record Salvaged (t before u words : List ℕ) : Type 0 where
  -- "The outcome is well formed"
  pub formed : WellFormed u
  -- nothing outside the records changes
  pub same_length : length u ≡ length t
  pub header : (k : ℕ) → k < header_size → get_or u k 0 ≡ get_or t k 0
  -- "frees ..", "zeroes ..": what is listed is free and zero then, an octet of it has changed, and its reason is so
  pub zeroed : (i r : ℕ) → Listed words i r → (i < count t) × FreeOk u i
  pub changed : (i r : ℕ) → Listed words i r → Changed t u i
  pub reason : (i r : ℕ) → Listed words i r → Reason t i r
  -- "It lists each place it changed, once, with the first of these reasons"
  pub all_listed : (i r : ℕ) → i < count t → Reason t i r → Listed words i r
  pub all_changed : (i : ℕ) → i < count t → Changed t u i → (r : ℕ) × Listed words i r
  pub rising : Rising words
  pub written : Written before words
  -- "every other record .. is unchanged"
  pub others : (i : ℕ) → i < count t → ((r : ℕ) → Listed words i r → ⊥) → SameRecord t u i
  -- the reading's L12-6: "no record is freed that could stay"
  pub needed : (i r : ℕ) → Listed words i r → WellFormed (restored t u i) → ⊥

-- 02, L12: "Refusals: 15 a field outside the records .. out of range, after a size failure under 1"
pub record SizesOk (t list : List ℕ) : Type 0 where
  pub sized : Sized t
  pub room : 97 ≤ length list

pub record Accepts (t list : List ℕ) : Type 0 where
  pub sizes : SizesOk t list
  pub header : HeaderOk t
