-- A well-formed table of the base is a well-formed one with the mode off, and a well-formed one with the mode off is the base's; so number 1 is the base's. Assumes nothing.
use Prim.Native.Nat.{ℕ, zero, suc, ◌+◌, ◌-◌, ◌≤◌, ◌<◌}
use native.Mathlib.Omega.{arith}
use native.Mathlib.Nat.{add-zero}
use mathlib.Core.Path.{◌≡◌, refl, sym, ap, ◌∙◌}
use mathlib.Core.Bool.{true}
use mathlib.Core.List.{List}
use mathlib.Core.Logic.{◌⊎◌, inl, inr}
use lib.ListN.{get_or}
use Rattle.base_layout.specs.Layout.{fields_size, limit_at, modes_at, limit_offset, base}
use Rattle.base_lists.proofs.StoresAndParts.{lt_or_le}
use Rattle.base_octets.specs.Octets.{num, gets}
use Rattle.base_octets.proofs.StoredAndRead.{get_gets}
use Rattle.table_record.specs.Record.{decoded}
use Rattle.table_layout.specs.Table.{count, settings_of, record_at}
use Rattle.table_ranges.specs.Ranges.{ModesOk, off, on, Zeros}
use Rattle.table_header_ok.specs.Header.{HeaderOk}
use Rattle.table_record_ok.specs.OneRecord.{Live, FreeOk, RecordOk}
use Rattle.table_record_ok.proofs.RecordTest.{free_state}
use Rattle.table_well_formed.specs.WellFormed.{WellFormed, fitting}
use Rattle.table_well_formed.proofs.TableTest.{to_fitting, from_fitting}
use Rattle.law_mode_off.specs.BaseFormed.{BaseHeaderOk, BaseLiveOk, BaseFormed, BaseFitting}
use Rattle.law_mode_off.specs.ModeOff.{ModeOff}

-- a number is 0 exactly where its octets are
number_zero : (n p : ℕ) (t : List ℕ) → Zeros t p n → num (gets n p t) ≡ 0
unfolding num gets
number_zero zero p t z = refl
number_zero (suc n) p t z =
    let first : get_or t p 0 ≡ 0 = rw add-zero at (z 0 (omega arith)) in
    let rest : num (gets n (p + 1) t) ≡ 0 = number_zero n (p + 1) t (λ k h. ap (λ (j : ℕ). get_or t j 0) (omega arith) ∙ z (k + 1) (omega arith)) in
    omega (arith, first, rest)

octets_zero : (n p : ℕ) (t : List ℕ) → num (gets n p t) ≡ 0 → Zeros t p n
unfolding num gets
octets_zero zero p t e k h = absurd (omega arith)
octets_zero (suc n) p t e zero h =
    let first : get_or t p 0 ≡ 0 = omega (arith, e) in
    rw add-zero first
octets_zero (suc n) p t e (suc k) h =
    let rest : num (gets n (p + 1) t) ≡ 0 = omega (arith, e) in
    ap (λ (j : ℕ). get_or t j 0) (omega arith) ∙ octets_zero n (p + 1) t rest k (omega arith)

module _ (t : List ℕ) (i : ℕ) where
  abbrev fields : List ℕ
  fields = gets fields_size (base i) t

  pub limit_zero : Zeros t (base i + limit_offset) 4 → (record_at t i).limit ≡ 0
  unfolding record_at decoded
  limit_zero z = number_zero 4 limit_offset fields (λ k h. get_gets fields_size (base i) t (limit_offset + k) (omega arith) ∙ ap (λ (j : ℕ). get_or t j 0) (omega arith) ∙ z k h)

  pub limit_octets : (record_at t i).limit ≡ 0 → Zeros t (base i + limit_offset) 4
  unfolding record_at decoded
  limit_octets e k h = ap (λ (j : ℕ). get_or t j 0) (omega arith) ∙ sym (get_gets fields_size (base i) t (limit_offset + k) (omega arith)) ∙ octets_zero 4 limit_offset fields e k h

-- an octet at the same place
pub same_octet : (t : List ℕ) (j k : ℕ) → j ≡ k → get_or t j 0 ≡ get_or t k 0
same_octet t j k e = ap (λ (n : ℕ). get_or t n 0) e

-- two stretches of zeros, one after the other
joined : (t : List ℕ) (p a b : ℕ) → Zeros t p a → Zeros t (p + a) b → Zeros t p (a + b)
joined t p a b y z k h = go (lt_or_le k a)
  where
    go : (k < a) ⊎ (a ≤ k) → get_or t (p + k) 0 ≡ 0
    go (inl l) = y k l
    go (inr l) = same_octet t (p + k) (p + a + (k - a)) (omega arith) ∙ z (k - a) (omega arith)

module _ (t : List ℕ) where
  settings_limit : (settings_of t).limit ≡ num (gets 4 limit_at t)
  unfolding settings_of
  settings_limit = refl

  -- ---- a table of before L6
  module _ (b : BaseFormed t) where
    limit_off : (settings_of t).limit ≡ 0
    limit_off = settings_limit ∙ number_zero 4 limit_at t (λ k h. b.header.spare_1 k (omega arith))

    header_now : HeaderOk t
    header_now =
        let h = b.header in
        record {
          clock = h.clock;
          gen_tid = h.gen_tid;
          settings = h.settings;
          modes = off (h.spare_1 4 (omega arith)) limit_off;
          tidnew_due = h.tidnew_due;
          spare = h.spare_2;
          rows = h.rows;
          cached = h.cached;
        }

    none_in_force : (i : ℕ) → BaseLiveOk t i → (record_at t i).limit ≡ 0
    none_in_force i k = limit_zero t i k.spare_1

    record_now : (i : ℕ) → FreeOk t i ⊎ BaseLiveOk t i → RecordOk t (settings_of t) i
    record_now i (inl free) = inl free
    record_now i (inr k) =
        let m = k.bounds in
        inr record {
          range = record {
            live = k.live;
            bounds = record { tid = m.tid; rcr = m.rcr; aec = m.aec; exit = m.exit; deadline = m.deadline; message = m.message; tidnew = m.tidnew; limit = omega (arith, none_in_force i k); unknown = m.unknown; sent = m.sent; peer = m.peer };
          };
          flags = k.flags;
          spare = k.spare_2;
        }

    record_off : (i : ℕ) → FreeOk t i ⊎ BaseLiveOk t i → Live (record_at t i) → (record_at t i).limit ≡ 0
    record_off i (inl free) live = absurd (omega (arith, free_state t i free, live))
    record_off i (inr k) live = none_in_force i k

    -- it is well formed now
    pub base_well_formed : WellFormed t
    base_well_formed = record { sized = b.sized; header = header_now; records = λ i h. record_now i (b.records i h); unique = b.unique }

    -- it has the mode off
    pub base_mode_off : ModeOff t
    base_mode_off = record { settings = limit_off; records = λ i h live. record_off i (b.records i h) live }

  -- ---- a table with the mode off
  module _ (w : WellFormed t) (m : ModeOff t) where
    no_mode : ModesOk (get_or t modes_at 0) (settings_of t).limit → get_or t modes_at 0 ≡ 0
    no_mode (off e z) = e
    no_mode (on e i) = absurd (omega (arith, i.least, m.settings))

    mode_octet : Zeros t (limit_at + 4) 1
    mode_octet k h = same_octet t (limit_at + 4 + k) modes_at (omega arith) ∙ no_mode w.header.modes

    header_then_holds : BaseHeaderOk t
    header_then_holds =
        let h = w.header in
        record {
          clock = h.clock;
          gen_tid = h.gen_tid;
          settings = h.settings;
          tidnew_due = h.tidnew_due;
          spare_1 = joined t limit_at 4 1 (octets_zero 4 limit_at t (sym settings_limit ∙ m.settings)) mode_octet;
          spare_2 = h.spare;
          rows = h.rows;
          cached = h.cached;
        }

    record_then : (i : ℕ) → i < count t → RecordOk t (settings_of t) i → FreeOk t i ⊎ BaseLiveOk t i
    record_then i inside (inl free) = inl free
    record_then i inside (inr k) =
        let b = k.range.bounds in
        inr record {
          live = k.range.live;
          bounds = record { tid = b.tid; rcr = b.rcr; aec = b.aec; exit = b.exit; deadline = b.deadline; message = b.message; tidnew = b.tidnew; unknown = b.unknown; sent = b.sent; peer = b.peer };
          flags = k.flags;
          spare_1 = limit_octets t i (m.records i inside k.range.live);
          spare_2 = k.spare;
        }

    -- it is a well-formed table of the base
    pub well_formed_base : BaseFormed t
    well_formed_base = record { sized = w.sized; header = header_then_holds; records = λ i h. record_then i h (w.records i h); unique = w.unique }

  -- NUMBER 1: with the mode off the test of what is lent, by which it is given or not, holds exactly where the base's condition does
  pub fits_as_before : ModeOff t → (store output : ℕ) → (fitting t store output ≡ true → BaseFitting t store output) × (BaseFitting t store output → fitting t store output ≡ true)
  fits_as_before m store output = (then, λ b. from_fitting t store output (record { formed = base_well_formed b.formed; cells = b.cells; room = b.room }))
    where
      then : fitting t store output ≡ true → BaseFitting t store output
      then e = let f = to_fitting t store output e in record { formed = well_formed_base f.formed m; cells = f.cells; room = f.room }
