-- What is found of each place, in the sentences of document 02. Assumes nothing.
use Prim.Native.Nat.{ℕ, ◌+◌, ◌-◌, ◌≤◌, ◌<◌}
use native.Mathlib.Omega.{arith}
use native.Mathlib.Nat.{add-zero}
use borrow.Author.Tests.{eqb-true, eqb-false}
use mathlib.Core.Path.{◌≡◌, refl, sym, ◌∙◌}
use mathlib.Core.Bool.{true, false}
use mathlib.Core.List.{List}
use mathlib.Core.Logic.{◌⊎◌, inl, inr}
use lib.ListN.{get_or}
use lib.Dec.{eqb}
use Rattle.base_layout.specs.Layout.{record_size, base}
use Rattle.base_lists.specs.Seq.{pick}
use Rattle.base_lists.proofs.StoresAndParts.{told, true_false}
use Rattle.table_record.specs.Record.{role_of, state_number}
use Rattle.table_record.specs.declared.Record.{Record}
use Rattle.table_layout.specs.Table.{settings_of, record_at}
use Rattle.std.specs.Prelude.{Option, Some, None, is_some}
use Rattle.table_finding.specs.Finding.{named_of}
use Rattle.table_finding.specs.Searched.{Called, LowestOf, NoneOf}
use Rattle.table_finding.proofs.Searches.{named_found, named_nothing}
use Rattle.table_record_ok.specs.OneRecord.{Live, LiveOk, RecordOk, record_ok}
use Rattle.table_record_ok.proofs.RecordTest.{record_to, record_from, live_of}
use Rattle.law_formed_kept.proofs.InRecord.{record_same}
use Rattle.table_salvage.specs.Salvage.{reason_of, shares_name, finding_at, salvaged_to}
use Rattle.table_salvage.specs.declared.Reason.{Reason as Why}
use Rattle.table_salvage.specs.declared.Reason.TheVariants.{OutOfRange, NotZero, SharesName}
use Rattle.law_salvage.specs.Reasons.{OutOfRange as IsOutOfRange, NotZero as IsNotZero}
use Rattle.law_salvage.specs.Sentences.{SameRecord}
use Rattle.law_salvage.proofs.Octets.{same_fields, reasonFor, salvaged_settings, not_done}

pub turned : (t u : List ℕ) (i : ℕ) → SameRecord t u i → SameRecord u t i
turned t u i h k l = sym (h k l)

-- a record is judged by its octets and the settings
pub judged_same : (t u : List ℕ) (i : ℕ) → settings_of u ≡ settings_of t → SameRecord t u i → RecordOk t (settings_of t) i → RecordOk u (settings_of u) i
judged_same t u i s o ok = record_same t u i s (same_fields t u i o) octets ok
  where
    octets : (k : ℕ) → base i ≤ k → k < base i + record_size → get_or u k 0 ≡ get_or t k 0
    octets k a b =
        let e : base i + (k - base i) ≡ k = omega arith in
        rw e at (o (k - base i) (omega arith))

-- the name of a record is a live one's
abbrev pub Namesake : Record → Record → Type 0
Namesake r = Called (role_of r.state) r.peer r.tid

module _ (t : List ℕ) (i : ℕ) where
  abbrev searched : Option ℕ
  searched = named_of t i (role_of (record_at t i).state) (record_at t i).peer (record_at t i).tid

  shares_to : shares_name t i ≡ true → Live (record_at t i) × ((j : ℕ) × LowestOf (Namesake (record_at t i)) t i j)
  unfolding shares_name
  shares_to h = go (told (eqb (state_number (record_at t i).state) 0)) h
    where
      at : (f : Option ℕ) → searched ≡ f → is_some f ≡ true → (j : ℕ) × LowestOf (Namesake (record_at t i)) t i j
      at (Some j) e q = (j, named_found t i (role_of (record_at t i).state) (record_at t i).peer (record_at t i).tid j e)
      at None e q = true_false (sym q)

      go : (eqb (state_number (record_at t i).state) 0 ≡ true) ⊎ (eqb (state_number (record_at t i).state) 0 ≡ false)
          → pick (eqb (state_number (record_at t i).state) 0) false (is_some searched) ≡ true → Live (record_at t i) × ((j : ℕ) × LowestOf (Namesake (record_at t i)) t i j)
      go (inl e) q = true_false (sym (rw e at q))
      go (inr e) q = (omega (arith, eqb-false (state_number (record_at t i).state) 0 e), at searched refl (rw e at q))

  shares_not : shares_name t i ≡ false → Live (record_at t i) → NoneOf (Namesake (record_at t i)) t i
  unfolding shares_name
  shares_not h live = go (told (eqb (state_number (record_at t i).state) 0)) h
    where
      at : (f : Option ℕ) → searched ≡ f → is_some f ≡ false → NoneOf (Namesake (record_at t i)) t i
      at (Some j) e q = true_false q
      at None e q = named_nothing t i (role_of (record_at t i).state) (record_at t i).peer (record_at t i).tid e

      go : (eqb (state_number (record_at t i).state) 0 ≡ true) ⊎ (eqb (state_number (record_at t i).state) 0 ≡ false)
          → pick (eqb (state_number (record_at t i).state) 0) false (is_some searched) ≡ false → NoneOf (Namesake (record_at t i)) t i
      go (inl e) q = absurd (omega (arith, live, eqb-true (state_number (record_at t i).state) 0 e))
      go (inr e) q = at searched refl (rw e at q)

-- what a finding at place i of t says, where the lower places of v are done
abbrev pub Fate : List ℕ → List ℕ → ℕ → Option Why → Type 0
Fate t v i None = RecordOk t (settings_of t) i × (Live (record_at t i) → NoneOf (Namesake (record_at t i)) v i)
Fate t v i (Some OutOfRange) = IsOutOfRange t i
Fate t v i (Some NotZero) = IsNotZero t i
Fate t v i (Some SharesName) = LiveOk t (settings_of t) i × ((j : ℕ) × LowestOf (Namesake (record_at t i)) v i j)

module _ (t : List ℕ) (i : ℕ) where
  abbrev v : List ℕ
  v = salvaged_to t i

  fields : record_at v i ≡ record_at t i
  fields = same_fields t v i (not_done t i)

  state_octet : get_or v (base i) 0 ≡ get_or t (base i) 0
  state_octet = rw add-zero at (not_done t i 0 (omega arith))

  ok_here : RecordOk t (settings_of t) i → RecordOk v (settings_of v) i
  ok_here = judged_same t v i (salvaged_settings t i) (not_done t i)

  ok_there : RecordOk v (settings_of v) i → RecordOk t (settings_of t) i
  ok_there = judged_same v t i (sym (salvaged_settings t i)) (turned t v i (not_done t i))

  not_ok : record_ok v (settings_of v) i ≡ false → RecordOk t (settings_of t) i → ⊥
  not_ok e ok = true_false (sym (record_from v (settings_of v) i (ok_here ok)) ∙ e)

  pub fate : Fate t v i (finding_at v i)
  unfolding finding_at
  fate = go (told (record_ok v (settings_of v) i)) (told (shares_name v i)) (told (eqb (get_or v (base i) 0) 0))
    where
      go : (record_ok v (settings_of v) i ≡ true) ⊎ (record_ok v (settings_of v) i ≡ false) → (shares_name v i ≡ true) ⊎ (shares_name v i ≡ false)
          → (eqb (get_or v (base i) 0) 0 ≡ true) ⊎ (eqb (get_or v (base i) 0) 0 ≡ false)
          → Fate t v i (pick (record_ok v (settings_of v) i) (pick (shares_name v i) (Some SharesName) None) (pick (eqb (get_or v (base i) 0) 0) (Some NotZero) (Some OutOfRange)))
      go (inl a) (inl b) c =
          let s = shares_to v i b in
          let ok : RecordOk t (settings_of t) i = ok_there (record_to v (settings_of v) i a) in
          rw (a, b) (live_of t (settings_of t) i ok (rw fields at s.0), rw fields at s.1)
      go (inl a) (inr b) c =
          let none : Live (record_at t i) → NoneOf (Namesake (record_at t i)) v i = rw fields at (shares_not v i b) in
          rw (a, b) (ok_there (record_to v (settings_of v) i a), none)
      go (inr a) b (inl c) =
          rw (a, c) (record { free = sym state_octet ∙ eqb-true (get_or v (base i) 0) 0 c; not_zero = λ f. not_ok a (inl f) })
      go (inr a) b (inr c) =
          rw (a, c) (record { not_free = λ f. eqb-false (get_or v (base i) 0) 0 c (state_octet ∙ f); not_in_range = λ l. not_ok a (inr l) })

  -- the finding of a place without a reason is that it stays
  pub stays_fate : eqb (reasonFor t i) 0 ≡ true → Fate t v i None
  stays_fate e = go (finding_at v i) fate e
    where
      go : (f : Option Why) → Fate t v i f → eqb (reason_of f) 0 ≡ true → Fate t v i None
      go None x e = x
      go (Some OutOfRange) x e = true_false (sym e)
      go (Some NotZero) x e = true_false (sym e)
      go (Some SharesName) x e = true_false (sym e)
