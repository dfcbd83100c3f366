-- The outcome is well formed, each place that is zeroed has its reason, and none that could stay is zeroed. Assumes nothing.
use Prim.Native.Nat.{ℕ, ◌+◌, ◌≤◌, ◌<◌}
use native.Mathlib.Omega.{arith}
use native.Mathlib.Nat.{add-zero}
use borrow.Author.Tests.{eqb-false}
use mathlib.Core.Path.{◌≡◌, refl, sym, ap, ◌∙◌}
use mathlib.Core.Bool.{true, false}
use mathlib.Core.List.{List}
use mathlib.Core.Logic.{◌⊎◌, inl, inr}
use lib.ListN.{length, get_or}
use lib.Dec.{eqb}
use Rattle.base_layout.specs.Layout.{record_size, base}
use Rattle.base_lists.proofs.StoresAndParts.{told, true_false, some_fails, length_put}
use Rattle.base_octets.specs.Octets.{gets}
use Rattle.base_octets.proofs.StoredAndRead.{two_sides, get_same, get_gets, length_gets}
use Rattle.table_record.specs.Record.{state_number}
use Rattle.table_record.specs.declared.Record.{Record}
use Rattle.table_record.specs.declared.State.TheVariants.{Free}
use Rattle.table_layout.specs.Table.{count, settings_of, record_at}
use Rattle.table_ranges.specs.Ranges.{zeros}
use Rattle.table_ranges.proofs.Zeros.{zeros_to}
use Rattle.table_header_ok.specs.Header.{HeaderOk}
use Rattle.table_finding.specs.Searched.{LowestOf}
use Rattle.table_finding.proofs.Tests.{tells_free}
use Rattle.table_record_ok.specs.OneRecord.{Live, LiveOk, FreeOk, RecordOk}
use Rattle.table_record_ok.proofs.RecordTest.{free_state, live_of}
use Rattle.table_record_ok.proofs.States.{octet_live}
use Rattle.table_names_ok.specs.Names.{SameName, Unique}
use Rattle.table_names_ok.proofs.NamesTest.{name_turned}
use Rattle.table_well_formed.specs.WellFormed.{Sized, WellFormed}
use Rattle.law_formed_kept.proofs.InRecord.{sized_same, settings_stand, fields_stand}
use Rattle.table_salvage.specs.Salvage.{reason_of, finding_at, salvaged_to}
use Rattle.std.specs.Prelude.{Option, Some, None}
use Rattle.table_salvage.specs.declared.Reason.{Reason as Why}
use Rattle.table_salvage.specs.declared.Reason.TheVariants.{OutOfRange, NotZero, SharesName}
use Rattle.law_salvage.specs.Reasons.{SharesLower, Reason}
use Rattle.law_salvage.specs.Sentences.{SameRecord, Changed, restored}
use Rattle.law_salvage.proofs.Octets.{same_fields, reasonFor, salvaged_length, salvaged_settings, salvaged_header, done}
use Rattle.law_salvage.proofs.Fates.{turned, judged_same, Namesake, Fate, fate, stays_fate}

-- a free record's state octet, and a live one's
pub free_octet : (t : List ℕ) (i : ℕ) → FreeOk t i → get_or t (base i) 0 ≡ 0
free_octet t i h = rw add-zero at (h 0 (omega arith))

pub live_octet : (t : List ℕ) (i : ℕ) → LiveOk t (settings_of t) i → get_or t (base i) 0 ≡ 0 → ⊥
live_octet t i l e = omega (arith, (octet_live t i l.range.live).0)

-- a state that isn't Free has a number over 0, and a zero record's is
live_number : (r : Record) → (r.state ≡ Free → ⊥) → Live r
live_number r h = go (told (eqb (state_number r.state) 0))
  where
    go : (eqb (state_number r.state) 0 ≡ true) ⊎ (eqb (state_number r.state) 0 ≡ false) → Live r
    go (inl e) = absurd (h ((tells_free r).0 e))
    go (inr e) = omega (arith, eqb-false (state_number r.state) 0 e)

zero_is_free : (t : List ℕ) (i : ℕ) → FreeOk t i → Live (record_at t i) → ⊥
zero_is_free t i f live = omega (arith, live, free_state t i f)

-- a live record of a name is that name's
called_as : (r s : Record) → Live s → SameName s r → Namesake r s
called_as r s live n = record { live = λ e. omega (arith, live, ap state_number e); role_is = n.role; peer_is = n.peer; tid_is = n.tid }

name_of : (r s : Record) → Namesake r s → SameName s r
name_of r s c = record { role = c.role_is; peer = c.peer_is; tid = c.tid_is }

-- a place of which not every octet is zero has one that isn't
some_octet : (t : List ℕ) (i : ℕ) → (FreeOk t i → ⊥) → (k : ℕ) × (k < record_size) × (get_or t (base i + k) 0 ≡ 0 → ⊥)
unfolding zeros
some_octet t i h = go (told (zeros t (base i) record_size))
  where
    go : (zeros t (base i) record_size ≡ true) ⊎ (zeros t (base i) record_size ≡ false) → (k : ℕ) × (k < record_size) × (get_or t (base i + k) 0 ≡ 0 → ⊥)
    go (inl e) = absurd (h (zeros_to t (base i) record_size e))
    go (inr e) =
        let f = some_fails (λ k. eqb (get_or t (base i + k) 0) 0) record_size e in
        (f.0, f.1, eqb-false (get_or t (base i + f.0) 0) 0 f.2)

module _ (t : List ℕ) (sized : Sized t) where
  -- the table after n of its places
  module _ (n : ℕ) (most : n ≤ count t) where
    abbrev v : List ℕ
    v = salvaged_to t n

    inside : base n ≤ length t
    inside = omega (arith, sized.whole, most)

    pub stays : (i : ℕ) → i < n → eqb (reasonFor t i) 0 ≡ true → SameRecord t v i
    stays i h e k l = done t n i k h inside l ∙ rw e refl

    pub zeroed : (i : ℕ) → i < n → eqb (reasonFor t i) 0 ≡ false → FreeOk v i
    zeroed i h e k l = done t n i k h inside l ∙ rw e refl

    -- a place that was done before is as it was then
    pub done_same : (m i : ℕ) → i < m → m ≤ n → record_at v i ≡ record_at (salvaged_to t m) i
    done_same m i h l = same_fields (salvaged_to t m) v i (λ k r. done t n i k (omega arith) inside r ∙ sym (done t m i k h (omega (arith, inside)) r))

    -- what is live there stayed
    pub live_stays : (i : ℕ) → i < n → Live (record_at v i) → eqb (reasonFor t i) 0 ≡ true
    live_stays i h live = go (told (eqb (reasonFor t i) 0))
      where
        go : (eqb (reasonFor t i) 0 ≡ true) ⊎ (eqb (reasonFor t i) 0 ≡ false) → eqb (reasonFor t i) 0 ≡ true
        go (inl e) = e
        go (inr e) = absurd (zero_is_free v i (zeroed i h e) live)

    pub in_order : (i : ℕ) → i < n → RecordOk v (settings_of v) i
    in_order i h = go (told (eqb (reasonFor t i) 0))
      where
        go : (eqb (reasonFor t i) 0 ≡ true) ⊎ (eqb (reasonFor t i) 0 ≡ false) → RecordOk v (settings_of v) i
        go (inl e) = judged_same t v i (salvaged_settings t n) (stays i h e) (stays_fate t i e).0
        go (inr e) = inl (zeroed i h e)

    apart : (a b : ℕ) → a < b → b < n → Live (record_at v a) → Live (record_at v b) → SameName (record_at v a) (record_at v b) → ⊥
    apart a b h l p q s =
        let e : eqb (reasonFor t b) 0 ≡ true = live_stays b l q in
        let own : record_at v b ≡ record_at t b = same_fields t v b (stays b l e) in
        let then : record_at v a ≡ record_at (salvaged_to t b) a = done_same b a h (omega arith) in
        (stays_fate t b e).1 (rw own at q) a h (called_as (record_at t b) (record_at (salvaged_to t b) a) (rw then at p) (rw (own, then) at s))

    pub names_apart : Unique v n
    names_apart a b l m d p q s = go (two_sides a b d)
      where
        go : (a < b) ⊎ (b < a) → ⊥
        go (inl h) = apart a b h m p q s
        go (inr h) = apart b a h l q p (name_turned (record_at v a) (record_at v b) s)

    -- a live one of a place that is done, and that stayed, had all its fields in range
    pub was_in_range : (i : ℕ) → i < n → Live (record_at v i) → LiveOk t (settings_of t) i
    was_in_range i h live =
        let e : eqb (reasonFor t i) 0 ≡ true = live_stays i h live in
        live_of t (settings_of t) i (stays_fate t i e).0 (rw (same_fields t v i (stays i h e)) at live)

    -- of a name that a record in range has, one record stays: the lowest
    pub one_stays : (i : ℕ) → i < n → LiveOk t (settings_of t) i → (j : ℕ) × (j < n) × Namesake (record_at t i) (record_at v j)
    one_stays i h ok = go (finding_at (salvaged_to t i) i) (fate t i) refl
      where
        go : (f : Option Why) → Fate t (salvaged_to t i) i f → f ≡ finding_at (salvaged_to t i) i → (j : ℕ) × (j < n) × Namesake (record_at t i) (record_at v j)
        go None x e =
            let same : record_at v i ≡ record_at t i = same_fields t v i (stays i h (ap (λ (f : Option Why). eqb (reason_of f) 0) (sym e))) in
            (i, h, rw same (called_as (record_at t i) (record_at t i) ok.range.live (record { role = refl; peer = refl; tid = refl })))
        go (Some OutOfRange) x e = absurd (x.not_in_range ok)
        go (Some NotZero) x e = absurd (live_octet t i ok x.free)
        go (Some SharesName) x e =
            let j : ℕ = x.1.0 in
            let low : LowestOf (Namesake (record_at t i)) (salvaged_to t i) i j = x.1.1 in
            (j, omega (arith, low.below, h), rw (done_same i j low.below (omega arith)) low.is_so)

  abbrev N : ℕ
  N = count t

  abbrev pub outcome : List ℕ
  outcome = salvaged_to t N

  at_most : N ≤ N
  at_most = omega arith

  same_count : count outcome ≡ N
  same_count = rw (salvaged_length t N) refl

  -- "The outcome is well formed"
  pub outcome_formed : HeaderOk t → WellFormed outcome
  outcome_formed h = record {
    sized = sized_same t outcome (salvaged_length t N) sized;
    header = salvaged_header t N h;
    records = λ i l. in_order N at_most i (rw same_count at l);
    unique = λ a b l m. names_apart N at_most a b (rw same_count at l) (rw same_count at m);
  }

  module _ (i : ℕ) (h : i < count t) where
    within : i ≤ count t
    within = omega arith

    shares : LiveOk t (settings_of t) i → (j : ℕ) → LowestOf (Namesake (record_at t i)) (salvaged_to t i) i j → SharesLower t i
    shares ok j low =
        let live : Live (record_at (salvaged_to t i) j) = live_number (record_at (salvaged_to t i) j) low.is_so.live in
        let same : record_at (salvaged_to t i) j ≡ record_at t j = same_fields t (salvaged_to t i) j (stays i within j low.below (live_stays i within j low.below live)) in
        record {
          in_range_holds = ok;
          lower = j;
          below = low.below;
          lower_in_range = was_in_range i within j low.below live;
          same_name = rw same at (name_of (record_at t i) (record_at (salvaged_to t i) j) low.is_so);
        }

    -- a place that is zeroed has its reason
    pub reason_so : eqb (reasonFor t i) 0 ≡ false → Reason t i (reasonFor t i)
    reason_so e = go (finding_at (salvaged_to t i) i) (fate t i) e
      where
        go : (f : Option Why) → Fate t (salvaged_to t i) i f → eqb (reason_of f) 0 ≡ false → Reason t i (reason_of f)
        go None x e = true_false e
        go (Some OutOfRange) x e = Reason.out_of_range x
        go (Some NotZero) x e = Reason.not_zero x
        go (Some SharesName) x e = Reason.shares_lower (shares x.0 x.1.0 x.1.1)

    not_both : RecordOk t (settings_of t) i → (get_or t (base i) 0 ≡ 0 → ⊥) → (LiveOk t (settings_of t) i → ⊥) → ⊥
    not_both (inl f) some out = some (free_octet t i f)
    not_both (inr l) some out = out l

    not_free : RecordOk t (settings_of t) i → get_or t (base i) 0 ≡ 0 → (FreeOk t i → ⊥) → ⊥
    not_free (inl f) none out = out f
    not_free (inr l) none out = live_octet t i l none

    -- a place that has a reason is found with it
    pub reason_found : (r : ℕ) → Reason t i r → reasonFor t i ≡ r
    reason_found r x = go (finding_at (salvaged_to t i) i) (fate t i) r x
      where
        go : (f : Option Why) → Fate t (salvaged_to t i) i f → (r : ℕ) → Reason t i r → reason_of f ≡ r
        go None y r (Reason.out_of_range x) = absurd (not_both y.0 x.not_free x.not_in_range)
        go None y r (Reason.not_zero x) = absurd (not_free y.0 x.free x.not_zero)
        go None y r (Reason.shares_lower x) =
            let kept = one_stays i within x.lower x.below x.lower_in_range in
            let c : Namesake (record_at t x.lower) (record_at (salvaged_to t i) kept.0) = kept.2 in
            absurd (y.1 x.in_range_holds.range.live kept.0 kept.1 (record {
              live = c.live;
              role_is = c.role_is ∙ x.same_name.role;
              peer_is = c.peer_is ∙ x.same_name.peer;
              tid_is = c.tid_is ∙ x.same_name.tid;
            }))
        go (Some OutOfRange) y r (Reason.out_of_range x) = refl
        go (Some OutOfRange) y r (Reason.not_zero x) = absurd (y.not_free x.free)
        go (Some OutOfRange) y r (Reason.shares_lower x) = absurd (y.not_in_range x.in_range_holds)
        go (Some NotZero) y r (Reason.out_of_range x) = absurd (x.not_free y.free)
        go (Some NotZero) y r (Reason.not_zero x) = refl
        go (Some NotZero) y r (Reason.shares_lower x) = absurd (live_octet t i x.in_range_holds y.free)
        go (Some SharesName) y r (Reason.out_of_range x) = absurd (x.not_in_range y.0)
        go (Some SharesName) y r (Reason.not_zero x) = absurd (live_octet t i y.0 x.free)
        go (Some SharesName) y r (Reason.shares_lower x) = refl

    -- an octet of a place with a reason changes
    pub reason_changes : (r : ℕ) → Reason t i r → eqb (reasonFor t i) 0 ≡ false → Changed t outcome i
    reason_changes r x e = go r x
      where
        octet_0 : (get_or t (base i) 0 ≡ 0 → ⊥) → Changed t outcome i
        octet_0 some = record {
          octet = 0;
          inside = omega arith;
          changed = λ q. some (rw add-zero at (sym (q) ∙ zeroed N at_most i h e 0 (omega arith)));
        }

        go : (r : ℕ) → Reason t i r → Changed t outcome i
        go r (Reason.out_of_range x) = octet_0 x.not_free
        go r (Reason.not_zero x) =
            let s = some_octet t i x.not_zero in
            record { octet = s.0; inside = s.1; changed = λ q. s.2 (sym q ∙ zeroed N at_most i h e s.0 s.1) }
        go r (Reason.shares_lower x) = octet_0 (live_octet t i x.in_range_holds)

    -- the table with such a place as it was isn't well formed
    pub could_not_stay : (r : ℕ) → Reason t i r → eqb (reasonFor t i) 0 ≡ false → WellFormed (restored t outcome i) → ⊥
    could_not_stay r x e w = go r x
      where
        back : List ℕ
        back = restored t outcome i

        long : length (gets record_size (base i) t) ≡ record_size
        long = length_gets record_size (base i) t

        high : base i + length (gets record_size (base i) t) ≤ base i + record_size
        high = rw long (omega arith)

        same_long : length back ≡ length t
        same_long = length_put outcome (base i) (gets record_size (base i) t) ∙ salvaged_length t N

        same : SameRecord t back i
        same k l =
            get_same (gets record_size (base i) t) outcome (base i) k (rw (long, salvaged_length t N) (omega (arith, sized.whole, h))) (rw long l) ∙ get_gets record_size (base i) t k l

        settings : settings_of back ≡ settings_of t
        settings = settings_stand outcome i (base i) (gets record_size (base i) t) (omega arith) high ∙ salvaged_settings t N

        counted : (j : ℕ) → j < count t → j < count back
        counted j l = rw same_long l

        ok : RecordOk t (settings_of t) i
        ok = judged_same back t i (sym settings) (turned t back i same) (w.records i (counted i h))

        go : (r : ℕ) → Reason t i r → ⊥
        go r (Reason.out_of_range x) = not_both ok x.not_free x.not_in_range
        go r (Reason.not_zero x) = not_free ok x.free x.not_zero
        go r (Reason.shares_lower x) =
            let kept = one_stays N at_most x.lower (omega (arith, x.below, h)) x.lower_in_range in
            let j : ℕ = kept.0 in
            let c : Namesake (record_at t x.lower) (record_at outcome j) = kept.2 in
            let live : Live (record_at outcome j) = live_number (record_at outcome j) c.live in
            let other : j ≡ i → ⊥ = λ q. zero_is_free outcome i (zeroed N at_most i h e) (rw q at live) in
            let there : record_at back j ≡ record_at outcome j = fields_stand outcome i (base i) (gets record_size (base i) t) (omega arith) high j other in
            let here : record_at back i ≡ record_at t i = same_fields t back i same in
            w.unique j i (counted j kept.1) (counted i h) other (rw there live) (rw here x.in_range_holds.range.live) (rw (there, here) (record {
              role = c.role_is ∙ x.same_name.role;
              peer = c.peer_is ∙ x.same_name.peer;
              tid = c.tid_is ∙ x.same_name.tid;
            }))
