-- With the mode on every live record has a deadline, and one that is reached only by due firings is free after a stated number of them, whatever exported functions were called before. Assumes nothing.
use Prim.Native.Nat.{ℕ, ◌+◌}
use native.Mathlib.Omega.{arith}
use mathlib.Core.Path.{◌≡◌, refl, sym, ap, subst, ◌∙◌}
use mathlib.Core.Bool.{Bool, true, false}
use mathlib.Core.List.{List}
use lib.ListN.{length}
use lib.Dec.{ltb}
use borrow.Author.Tests.{le-ltb}
use Rattle.base_layout.specs.Layout.{answer_size}
use Rattle.table_layout.specs.Table.{record_at, settings_of}
use Rattle.law_history.specs.Trace.{Entry}
use Rattle.law_waiting.specs.Waiting.{ModeOn, AllTimed, OnlyFired, none, fired, apart, Freed}
use Rattle.law_waiting.proofs.Through.{Waits, waits_through, none_timed}
use Rattle.law_waiting.proofs.Fired.{free_within}
use Rattle.law_exported.specs.Session.{Exported, Keeps, entry_for, Session}
use Rattle.law_exported.specs.Waiting.{OnlyFiredBy}
use Rattle.law_exported.proofs.Exported.{Follows, follows, few, enough}

waits : {max : ℕ} {t s : List ℕ} {h : List Entry} (session : Session max t s h) → Waits (follows session).table₀ t
waits session = let f = follows session in waits_through f.inv.formed (none_timed f.table₀ f.no_record) f.run

-- EVERY LIVE RECORD HAS A DEADLINE, with the mode on
pub exported_deadlines : {max : ℕ} {t s : List ℕ} {h : List Entry} → Session max t s h → ModeOn t → AllTimed t
exported_deadlines session on = (waits session).timed on

-- the firings as the engine's calls
as_entries : {place : ℕ} {from : List ℕ} {n : ℕ} {t : List ℕ} → OnlyFiredBy place from n t → OnlyFired place from n t
as_entries OnlyFiredBy.none = none
as_entries {place} {from} (OnlyFiredBy.fired {n} o x k is words f) =
    subst (OnlyFired place from (n + 1)) (sym (enough x k (le-ltb (length x.words) answer_size words)).0) (fired (as_entries o) (entry_for x) (record { lends = k.lends; keeps = refl }) is f)
as_entries {place} {from} (OnlyFiredBy.apart {n} {t} o x k is same) = go (ltb (length x.words) answer_size) refl (as_entries o)
  where
    go : (b : Bool) → ltb (length x.words) answer_size ≡ b → OnlyFired place from n t → OnlyFired place from n x.seen.table
    go true e so = subst (OnlyFired place from n) (sym ((few x k e).0 ∙ is)) so
    go false e so =
        let after_is = (enough x k e).0 in
        subst (OnlyFired place from n) (sym after_is) (apart so (entry_for x) (record { lends = k.lends; keeps = refl }) is (rw after_is at same))

-- FREE WITHIN THE STATED NUMBER OF FIRINGS, with the mode on
pub exported_free_within : {max : ℕ} {t s : List ℕ} {h : List Entry} → Session max t s h → ModeOn t → (place : ℕ) {n : ℕ} {u : List ℕ} → OnlyFiredBy place t n u → Freed (settings_of t) (record_at t place) (record_at u place) n
exported_free_within {max} {t} session on place o = let w = waits session in free_within place t w.formed on (w.timed on) (as_entries o)
