-- Which names a call opens as a responder's: one that a live record had before is not opened anew. Assumes nothing.
use Prim.Native.Nat.{ℕ, ◌<◌}
use mathlib.Core.Path.{◌≡◌, refl}
use mathlib.Core.Bool.{Bool, true, false}
use mathlib.Core.List.{List, ◌∷◌}
use mathlib.Core.Logic.{inl, inr}
use Rattle.std.specs.Prelude.{Option, Some, None, is_some}
use Rattle.table_record.specs.declared.Role.TheVariants.{Responder}
use Rattle.table_layout.specs.Table.{count, record_at}
use Rattle.table_finding.specs.Finding.{named_of}
use Rattle.table_finding.specs.Searched.{Called, NoneOf}
use Rattle.table_finding.proofs.Searches.{named_found, named_nothing}
use Rattle.law_history.specs.Trace.{Entry}
use Rattle.law_history.specs.Tally.{lives, opens}
use Rattle.law_history.specs.Start.{Start}
use Rattle.law_history.specs.Demand.{OpenedBy, Unopened, responder, InvokeFrom}

module _ (t : List ℕ) (peer tid : ℕ) where
  -- a live record so called is found
  pub called_lives : (i : ℕ) → i < count t → Called Responder peer tid (record_at t i) → lives t (responder peer tid) ≡ true
  called_lives i inside called = go (named_of t (count t) Responder peer tid) refl
    where
      go : (f : Option ℕ) → named_of t (count t) Responder peer tid ≡ f → is_some f ≡ true
      go (Some j) e = refl
      go None e = absurd (named_nothing t (count t) Responder peer tid e i inside called)

  -- where none is so called, none is found
  pub none_lives : NoneOf (Called Responder peer tid) t (count t) → lives t (responder peer tid) ≡ false
  none_lives none = go (named_of t (count t) Responder peer tid) refl
    where
      go : (f : Option ℕ) → named_of t (count t) Responder peer tid ≡ f → is_some f ≡ false
      go (Some j) e =
          let l = named_found t (count t) Responder peer tid j e in
          absurd (none j l.below l.is_so)
      go None e = refl

module _ (e : Entry) (peer tid : ℕ) where
  -- a name that lived before isn't opened
  pub not_anew : lives e.lent.table (responder peer tid) ≡ true → opens e (responder peer tid) ≡ false
  unfolding opens
  not_anew lived = rw lived refl

  -- one that lives afterwards alone is
  pub opens_now : lives e.lent.table (responder peer tid) ≡ false → lives e.done.table (responder peer tid) ≡ true → opens e (responder peer tid) ≡ true
  unfolding opens
  opens_now none lives_then = rw (none, lives_then) refl

-- its opener stays the one that it had
opener_stays : (e o : Entry) (h : List Entry) (peer tid : ℕ) → lives e.lent.table (responder peer tid) ≡ true → OpenedBy (responder peer tid) o h → OpenedBy (responder peer tid) o (e ∷ h)
unfolding OpenedBy
opener_stays e o h peer tid lived opened = inr (not_anew e peer tid lived, opened)

pub opener_is : (e : Entry) (h : List Entry) (peer tid : ℕ) → opens e (responder peer tid) ≡ true → OpenedBy (responder peer tid) e (e ∷ h)
unfolding OpenedBy
opener_is e h peer tid opened = inl (opened, refl)

unopened_stays : (e : Entry) (h : List Entry) (peer tid : ℕ) → lives e.lent.table (responder peer tid) ≡ true → Unopened (responder peer tid) h → Unopened (responder peer tid) (e ∷ h)
unfolding Unopened
unopened_stays e h peer tid lived unopened = (not_anew e peer tid lived, unopened)

-- and so the Invoke of a record that lived before stays what it was
pub invoke_stays : (start : Start) (e : Entry) (h : List Entry) (peer tid class : ℕ) (up : Bool) (octets : List ℕ) → lives e.lent.table (responder peer tid) ≡ true
    → InvokeFrom start h peer tid class up octets → InvokeFrom start (e ∷ h) peer tid class up octets
invoke_stays start e h peer tid class up octets lived (inl r) = inl (record {
  opener = r.opener;
  opened = opener_stays e r.opener h peer tid lived r.opened;
  time = r.time;
  received = r.received;
  names = r.names;
  invoke = r.invoke;
  exact = r.exact;
})
invoke_stays start e h peer tid class up octets lived (inr a) = inr (record { unopened = unopened_stays e h peer tid lived a.unopened; kept = a.kept })
