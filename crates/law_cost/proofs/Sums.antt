-- What a call adds to what the history says of a request: nothing where it is silent, what it sends where the name isn't opened, and all anew where it is. Assumes nothing.
use Prim.Native.Nat.{◌+◌}
use native.Mathlib.Nat.{zero-add, add-zero}
use mathlib.Core.Path.{◌≡◌, refl, ◌∙◌}
use mathlib.Core.Bool.{Bool, true, false}
use mathlib.Core.List.{List, ◌∷◌}
use lib.ListN.{length}
use Rattle.base_lists.specs.Seq.{pick, bit}
use Rattle.law_counting.specs.Counting.{Counts}
use Rattle.law_history.specs.Trace.{Entry}
use Rattle.law_history.specs.Tally.{Name, opens, tally}
use Rattle.law_history.specs.Cost.{charged, class_asked}
use Rattle.law_history.specs.Moves.{Silent}
use Rattle.law_cost.specs.Cost.{asked, class_in, data_in, over, spent, Counted, reported, reports}

module _ (start : Name → Counts) (e : Entry) (h : List Entry) (n : Name) where
  -- not opened: all goes on
  module _ (shut : opens e n ≡ false) where
    pub shut_asked : asked (e ∷ h) n ≡ asked h n
    unfolding asked
    shut_asked = rw shut refl

    pub shut_class : class_in (e ∷ h) n ≡ class_in h n
    unfolding class_in
    shut_class = rw shut refl

    pub shut_data : data_in (e ∷ h) n ≡ data_in h n
    unfolding data_in
    shut_data = rw shut refl

    pub shut_spent : spent start (e ∷ h) n ≡ spent start h n + pick (over (class_in h n) (tally start h n)) 0 (charged e n)
    unfolding spent
    shut_spent = rw shut refl

    pub shut_reports : reports (e ∷ h) n ≡ reports h n + bit (reported e n)
    unfolding reports
    shut_reports = rw shut refl

    pub shut_counted : Counted (e ∷ h) n → Counted h n
    shut_counted c = record { role = c.role; was_asked = rw shut_asked at c.was_asked; class = rw shut_class at c.class }

  -- opened: it starts anew
  module _ (opened : opens e n ≡ true) where
    pub open_asked : asked (e ∷ h) n ≡ true
    unfolding asked
    open_asked = rw opened refl

    pub open_class : class_in (e ∷ h) n ≡ class_asked e.call
    unfolding class_in
    open_class = rw opened refl

    pub open_data : data_in (e ∷ h) n ≡ length e.lent.given
    unfolding data_in
    open_data = rw opened refl

    pub open_spent : spent start (e ∷ h) n ≡ charged e n
    unfolding spent
    open_spent = rw opened refl

    pub open_reports : reports (e ∷ h) n ≡ bit (reported e n)
    unfolding reports
    open_reports = rw opened (zero-add (bit (reported e n)))

  -- silent: the sum is as it was
  pub silent_spent : Silent e n → spent start (e ∷ h) n ≡ spent start h n
  silent_spent s = shut_spent s.not_opened ∙ rw s.uncharged (go (over (class_in h n) (tally start h n)))
    where
      go : (b : Bool) → spent start h n + pick b 0 0 ≡ spent start h n
      go true = add-zero (spent start h n)
      go false = add-zero (spent start h n)
