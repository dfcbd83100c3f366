-- What an accepted request knows: its step, what is lent, its time, peer, data and class, that its TID isn't in use, and its place. Assumes nothing.
use Prim.Native.Nat.{ℕ, ◌%◌, ◌≤◌, ◌<◌}
use native.Mathlib.Omega.{arith}
use mathlib.Core.Path.{◌≡◌, refl, sym, ◌∙◌}
use mathlib.Core.List.{List, [], ◌++◌}
use mathlib.Core.Bool.{Bool, true, false}
use mathlib.Core.Logic.{◌⊎◌, inl, inr}
use lib.Dec.{ltb}
use borrow.Author.Tests.{ltb-false}
use Rattle.std.specs.Prelude.{Ok, Option, Some, None}
use Rattle.base_layout.specs.Layout.{time_bound, peers, records_bound, cell_size}
use Rattle.base_lists.proofs.StoresAndParts.{true_false}
use Rattle.table_record.specs.Record.{role_of}
use Rattle.table_record.specs.declared.Role.TheVariants.{Initiator}
use Rattle.table_record.specs.declared.State.TheVariants.{Free}
use Rattle.table_record.specs.declared.Record.{Record}
use Rattle.table_layout.specs.Table.{count, gen_tid_of, record_at}
use Rattle.table_record_ok.specs.OneRecord.{Live}
use Rattle.table_names_ok.specs.Names.{SameName}
use Rattle.table_well_formed.specs.WellFormed.{WellFormed}
use Rattle.table_finding.specs.Finding.{free_of}
use Rattle.table_finding.proofs.Searches.{free_found}
use Rattle.call_refusal.specs.Judging.{Test, lowest}
use Rattle.call_refusal.proofs.Fits.{NoneHolds, accepted}
use Rattle.call_refusal.proofs.Placing.{place_at}
use Rattle.call_refusal.proofs.Going.{goes, Entered, entered}
use Rattle.step_plan.specs.declared.Step.{Step}
use Rattle.step_opening.specs.Opens.{place_for}
use Rattle.law_places.proofs.Places.{place_small, free_place_holds}
use Rattle.call_request.specs.Requests.{UsesGenTid, entry_tests, full_tests, request_tests, none_free, request_step, request_plan, request_place}
use Rattle.call_request.specs.declared.Request.{Request}
use Rattle.call_request.proofs.InUse.{tells_in_use}
use Rattle.call_request.proofs.Staged.{plan_goes}

-- none of the numbers 1 to 6 applies
pub record Admitted (t : List ℕ) (store output : ℕ) (q : Request) : Type 0 where
  pub enters : Entered t store output q.time
  pub peer_known : q.peer < peers
  pub data_fits : q.len ≤ cell_size
  pub class_known : q.class ≤ 2
  pub tid_unused : (i : ℕ) → UsesGenTid t i → ⊥

-- the place of the lowest free record; where none is free the first stands in
abbrev pub place_of : List ℕ → ℕ
place_of t = place_for (free_of t (count t))

-- an accepted request does this step; it is of class 0, which takes no record, or its place is free
pub record Accepted (t : List ℕ) (store output : ℕ) (q : Request) (step : Step) : Type 0 where
  pub step_is : step ≡ request_step t (place_of t) q
  pub admits : Admitted t store output q
  pub inside : place_of t < count t
  pub place_free : (q.class ≡ 0) ⊎ ((record_at t (place_of t)).state ≡ Free)

-- number 7 isn't given
free_there : (t : List ℕ) (class : ℕ) (f : Option ℕ) → free_of t (count t) ≡ f → none_free f class ≡ false → (class ≡ 0) ⊎ ((record_at t (place_for f)).state ≡ Free)
unfolding none_free place_for
free_there t class (Some i) e h = inr (free_found t (count t) i e).is_so
free_there t class None e h = go (ltb 0 class) refl
  where
    go : (b : Bool) → ltb 0 class ≡ b → (class ≡ 0) ⊎ ((record_at t 0).state ≡ Free)
    go true r = true_false (rw r at h)
    go false r = inl (omega (arith, ltb-false 0 class r))

module _ (t : List ℕ) (store output : ℕ) (q : Request) where
  -- whatever is judged after the numbers 1 to 6
  admitted : (later : List Test) → lowest (entry_tests t store output q ++ later) ≡ Ok tt → Admitted t store output q
  admitted later e =
      let none : NoneHolds (entry_tests t store output q ++ later) = accepted (entry_tests t store output q ++ later) e in
      record {
        enters = entered t store output q.time _ e;
        peer_known = omega (arith, ltb-false 255 q.peer none.1.1.0);
        data_fits = ltb-false cell_size q.len none.1.1.1.0;
        class_known = ltb-false 2 q.class none.1.1.1.1.0;
        tid_unused = λ i u. (tells_in_use t).2 none.1.1.1.1.1.0 (i, u);
      }

  pub entry_admits : lowest (entry_tests t store output q) ≡ Ok tt → Admitted t store output q
  entry_admits = admitted []

  pub request_accepted : (step : Step) → request_plan t store output q ≡ Ok step → Accepted t store output q step
  unfolding request_plan
  request_accepted step e =
      let g = goes (request_tests t store output q) (request_step t (place_of t) q) step e in
      let none : NoneHolds (request_tests t store output q) = accepted (request_tests t store output q) g.0 in
      let a : Admitted t store output q = admitted (full_tests (free_of t (count t)) q) g.0 in
      record {
        step_is = g.1;
        admits = a;
        inside = free_place_holds t a.enters.fitting.formed;
        place_free = free_there t q.class (free_of t (count t)) refl none.1.1.1.1.1.1.0;
      }

  module _ (a : Admitted t store output q) where
    pub formed : WellFormed t
    formed = a.enters.fitting.formed

    -- a peer and a class in range are their octets
    pub peer_octet : q.peer % peers ≡ q.peer
    peer_octet = omega (arith, a.peer_known)

    pub class_octet : q.class % 256 ≡ q.class
    class_octet = omega (arith, a.class_known)

    -- no live record has the name of an initiator record under GenTID
    pub name_unused : (r : Record) → role_of r.state ≡ Initiator → r.tid ≡ gen_tid_of t → (j : ℕ) → j < count t → Live (record_at t j) → SameName r (record_at t j) → ⊥
    name_unused r role tid j inside live same =
        a.tid_unused j (record { inside = inside; live = live; initiator = sym same.role ∙ role; tid = sym same.tid ∙ tid })

  -- the place of an accepted request, its time and its data are in range
  pub ready_at : (place : ℕ) → Ok place ≡ request_place t store output q → WellFormed t × ((place < records_bound) × ((q.time ≤ time_bound) × (q.len ≤ cell_size)))
  unfolding request_place
  ready_at place e =
      let a = (request_accepted (request_step t place q) (plan_goes t store output q place e)).admits in
      let w = a.enters.fitting.formed in
      (w, (rw (place_at (lowest (request_tests t store output q)) (place_of t) place e) (place_small t w (place_of t) (free_place_holds t w)), (a.enters.bounded, a.data_fits)))
