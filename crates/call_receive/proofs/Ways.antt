-- An accepted PDU goes one of three ways; one without a live record opens one only as an Invoke, at a free place. Assumes nothing.
use Prim.Native.Nat.{ℕ, ◌≤◌}
use native.Mathlib.Omega.{arith}
use mathlib.Core.Path.{◌≡◌, refl}
use mathlib.Core.List.{List}
use mathlib.Core.Bool.{Bool, true, false, not}
use mathlib.Core.Logic.{◌⊎◌, inl, inr}
use lib.Dec.{eqb}
use Rattle.std.specs.Prelude.{Option, Some, None, is_some}
use Rattle.base_layout.specs.Layout.{tid_bound}
use Rattle.base_lists.specs.Seq.{pick}
use Rattle.base_lists.proofs.StoresAndParts.{true_false}
use Rattle.codec_pdu.specs.declared.Pdu.{Pdu}
use Rattle.codec_reading.specs.Read.{pdu_of}
use Rattle.table_record.specs.declared.Role.{Role}
use Rattle.table_record.specs.declared.Role.TheVariants.{Responder}
use Rattle.table_layout.specs.Table.{count, record_at}
use Rattle.table_well_formed.specs.WellFormed.{WellFormed}
use Rattle.table_finding.specs.Finding.{named_of, free_of}
use Rattle.table_finding.specs.Searched.{Called, NoneOf}
use Rattle.table_finding.proofs.Searches.{named_found, named_nothing}
use Rattle.law_places.specs.Places.{LiveAt}
use Rattle.law_places.proofs.Places.{named_live}
use Rattle.row_events.specs.declared.Opening.{Opening}
use Rattle.row_events.specs.declared.Opening.TheVariants.{Ignored, UnknownTidve}
use Rattle.row_columns.specs.Columns.{act_with}
use Rattle.row_columns.specs.declared.Next.TheVariants.{Ends}
use Rattle.row_entries.specs.Acts.{opening_act}
use Rattle.row_choice.specs.Rows.{invoke0_of, invoke12_of, opening_of}
use Rattle.row_choice.specs.declared.Arrived.{Arrived}
use Rattle.step_arrivals.specs.Arrivals.{tid_of, name_of, invokes_us, arrived_of}
use Rattle.step_arrivals.proofs.Names.{name_below, invoke_names_responder}
use Rattle.step_opening.specs.Opens.{place_for}
use Rattle.step_plan.specs.Steps.{idle_step}
use Rattle.call_receive.specs.Receives.{arrival_opening, taken_step, unmatched_step, receive_step}
use Rattle.call_receive.proofs.Dispatch.{nobody_idle, live_takes, none_takes}

-- the live record that it names takes it
pub record Taken (t : List ℕ) (time peer : ℕ) (s : List ℕ) : Type 0 where
  pub role : Role
  pub tid : ℕ
  pub place : ℕ
  pub names : name_of s ≡ Some (role, tid)
  pub live : LiveAt t place
  pub called : Called role peer tid (record_at t place)
  pub step_is : receive_step t time peer s ≡ taken_step t place time (pdu_of s)

-- it names a record, and no live one is called so
pub record Unmatched (t : List ℕ) (time peer : ℕ) (s : List ℕ) : Type 0 where
  pub role : Role
  pub tid : ℕ
  pub names : name_of s ≡ Some (role, tid)
  pub bound : tid ≤ tid_bound
  pub none : NoneOf (Called role peer tid) t (count t)
  pub step_is : receive_step t time peer s ≡ unmatched_step t role peer tid time s (pdu_of s)

-- it is ignored, or taken, or comes without a live record
pub ways : (t : List ℕ) → WellFormed t → (time peer : ℕ) (s : List ℕ) → (receive_step t time peer s ≡ idle_step time) ⊎ (Taken t time peer s ⊎ Unmatched t time peer s)
ways t w time peer s = by_name (name_of s) refl
  where
    by_found : (role : Role) (tid : ℕ) → name_of s ≡ Some (role, tid) → (f : Option ℕ) → named_of t (count t) role peer tid ≡ f → Taken t time peer s ⊎ Unmatched t time peer s
    by_found role tid e (Some i) q =
        inl record {
          role = role;
          tid = tid;
          place = i;
          names = e;
          live = named_live t w role peer tid i q;
          called = (named_found t (count t) role peer tid i q).is_so;
          step_is = live_takes t time peer s role tid i e q;
        }
    by_found role tid e None q =
        inr record {
          role = role;
          tid = tid;
          names = e;
          bound = omega (arith, name_below s role tid e);
          none = named_nothing t (count t) role peer tid q;
          step_is = none_takes t time peer s role tid e q;
        }

    by_name : (n : Option (Role × ℕ)) → name_of s ≡ n → (receive_step t time peer s ≡ idle_step time) ⊎ (Taken t time peer s ⊎ Unmatched t time peer s)
    by_name None e = inl (nobody_idle t time peer s e)
    by_name (Some (role, tid)) e = inr (by_found role tid e (named_of t (count t) role peer tid) refl)

-- an opening that leaves no live record
abbrev LeavesNone : Opening → Type 0
LeavesNone o = (opening_act o).next ≡ Ends

choose : (b : Bool) (x y : Opening) → LeavesNone x → LeavesNone y → LeavesNone (pick b x y)
choose true x y h k = h
choose false x y h k = k

module _ (a : Arrived) where
  class_0_ends : LeavesNone (invoke0_of a)
  unfolding invoke0_of opening_act act_with
  class_0_ends = choose a.wrong_version _ _ refl (choose a.ttr_clear _ _ refl (choose a.too_long _ _ refl refl))

  full_ends : a.full ≡ true → LeavesNone (invoke12_of a)
  unfolding invoke12_of opening_act act_with
  full_ends e = rw e (choose a.wrong_version _ _ refl (choose a.ttr_clear _ _ refl (choose a.too_long _ _ refl refl)))

  -- a record is opened only by an Invoke, and only where one is free
  opens_or_ends : LeavesNone (opening_of a) ⊎ ((a.invoke ≡ true) × (a.full ≡ false))
  unfolding opening_of opening_act act_with
  opens_or_ends = go a.invoke refl a.full refl
    where
      other : LeavesNone (pick a.malformed Ignored (pick a.tidve UnknownTidve Ignored))
      other = choose a.malformed _ _ refl (choose a.tidve _ _ refl refl)

      go : (b : Bool) → a.invoke ≡ b → (c : Bool) → a.full ≡ c → LeavesNone (opening_of a) ⊎ ((a.invoke ≡ true) × (a.full ≡ false))
      go true p false q = inr (p, q)
      go b p true q = inl (choose a.invoke _ _ (choose a.malformed _ _ refl (choose (eqb a.class 0) _ _ class_0_ends (full_ends q))) other)
      go false p false q = inl (rw p other)

-- an Invoke without a live record opens one where one is free
pub record Opens (t : List ℕ) (s : List ℕ) : Type 0 where
  pub invokes : name_of s ≡ Some (Responder, tid_of s)
  pub free : free_of t (count t) ≡ Some (place_for (free_of t (count t)))

-- what comes without a live record leaves none, or opens one
pub leaves_or_opens : (t : List ℕ) (peer tid : ℕ) (s : List ℕ) (p : Pdu) → ((opening_act (arrival_opening t peer tid s p)).next ≡ Ends) ⊎ Opens t s
unfolding arrival_opening arrived_of place_for
leaves_or_opens t peer tid s p = go (opens_or_ends _)
  where
    at_place : (f : Option ℕ) → not (is_some f) ≡ false → f ≡ Some (place_for f)
    at_place (Some i) h = refl
    at_place None h = true_false h

    go : ((opening_act (arrival_opening t peer tid s p)).next ≡ Ends) ⊎ ((invokes_us s ≡ true) × (not (is_some (free_of t (count t))) ≡ false)) → ((opening_act (arrival_opening t peer tid s p)).next ≡ Ends) ⊎ Opens t s
    go (inl h) = inl h
    go (inr h) = inr record { invokes = invoke_names_responder s h.0; free = at_place (free_of t (count t)) h.1 }
