-- What an indication shows, read back from what is shown; which PDU is a Result that is taken. Assumes nothing.
use Prim.Native.Nat.{ℕ}
use mathlib.Core.Path.{◌≡◌, refl, sym, ap}
use mathlib.Core.Bool.{Bool, true, false}
use Rattle.base_lists.proofs.StoresAndParts.{true_false}
use Rattle.codec_pdu.specs.declared.Kind.{Kind}
use Rattle.codec_pdu.specs.declared.Kind.TheVariants as Kind
use Rattle.step_arrivals.specs.Arrivals.{event_of}
use Rattle.row_columns.specs.declared.Indication.{Indication}
use Rattle.row_columns.specs.declared.Indication.TheVariants as Indication
use Rattle.step_shown.specs.Kinds.{by_kind}
use Rattle.step_shown.specs.Shows.{invoke_place, shown_of, place_of}
use Rattle.step_shown.specs.declared.Place.{Place}
use Rattle.step_shown.specs.declared.Context.{Context}
use Rattle.step_shown.specs.declared.Shown.{Shown}
use Rattle.step_shown.specs.declared.Shown.TheVariants as Shown
use Rattle.law_never_mixed.specs.NeverMixed.{result_shown}
use Rattle.law_ways.proofs.Ways.{is_result_event}

-- an event that is a Result, TTR set, is such a PDU
pub record TakenKind (k : Kind) : Type 0 where
  pub gtr : Bool
  pub rid : Bool
  pub is : k ≡ Kind.Result gtr true rid

pub result_kind : (k : Kind) → is_result_event (event_of k) ≡ true → TakenKind k
unfolding event_of
result_kind (Kind.Invoke gtr ttr true v n u c) e = true_false (sym e)
result_kind (Kind.Invoke gtr ttr false v n u c) e = true_false (sym e)
result_kind (Kind.Result gtr true rid) e = record { gtr = gtr; rid = rid; is = refl }
result_kind (Kind.Result gtr false true) e = true_false (sym e)
result_kind (Kind.Result gtr false false) e = true_false (sym e)
result_kind (Kind.Ack true true) e = true_false (sym e)
result_kind (Kind.Ack true false) e = true_false (sym e)
result_kind (Kind.Ack false rid) e = true_false (sym e)
result_kind (Kind.Abort t r) e = true_false (sym e)
result_kind (Kind.SegInvoke gtr ttr rid p) e = true_false (sym e)
result_kind (Kind.SegResult gtr ttr rid p) e = true_false (sym e)
result_kind (Kind.Nack rid n l) e = true_false (sym e)
result_kind (Kind.Wrong d) e = true_false (sym e)
result_kind (Kind.Refused r) e = true_false (sym e)

-- the peer, TID, class and U/P in what is shown
abbrev peer_in : Shown → ℕ
peer_in Shown.Nothing = 0
peer_in (Shown.Invoke peer tid class up place) = peer
peer_in (Shown.Confirm role peer tid place) = peer
peer_in (Shown.Result peer tid place) = peer
peer_in (Shown.Abort role peer tid type reason) = peer

abbrev tid_in : Shown → ℕ
tid_in Shown.Nothing = 0
tid_in (Shown.Invoke peer tid class up place) = tid
tid_in (Shown.Confirm role peer tid place) = tid
tid_in (Shown.Result peer tid place) = tid
tid_in (Shown.Abort role peer tid type reason) = tid

abbrev class_in : Shown → ℕ
class_in Shown.Nothing = 0
class_in (Shown.Invoke peer tid class up place) = class
class_in (Shown.Confirm role peer tid place) = 0
class_in (Shown.Result peer tid place) = 0
class_in (Shown.Abort role peer tid type reason) = 0

abbrev up_in : Shown → Bool
up_in Shown.Nothing = false
up_in (Shown.Invoke peer tid class up place) = up
up_in (Shown.Confirm role peer tid place) = false
up_in (Shown.Result peer tid place) = false
up_in (Shown.Abort role peer tid type reason) = false

abbrev invoke_shown : Shown → Bool
invoke_shown s = by_kind false true false false false s

-- a result that is shown is its context's
pub record ShowsResult (c : Context) (peer tid : ℕ) (place : Place) : Type 0 where
  pub peer_is : c.peer ≡ peer
  pub tid_is : c.tid ≡ tid
  pub place_is : c.user ≡ place

pub shows_result_holds : (i : Indication) (c : Context) (peer tid : ℕ) (place : Place) → shown_of i c ≡ Shown.Result peer tid place → ShowsResult c peer tid place
unfolding shown_of place_of
shows_result_holds Indication.Nothing c peer tid place e = true_false (sym (ap result_shown e))
shows_result_holds (Indication.Invoke verified) c peer tid place e = true_false (sym (ap result_shown e))
shows_result_holds (Indication.Confirm acked) c peer tid place e = true_false (sym (ap result_shown e))
shows_result_holds Indication.Result c peer tid place e = record { peer_is = ap peer_in e; tid_is = ap tid_in e; place_is = ap place_of e }
shows_result_holds (Indication.Abort type reason) c peer tid place e = true_false (sym (ap result_shown e))

-- an Invoke that is shown is its context's
pub record ShowsInvoke (i : Indication) (c : Context) (peer tid class : ℕ) (up : Bool) (place : Place) : Type 0 where
  pub verified : Bool
  pub indicated : i ≡ Indication.Invoke verified
  pub peer_is : c.peer ≡ peer
  pub tid_is : c.tid ≡ tid
  pub class_is : c.class ≡ class
  pub up_is : c.up ≡ up
  pub place_is : invoke_place verified c ≡ place

pub shows_invoke : (i : Indication) (c : Context) (peer tid class : ℕ) (up : Bool) (place : Place) → shown_of i c ≡ Shown.Invoke peer tid class up place → ShowsInvoke i c peer tid class up place
unfolding shown_of place_of
shows_invoke Indication.Nothing c peer tid class up place e = true_false (sym (ap invoke_shown e))
shows_invoke (Indication.Invoke v) c peer tid class up place e =
    record { verified = v; indicated = refl; peer_is = ap peer_in e; tid_is = ap tid_in e; class_is = ap class_in e; up_is = ap up_in e; place_is = ap place_of e }
shows_invoke (Indication.Confirm acked) c peer tid class up place e = true_false (sym (ap invoke_shown e))
shows_invoke Indication.Result c peer tid class up place e = true_false (sym (ap invoke_shown e))
shows_invoke (Indication.Abort type reason) c peer tid class up place e = true_false (sym (ap invoke_shown e))
