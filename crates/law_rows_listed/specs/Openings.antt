-- Document 01, "Events", its first paragraph, and document 02, L2, read line by line: what a PDU meets without a live record.
use Rattle.std.specs.Prelude.{ℕ, Bool, ◌&&◌, ◌||◌, List, [], ◌∷◌, eqb}
use Rattle.base_lists.specs.Seq.{pick}
use Rattle.row_events.specs.declared.Opening.{Opening}
use Rattle.row_events.specs.declared.Opening.TheVariants.{Ignored, Malformed, WrongVersion, Unsupported, TooLong, Shown0, Valid1, Valid2, ToVerify1, ToVerify2, UnknownTidve, Restarted1, Restarted2}
use Rattle.row_choice.specs.declared.Arrived.{Arrived}

-- an Invoke of a class
abbrev pub invoke_of : ℕ → Arrived → Bool
invoke_of class a = a.invoke && eqb a.class class

-- the lines in document order: the first that holds counts
abbrev pub opening_lines : Arrived → List (Bool × Opening)
opening_lines a =
    -- "Invoke without a live record, in order: malformed"; "Abort 1 only if type 1, at least three octets and top bit 0"
    (a.malformed && a.invoke, Malformed) ∷
    (a.malformed, Ignored) ∷
    -- "Class 0 failing the second to fourth test is ignored; else [..] it is indicated without record or TID test, at a full table too."
    (invoke_of 0 a && (a.wrong_version || a.ttr_clear || a.too_long), Ignored) ∷
    (invoke_of 0 a, Shown0) ∷
    -- "version not 0: Abort 6; TTR clear: Abort 4; data over 1,024: Abort 7; no free record: ignored."
    (a.invoke && a.wrong_version, WrongVersion) ∷
    (a.invoke && a.ttr_clear, Unsupported) ∷
    (a.invoke && a.too_long, TooLong) ∷
    (a.invoke && a.full, Ignored) ∷
    -- 02, L2: "An Invoke of class 1 or 2 with TIDnew set, with no live record and past the other tests, [..] goes through verification."
    (invoke_of 1 a && a.tidnew, Restarted1) ∷
    (invoke_of 2 a && a.tidnew, Restarted2) ∷
    -- "Valid Invoke: indicate, AEC 0, timer A, INVOKE RESP WAIT."
    (invoke_of 1 a && a.valid, Valid1) ∷
    (invoke_of 2 a && a.valid, Valid2) ∷
    -- "Else keep the data, send TIDve, no timer, TIDOK WAIT."
    (invoke_of 1 a, ToVerify1) ∷
    (invoke_of 2 a, ToVerify2) ∷
    -- "Ack with TIDve (top bit 1), no live initiator record: Abort 2."
    (a.tidve, UnknownTidve) ∷
    []

-- "All else without a record is ignored"
abbrev pub first_of : List (Bool × Opening) → Opening
first_of [] = Ignored
first_of (x ∷ l) = pick x.0 x.1 (first_of l)

-- the row that document 01 gives
unfoldable pub document_opening : Arrived → Opening
document_opening a = first_of (opening_lines a)
