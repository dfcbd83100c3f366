-- The kind of what is shown (01, "Mix-ups that cost us"): "An abort shown as a result without data".
use Rattle.row_columns.specs.declared.Indication.{Indication}
use Rattle.row_columns.specs.declared.Indication.TheVariants as Indication
use Rattle.step_shown.specs.declared.Shown.{Shown}
use Rattle.step_shown.specs.declared.Shown.TheVariants.{Nothing, Invoke, Confirm, Result, Abort}

-- one of five values, as the kind shown has it: nothing, Invoke, confirmation, result, abort
abbrev pub by_kind {ℓ} : {A : Type ℓ} → A → A → A → A → A → Shown → A
by_kind none invoke confirm result abort Nothing = none
by_kind none invoke confirm result abort (Invoke peer tid class up place) = invoke
by_kind none invoke confirm result abort (Confirm role peer tid place) = confirm
by_kind none invoke confirm result abort (Result peer tid place) = result
by_kind none invoke confirm result abort (Abort role peer tid type reason) = abort

-- the same of an indication
abbrev pub by_indication {ℓ} : {A : Type ℓ} → A → A → A → A → A → Indication → A
by_indication none invoke confirm result abort Indication.Nothing = none
by_indication none invoke confirm result abort (Indication.Invoke verified) = invoke
by_indication none invoke confirm result abort (Indication.Confirm acked) = confirm
by_indication none invoke confirm result abort Indication.Result = result
by_indication none invoke confirm result abort (Indication.Abort type reason) = abort
