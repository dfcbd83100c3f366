-- Frames whose numbers are as narrow as their places: those that words say. Assumes nothing.
use Prim.Native.Nat.{ℕ, ◌<◌}
use mathlib.Core.Path.{◌≡◌}
use mathlib.Core.List.{List}
use Rattle.std.specs.Prelude.{Some}
use mathlib.Core.Bool.{Bool, false}
use Rattle.rds_frame.specs.declared.Kind.{Kind}
use Rattle.rds_frame.specs.declared.Kind.TheVariants as K
use Rattle.rds_frame.specs.declared.Head.{Head}
use Rattle.rds_frame.specs.Frame.{u_kind}
use Rattle.rds_entries.specs.declared.Entry.{Entry}
use Rattle.rds_size.proofs.SizeTests.{Application}

-- each number of a kind is as narrow as its place, and a U frame is one that the table of M and direction has
unfoldable pub NarrowKind : Kind → Type 0
NarrowKind (K.I a ns nr r) = (ns < 8) × (nr < 8) × (r < 8)
NarrowKind (K.S a nr r) = (nr < 8) × (r < 8)
NarrowKind (K.Ui nu) = nu < 8
NarrowKind (K.U m response) = (m < 16) × (u_kind m response ≡ Some (K.U m response))

-- the ports of a header are as narrow as their places, and 0 where ADS is 0
pub record NarrowHead (h : Head) : Type 0 where
  pub source_narrow : h.source < 16
  pub destination_narrow : h.destination < 16
  pub no_ports : h.ads ≡ false → (h.source ≡ 0) × (h.destination ≡ 0)

-- an entry that can be written: its numbers are as narrow as their places, its format is 0 where it has none, and s has its Application ID
pub record NarrowEntry (s : List ℕ) (formats : Bool) (e : Entry) : Type 0 where
  pub source_narrow : e.source < 16
  pub destination_narrow : e.destination < 16
  pub format_narrow : e.format < 8
  pub no_format : formats ≡ false → e.format ≡ 0
  pub application : Application s e.start e.len
