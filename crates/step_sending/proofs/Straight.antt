-- The parts of a PDU stored one after the other are its octets stored at once. Assumes nothing.
use Prim.Native.Nat.{ℕ}
use mathlib.Core.Path.{◌≡◌}
use mathlib.Core.List.{List}
use mathlib.Core.Bool.{false}
use lib.Dec.{ltb}
use Rattle.codec_encoding.specs.Write.{item_octets}
use Rattle.step_sending.specs.declared.Sender.{Sender}
use Rattle.step_sending.specs.Sending.{exit_item}
use Rattle.step_sending.specs.Octets.{exit, exit_octets}
use Rattle.step_sending.proofs.Octets.{exit_form}

module _ (s : List ℕ) (by : Sender) where
  pub exit_octets_holds : item_octets s false (exit_item by) ≡ exit_octets s by
  unfolding item_octets
  exit_octets_holds = exit_form (ltb 3 by.exit_len) by.exit_len (exit s by)
