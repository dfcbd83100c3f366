-- Whether one PDU more fits into the datagram.
use Rattle.std.specs.Prelude.{ℕ, ◌-◌, Bool, false, length, ltb, leb, eqb}
use Rattle.base_lists.specs.Seq.{pick}
use Rattle.codec_joining.specs.Join.{length_octets}

-- a PDU of n octets is not empty, is among the `left` octets lent, and has room with its length
unfoldable pub fits_in : ℕ → ℕ → ℕ → Bool
fits_in n left room =
    pick (eqb n 0) false
    (pick (ltb left n) false
    (pick (ltb room n) false (leb (length (length_octets n)) (room - n))))
