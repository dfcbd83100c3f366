-- A PDU by value (01, "Bytes on the air").
use Rattle.std.specs.Prelude.{Bool, true, false, replicate, leb}
use Rattle.base_lists.specs.Seq.{pick}
use Rattle.codec_items.specs.Items.{no_item}
use Rattle.codec_items.specs.Info.{info_from}
use Rattle.codec_items.specs.Unknown.{unknown_from}
use Rattle.codec_items.specs.declared.Info.{Info}
use Rattle.codec_items.specs.declared.Unknown.{Unknown}
use Rattle.codec_pdu.specs.declared.Kind.{Kind}
use Rattle.codec_pdu.specs.declared.Kind.TheVariants.{Invoke, Result, Ack, Abort, SegInvoke, SegResult, Nack, Wrong, Refused}
use Rattle.codec_pdu.specs.declared.Pdu.{Pdu}

-- whether there is a PDU of this kind
unfoldable pub sound_of : Kind → Bool
sound_of (Invoke a b c v n u l) = true
sound_of (Result a b c) = true
sound_of (Ack a c) = true
sound_of (Abort t r) = true
sound_of (SegInvoke a b c p) = true
sound_of (SegResult a b c p) = true
sound_of (Nack c n l) = true
sound_of (Wrong d) = false
sound_of (Refused r) = false

-- 01: "User data is the rest (types 1, 2, 5, 6)": the others have none
unfoldable pub bare_of : Kind → Bool
bare_of (Invoke a b c v n u l) = false
bare_of (Result a b c) = false
bare_of (Ack a c) = true
bare_of (Abort t r) = true
bare_of (SegInvoke a b c p) = false
bare_of (SegResult a b c p) = false
bare_of (Nack c n l) = true
bare_of (Wrong d) = false
bare_of (Refused r) = false

-- no PDU, for the reason that the kind says
unfoldable pub blank_pdu : Kind → Pdu
blank_pdu k = record { kind = k; tid = 0; count = 0; list = replicate 16 no_item; start = 0; len = 0 }

-- 01: "A confirmation's data is that of the first Info item of its Ack, else empty"; "At most 16 items"
unfoldable pub info_of : Pdu → Info
info_of p = info_from (pick (leb p.count 16) p.count 16) p.list 0

-- 02, L4: "Reading a PDU must also tell the identity and place of the first item it does not know"
unfoldable pub unknown_of : Pdu → Unknown
unknown_of p = unknown_from (pick (leb p.count 16) p.count 16) p.list 0
