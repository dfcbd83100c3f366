-- What the engine takes of a PDU: all but its items, and of these the first Info item and the first that isn't known.
use Rattle.std.specs.Prelude.{false, [], ◌∷◌}
use Rattle.codec_pdu.specs.declared.Brief.{Brief}
use Rattle.codec_pdu.specs.declared.Pdu.{Pdu}
use Rattle.codec_pdu.specs.Pdu.{info_of, unknown_of}

unfoldable pub brief_of : Pdu → Brief
brief_of p = record { kind = p.kind; tid = record { 0 = p.tid }; info = info_of p; start = p.start; len = p.len; unknown = unknown_of p }

-- a PDU that is the same to the engine's rows: its one item is the Info item
unfoldable pub as_pdu : Brief → Pdu
as_pdu b = record {
  kind = b.kind;
  tid = b.tid.0;
  count = 1;
  list = record { identity = 1; long = false; start = b.info.start; len = b.info.len } ∷ [];
  start = b.start;
  len = b.len;
}
