-- What the engine takes of a PDU, read without a list of its items.
use Rattle.std.specs.Prelude.{ℕ, ◌-◌, List, Bool, false, length, ltb, eqb, Option, Some, None, Result, Ok, Err}
use Rattle.base_lists.specs.Seq.{pick}
use Rattle.base_numbers.specs.declared.Malformed.{Malformed}
use Rattle.base_numbers.specs.declared.Malformed.TheVariants.{D7}
use Rattle.codec_items.specs.Found.{end_from, place_from, info_in, unknown_in}
use Rattle.codec_items.specs.declared.Sought.{Sought}
use Rattle.codec_items.specs.declared.Sought.TheVariants.{InfoItem, UnknownItem}
use Rattle.codec_pdu.specs.Pdu.{bare_of, blank_pdu}
use Rattle.codec_pdu.specs.Brief.{brief_of}
use Rattle.codec_pdu.specs.declared.Brief.{Brief}
use Rattle.codec_pdu.specs.declared.Kind.{Kind}
use Rattle.codec_pdu.specs.declared.Kind.TheVariants.{Wrong}
use Rattle.codec_reading.specs.declared.Head.{Head}
use Rattle.codec_reading.specs.declared.Places.{Places}
use Rattle.codec_reading.specs.Read.{head_of}

-- the place after the header and its items; or how these are malformed
unfoldable pub end_after_is : List ℕ → Head → Result ℕ Malformed
end_after_is s h = pick h.con (end_from 16 s h.end) (Ok h.end)

-- the place of the first item sought after the header
unfoldable pub place_after : List ℕ → Head → Sought → Option ℕ
place_after s h sought = pick h.con (place_from sought 16 s h.end) None

-- the places of the first Info item and of the first item that isn't known
unfoldable pub places_after : List ℕ → Head → Places
places_after s h = record { info = place_after s h InfoItem; unknown = place_after s h UnknownItem }

-- where the user data starts, after the items' end; 0 where there can be none
abbrev pub start_of : Kind → ℕ → ℕ
start_of k end = pick (bare_of k) 0 end

-- the brief of a PDU whose items end at `end`
unfoldable pub whole_brief : List ℕ → Head → Places → ℕ → Brief
whole_brief s h at end = record {
  kind = h.kind;
  tid = h.tid;
  info = info_in s at.info;
  start = start_of h.kind end;
  len = length s - end;
  unknown = unknown_in s at.unknown;
}

-- no PDU, malformed
abbrev pub wrong_brief : Kind → Brief
wrong_brief k = brief_of (blank_pdu k)

-- 01: "D7 bytes left after Ack, Abort or Nack", with `left` octets after the items
abbrev pub bytes_left : Kind → ℕ → Bool
bytes_left k left = pick (bare_of k) (ltb 0 left) false

-- the user data from `end` on, or D7
abbrev pub rest_brief : List ℕ → Head → Places → ℕ → Brief
rest_brief s h at end = pick (bytes_left h.kind (length s - end)) (wrong_brief (Wrong D7)) (whole_brief s h at end)

-- what the place after the items leaves: a fault of theirs, else the user data
unfoldable pub ended_brief : List ℕ → Head → Places → Result ℕ Malformed → Brief
ended_brief s h at (Err d) = wrong_brief (Wrong d)
ended_brief s h at (Ok end) = rest_brief s h at end

-- the place of the first item
unfoldable pub items_at : List ℕ → Option ℕ
items_at s = pick (eqb (length s) 0) None (pick (head_of s).con (Some (head_of s).end) None)
