-- The starred cases hold: by computation, the unmatched TIDve by the receive call's laws, the request by its own. Assumes nothing.
use mathlib.Core.Path.{refl}
use Rattle.codec_items.specs.Items.{walk_from}
use Rattle.codec_pdu.specs.Pdu.{sound_of, bare_of}
use Rattle.codec_reading.specs.Read.{pdu_of, head_of, kind_of, items_after, after_head, finished}
use Rattle.codec_encoding.specs.Write.{type_number, flags_of, extra_of, header_of_is, item_octets, items_octets, octets_of, kind_fault, rest_fault, fault_of}
use Rattle.step_sending.specs.Sending.{tid_of, plain_pdu, ack_items, ack_pdu, plain_ack, sent_pdu}
use Rattle.table_tids.specs.Tids.{distance, test_of}
use Rattle.codec_separation.specs.Separate.{parts_of, parts_from, part_at, part_of}
use Rattle.law_starred.proofs.Unmatched.{tidve_case}
use Rattle.law_starred.proofs.Requested.{first_case, later_case}
use Rattle.law_starred.specs.Starred.{Says, AllSay, done, ◌and◌, table}

pub starred : AllSay table
unfolding Says pdu_of head_of kind_of items_after after_head finished walk_from sound_of bare_of octets_of header_of_is type_number flags_of extra_of items_octets item_octets fault_of kind_fault rest_fault parts_of parts_from part_at part_of test_of distance sent_pdu plain_ack ack_items ack_pdu plain_pdu tid_of
starred = refl and refl and refl and refl and refl and refl and refl and refl and refl and refl and refl and refl and refl and refl and refl and refl and refl and refl and refl and refl and refl and refl and refl and refl and refl and refl and refl and refl and first_case and later_case and tidve_case and done
