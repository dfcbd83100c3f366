-- The layout and the bounds once more: where each field begins, by the octets of those before it, and each bound by what it comes from.
use Rattle.std.specs.Prelude.{◌+◌, ◌*◌, ◌≡◌}
use Rattle.base_layout.specs.Layout.{header_size, record_size, clock_at, gen_tid_at, rcr_max_at, aec_max_at, a_at, w_at, row1_at, row2_at, limit_at, modes_at, tidnew_due_at, header_spare_at, header_spare_size, cached_at, peer_offset, tid_offset, rcr_offset, aec_offset, flags_offset, exit_len_offset, deadline_offset, len_offset, limit_offset, unknown_offset, sent_offset, spare_offset, spare_size, exit_offset, exit_bound, time_bound, interval_bound, deadline_bound, tid_bound, tid_count, cached_bound, peer_bound, peers, cell_size, output_least, state_bound, flags_bound}

-- docs/TABLE.md, the header: clock 8 octets, GenTID 2, RCR_MAX 1, AEC_MAX 1, A 4, W 4, two rows of nine intervals of 4, the waiting limit 4, modes 1, TIDnew due 1, spare, 256 cached TIDs of 2
pub record HeaderAdds : Type 0 where
  pub gen_tid : gen_tid_at ≡ clock_at + 8
  pub rcr_max : rcr_max_at ≡ gen_tid_at + 2
  pub aec_max : aec_max_at ≡ rcr_max_at + 1
  pub a : a_at ≡ aec_max_at + 1
  pub w : w_at ≡ a_at + 4
  pub row_1 : row1_at ≡ w_at + 4
  pub row_2 : row2_at ≡ row1_at + 9 * 4
  pub limit : limit_at ≡ row2_at + 9 * 4
  pub modes : modes_at ≡ limit_at + 4
  pub tidnew_due : tidnew_due_at ≡ modes_at + 1
  pub spare : header_spare_at ≡ tidnew_due_at + 1
  pub cached : cached_at ≡ header_spare_at + header_spare_size
  pub whole : header_size ≡ cached_at + peers * 2

-- docs/TABLE.md, a record: state 1 octet, peer 1, TID 2, RCR 1, AEC 1, flags 1, length of the exit information 1, deadline 8, length of the message 4, waiting limit in force 4, identity of an unknown item 1, octets sent 4, spare, exit information
pub record RecordAdds : Type 0 where
  pub peer : peer_offset ≡ 1
  pub tid : tid_offset ≡ peer_offset + 1
  pub rcr : rcr_offset ≡ tid_offset + 2
  pub aec : aec_offset ≡ rcr_offset + 1
  pub flags : flags_offset ≡ aec_offset + 1
  pub exit_len : exit_len_offset ≡ flags_offset + 1
  pub deadline : deadline_offset ≡ exit_len_offset + 1
  pub len : len_offset ≡ deadline_offset + 8
  pub limit : limit_offset ≡ len_offset + 4
  pub unknown : unknown_offset ≡ limit_offset + 4
  pub sent : sent_offset ≡ unknown_offset + 1
  pub spare : spare_offset ≡ sent_offset + 4
  pub exit : exit_offset ≡ spare_offset + spare_size
  pub whole : record_size ≡ exit_offset + exit_bound

-- 01, "What the reader carries" and "TIDs": an interval is a day at the most, times are 12 digits of milliseconds, TIDs have 15 bits, a peer is an octet,
-- the output holds an Invoke's four octets and a full message; docs/TABLE.md: four initiator and seven responder states, five flags
pub record BoundsFrom : Type 0 where
  pub interval : interval_bound ≡ 24 * 60 * 60 * 1000
  pub time : time_bound ≡ 1000 * 1000 * 1000 * 1000
  pub deadline : deadline_bound ≡ 1000 * 1000 * 1000 * 1000 + 24 * 60 * 60 * 1000
  pub tids : tid_count ≡ 128 * 256
  pub last_tid : tid_bound + 1 ≡ tid_count
  pub cached : cached_bound ≡ tid_count
  pub peer : peer_bound + 1 ≡ peers
  pub octet : peers ≡ 16 * 16
  pub output : output_least ≡ 4 + cell_size
  pub states : state_bound ≡ 4 + 7
  pub flags : flags_bound ≡ 1 + 2 + 4 + 8 + 16
