-- The C interface: "what `wtp_read` wrote, handed to `wtp_write` with the PDU as BYTES, gives the PDU with its reserved bits cleared".
use Rattle.std.specs.Prelude.{◌≡◌, List, ◌++◌, ℕ}
use Rattle.base_lists.specs.Seq.{put}
use Rattle.codec_reading.specs.Read.{pdu_of}
use Rattle.codec_words.specs.Words.{words_of}
use Rattle.law_writes_back.specs.WritesBack.{cleared}
use Rattle.c_codec.specs.Calls.{write_number, write_output}

-- of octets b that read as a PDU: its words, whatever follows them, are accepted, and the cleared octets stand at the start of the output
pub record RoundTrip (b rest out answer : List ℕ) : Type 0 where
  pub accepted : write_number (words_of (pdu_of b) ++ rest) b out answer ≡ 0
  pub written : write_output (words_of (pdu_of b) ++ rest) b out answer ≡ put out 0 (cleared b)
