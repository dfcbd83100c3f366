-- The octets of a whole PDU as they are stored: header, items, user data. Assumes nothing.
use Prim.Native.Nat.{ℕ, ◌+◌, ◌≤◌}
use native.Mathlib.Omega.{arith}
use borrow.Author.Tests.{le-ltb}
use mathlib.Core.Path.{◌≡◌, sym, ap, ◌∙◌}
use mathlib.Core.List.{List, ◌++◌}
use mathlib.Core.Bool.{false}
use lib.ListN.{length, length-append}
use lib.Dec.{ltb}
use Rattle.base_lists.specs.Seq.{part, put}
use Rattle.base_lists.proofs.StoresAndParts.{length_part, put_append}
use Rattle.codec_pdu.specs.declared.Pdu.{Pdu}
use Rattle.codec_encoding.specs.Write.{header_of_is, items_octets, items_of, octets_of, Fit}

module _ (s : List ℕ) (p : Pdu) (few : p.count ≤ 16) where
  abbrev header : List ℕ
  header = header_of_is s (ltb 0 p.count) p.kind p.tid

  abbrev items : List ℕ
  items = items_octets s false (items_of p)

  abbrev user : List ℕ
  user = part s p.start p.len

  octets_are : octets_of s p ≡ header ++ (items ++ user)
  unfolding octets_of
  octets_are = rw (le-ltb 16 p.count few)

  pub octets_length : Fit s p → length (octets_of s p) ≡ length header + length items + p.len
  octets_length f =
      ap length octets_are ∙ simp (length-append, length_part s p.start p.len f.user_fits) (omega arith)

  pub octets_stored : (o : List ℕ) → put (put (put o 0 header) (length header) items) (length header + length items) user ≡ put o 0 (octets_of s p)
  octets_stored o =
      let z : 0 + length header ≡ length header = omega arith in
      sym (rw (octets_are, put_append header (items ++ user) o 0, z, put_append items user (put o 0 header) (length header)))
