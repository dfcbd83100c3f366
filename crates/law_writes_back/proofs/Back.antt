-- What was read is written as it was, reserved bits cleared, and may be written. Assumes nothing.
use Prim.Native.Nat.{ℕ, ◌≤◌}
use native.Mathlib.Omega.{arith}
use borrow.Author.Tests.{le-ltb}
use mathlib.Core.Path.{◌≡◌, refl, sym, ap, ◌∙◌}
use mathlib.Core.List.{List}
use mathlib.Core.Bool.{Bool, true, false}
use lib.ListN.{length, length-append, length-replicate}
use lib.Seq.{take-append_seam}
use lib.Dec.{ltb, eqb}
use Rattle.base_lists.specs.Seq.{pick}
use Rattle.base_numbers.specs.declared.Malformed.TheVariants.{D7}
use Rattle.codec_items.specs.Items.{Verdict}
use Rattle.std.specs.Prelude.{Ok, Err}
use Rattle.codec_pdu.specs.declared.Pdu.{Pdu}
use Rattle.codec_pdu.specs.Pdu.{sound_of, bare_of}
use Rattle.codec_reading.specs.Read.{type_of, whole, pdu_of}
use Rattle.codec_encoding.specs.Write.{octets_of, Fit, items_of, fault_of, rest_fault}
use Rattle.law_reading_order.proofs.Heads.{header}
use Rattle.law_reading_order.proofs.Walks.{found}
use Rattle.law_writes_back.specs.WritesBack.{Octets, cleared, Readable}
use Rattle.law_writes_back.proofs.Walk.{octet}
use Rattle.law_writes_back.proofs.Header.{HeaderBack}
use Rattle.law_writes_back.proofs.Lengths.{cleared_same_length}
use Rattle.law_writes_back.proofs.View.{View, view, header_view}
use Rattle.law_writes_back.proofs.Found.{ItemsBack, items_back}

module _ (b : List ℕ) (octets : Octets b) (sound : sound_of (pdu_of b).kind ≡ true) where
  abbrev v : View b
  v = view b sound

  abbrev h : HeaderBack (type_of b) b
  h = header_view b sound octets

  abbrev i : ItemsBack b
  i = items_back b octets sound

  -- the PDU that was read
  abbrev p : Pdu
  p = whole (header b) (found b) v.start v.len

  items_of_holds : items_of p ≡ i.items
  items_of_holds = rw (i.counted, i.listed, take-append_seam)

  written : octets_of b p ≡ cleared b
  unfolding octets_of
  written =
      let f : ltb 16 (length i.items) ≡ false = le-ltb 16 (length i.items) i.few in
      rw (items_of_holds, i.counted, i.follow, f, v.user, h.written) (sym i.written)

  -- 01: "Read then written, a PDU gives its bytes with reserved bits cleared"
  pub writes_back : octets_of b (pdu_of b) ≡ cleared b
  writes_back = rw v.read written

  list_full : length (found b).list ≡ 16
  list_full = rw (i.listed, length-append, length-replicate) (omega (arith, i.few))

  fits : Fit b p
  fits = record {
    kind_fits = h.fits;
    tid_fits = omega (arith, octet b octets 1, octet b octets 2);
    list_full = list_full;
    items_fit = rw items_of_holds i.fit;
    user_fits = v.user_fits;
  }

  fault_free : fault_of p ≡ Ok tt
  unfolding fault_of rest_fault
  fault_free =
      let n : (found b).count ≤ 16 = omega (arith, i.counted, i.few) in
      rw (h.sound, le-ltb 16 (found b).count n) (go (bare_of (header b).kind) refl)
    where
      go : (t : Bool) → bare_of (header b).kind ≡ t → ◌≡◌ {A = Verdict} (pick t (pick (eqb v.len 0) (Ok tt) (Err D7)) (Ok tt)) (Ok tt)
      go true e = rw (v.bare e).1
      go false e = refl

  -- what was read may be written
  pub read_fits : Readable b
  read_fits = record {
    fits = rw v.read fits;
    few = rw v.read (omega (arith, i.counted, i.few));
    sound = rw v.read fault_free;
    same_length = ap length writes_back ∙ cleared_same_length b;
    unused = rw v.read (rw (items_of_holds, i.counted) i.listed);
    bare_start = rw v.read (λ e. (v.bare e).0);
    bare_len = rw v.read (λ e. (v.bare e).1);
  }
