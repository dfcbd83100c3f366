-- A record that is put, cleared or given exit information leaves a well-formed table well formed. Assumes nothing.
use mathlib.Core.Path.{◌≡◌, refl, sym, ◌∙◌}
use mathlib.Core.List.{List}
use mathlib.Core.Logic.{inl, inr}
use Prim.Native.Nat.{ℕ, ◌+◌, ◌^◌, ◌≤◌, ◌<◌}
use native.Mathlib.Omega.{arith}
use lib.ListN.{length, get_or, replicate, get_or-replicate}
use Rattle.base_layout.specs.Layout.{record_size, fields_size, spare_size, spare_offset, base, flags_at, spare_base, exit_base, exit_bound, maximum_bound}
use Rattle.base_lists.specs.Seq.{put}
use Rattle.base_octets.specs.Octets.{enc}
use Rattle.base_octets.proofs.StoredAndRead.{get_before, get_d_after, get_same}
use Rattle.table_record.specs.Record.{role_of, octets_of, flags_of, Fits}
use Rattle.table_record.specs.declared.Role.{Role}
use Rattle.table_record.specs.declared.Role.TheVariants.{Initiator, Responder}
use Rattle.table_record.specs.declared.Record.{Record}
use Rattle.table_record.proofs.Back.{length_octets_holds, flags_small}
use Rattle.table_layout.specs.Table.{count, settings_of, record_at, put_record, clear_record}
use Rattle.table_layout.proofs.Apart.{record_apart}
use Rattle.table_layout.proofs.Put.{record_same}
use Rattle.table_ranges.specs.Ranges.{Zeros}
use Rattle.table_record_ok.specs.OneRecord.{Live, sent_bound, InRange, LiveOk, RecordOk}
use Rattle.table_record_ok.proofs.RecordTest.{live_of}
use Rattle.table_well_formed.specs.WellFormed.{WellFormed}
use Rattle.table_well_formed.proofs.Lengths.{room}
use Rattle.table_names_ok.specs.Names.{SameName}
use Rattle.law_formed_kept.specs.UnusedName.{Unused}
use Rattle.law_formed_kept.proofs.InRecord.{store_keeps}

sent_fits : (role : Role) (rcrMax : ℕ) → rcrMax ≤ maximum_bound → sent_bound role rcrMax < 2 ^ 32
sent_fits Initiator rcrMax h = omega arith
sent_fits Responder rcrMax h = omega arith

-- a record in range has room in its octets
pub range_fits : (t : List ℕ) (r : Record) → WellFormed t → InRange (settings_of t) r → Fits r
range_fits t r w h = record {
  tid = omega (arith, h.bounds);
  deadline = omega (arith, h.bounds);
  len = omega (arith, h.bounds);
  limit = omega (arith, h.bounds);
  sent = omega (arith, h.bounds.sent, sent_fits (role_of r.state) (settings_of t).rcr_max w.header.settings.rcr_max);
}

-- the spare octets of any record of a well-formed table are zero
spare_of : (t : List ℕ) (i : ℕ) → RecordOk t (settings_of t) i → Zeros t (spare_base i) spare_size
spare_of t i (inl f) k l =
    let e : spare_base i + k ≡ base i + (spare_offset + k) = omega arith in
    rw e (f (spare_offset + k) (omega arith))
spare_of t i (inr f) k l = f.spare k l

flags_octet : (r : Record) → get_or (octets_of r) 6 0 ≡ flags_of r
unfolding octets_of enc
flags_octet r = refl

-- the name of a live record is used by no other
pub own_name : (t : List ℕ) (i : ℕ) (r : Record) → WellFormed t → i < count t → Live (record_at t i) → SameName (record_at t i) r → Unused t i r
own_name t i r f l v n j m d q s =
    f.unique i j l m (λ (e : i ≡ j). d (sym e)) v q (record { role = n.role ∙ s.role; peer = n.peer ∙ s.peer; tid = n.tid ∙ s.tid })

-- PUT: a record in range under an unused name
pub put_keeps : (t : List ℕ) (i : ℕ) (r : Record) → WellFormed t → i < count t → InRange (settings_of t) r → Unused t i r → WellFormed (put_record t i r)
unfolding put_record
put_keeps t i r f l g u =
    let n : length (octets_of r) ≡ fields_size = length_octets_holds r in
    let long : base i + record_size ≤ length t = room t f.sized i l in
    let e : record_at (put t (base i) (octets_of r)) i ≡ r = record_same t i r long (range_fits t r f g) in
    let b : get_or (put t (base i) (octets_of r)) (flags_at i) 0 ≡ flags_of r = get_same (octets_of r) t (base i) 6 (omega arith) (omega arith) ∙ flags_octet r in
    store_keeps t i (base i) (octets_of r) (omega arith) (omega arith) f
    (inr (
      record {
        range = rw e g;
        flags = rw b (omega (arith, flags_small r));
        spare = λ k m. get_d_after (octets_of r) t (base i) (spare_base i + k) (omega arith) ∙ spare_of t i (f.records i l) k m;
      },
      rw e u,
    ))

-- CLEARED
pub clear_keeps : (t : List ℕ) (i : ℕ) → WellFormed t → i < count t → WellFormed (clear_record t i)
unfolding clear_record
clear_keeps t i f l =
    let long : base i + record_size ≤ length t = room t f.sized i l in
    store_keeps t i (base i) (replicate record_size 0) (omega arith) (omega arith) f
    (inl (λ k m. get_same (replicate record_size 0) t (base i) k long m ∙ get_or-replicate record_size k 0 0 m))

-- EXIT INFORMATION of a live record
pub exit_keeps : (t : List ℕ) (i : ℕ) (w : List ℕ) → WellFormed t → i < count t → Live (record_at t i) → length w ≤ exit_bound → WellFormed (put t (exit_base i) w)
exit_keeps t i w f l v h =
    let e : record_at (put t (exit_base i) w) i ≡ record_at t i = record_apart t (exit_base i) w i (inl (omega arith)) in
    let o : LiveOk t (settings_of t) i = live_of t (settings_of t) i (f.records i l) v in
    store_keeps t i (exit_base i) w (omega arith) (omega arith) f
    (inr (
      record {
        range = rw e o.range;
        flags = rw (get_before w t (exit_base i) (flags_at i) (omega arith)) o.flags;
        spare = λ k m. get_before w t (exit_base i) (spare_base i + k) (omega arith) ∙ o.spare k m;
      },
      rw e (own_name t i (record_at t i) f l v (record { role = refl; peer = refl; tid = refl })),
    ))
