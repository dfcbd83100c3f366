-- What is planned can be written, and what isn't planned leaves the output.
use Rattle.std.proofs.Common.{length, refl, sym, ap, ◌∙◌}
use Rattle.codec_pdu.specs.declared.Pdu.{Pdu}
use Rattle.codec_pdu.specs.Pdu.{sound_of}
use Rattle.codec_said.specs.Said.{pdu_said}
use Rattle.codec_writing.specs.Writing.{plan}
use Rattle.codec_writing.proofs.Plans.{planned, wrote, wrote_nothing}
use Rattle.codec_writing.proofs.write.Goals as goal

pub put_said-len-requires : goal.put_said-len-requires
unfolding pdu_said
put_said-len-requires c =
    let k = c.planned_kind-kind.ensures in
    let q = planned c.args.fields.now c.args.bytes.now (length c.args.out.now) (ap sound_of (sym k) ∙ sym c.sound.ensures ∙ c.if-sound.true) in
    record { in_bounds = (q.whole, k ∙ ap (λ (p : Pdu). p.kind) q.said); writable = (q.writable, q.room_enough) }

pub returns-then-sound : goal.returns-then-sound
unfolding pdu_said
returns-then-sound c =
    let a = c.args in
    let k = c.planned_kind-kind.ensures in
    let t = sym c.sound.ensures ∙ c.if-sound.true in
    let q = planned a.fields.now a.bytes.now (length a.out.now) (ap sound_of (sym k) ∙ t) in
    let same = k ∙ ap (λ (p : Pdu). p.kind) q.said in
    wrote a.fields.now a.bytes.now a.out.now (pdu_said a.fields.now) (sym q.said) _ _ _ (rw same at t) c.put_said-len.ensures.0 c.put_said-len.ensures.1 (rw same at c.answer.ensures)

pub returns-else-sound : goal.returns-else-sound
returns-else-sound c =
    let a = c.args in
    let k = c.planned_kind-kind.ensures in
    wrote_nothing a.fields.now a.bytes.now a.out.now (plan a.fields.now a.bytes.now a.out.now) refl _ (rw k at (sym c.sound.ensures ∙ c.if-sound.false)) (rw k at c.answer-else-sound.ensures)
