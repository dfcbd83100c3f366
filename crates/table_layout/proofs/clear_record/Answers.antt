-- `table_layout::clear_record` meets its contract: what fills the record's part is put there. Assumes nothing.
use Rattle.std.proofs.Common.{◌≡◌, sym, ap, ◌∙◌, ◌+◌, ◌*◌, ◌-◌, ℕ, length, arith}
use Rattle.std.specs.Prelude.{List, replicate, take, drop}
use Rattle.base_lists.specs.Seq.{put}
use Rattle.base_lists.proofs.StoresAndParts.{put_mid_put, length_part}
use Rattle.table_layout.specs.Table.{clear_record}
use Rattle.table_layout.proofs.clear_record.Goals as goal

pub returns : goal.returns
unfolding clear_record
returns c =
    let a : ℕ = 624 + c.args.i * 176 in
    let k : a + 176 - a ≡ 176 = omega arith in
    let n : length (take (a + 176 - a) (drop a c.args.t.now)) ≡ 176 = rw k (length_part c.args.t.now a 176 c.requires) in
    let zeros : c.fill.new.self ≡ replicate 176 0 = c.fill.ensures.after (λ y e. e) ∙ ap (λ (m : ℕ). replicate m 0) n in
    put_mid_put c.args.t.now c.fill.new.self a (a + 176 - a) (omega (arith, c.requires, c.fill.ensures.len, n)) (k ∙ sym (c.fill.ensures.len ∙ n)) ∙ ap (λ (w : List ℕ). put c.args.t.now a w) zeros
