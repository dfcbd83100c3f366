-- What the items passed leave to say is what there was to say.
use Rattle.std.proofs.Common.{◌≡◌, ◌≤◌, ◌-◌}
use Rattle.codec_items.specs.Found.{end_from}
use Rattle.codec_items.proofs.end_from.Given as goal

abbrev pub invariant-loop : goal.invariant-loop
invariant-loop l = (l.counter ≤ l.left) × (end_from l.left l.s l.at ≡ end_from (l.left - l.counter) l.s l.next)
