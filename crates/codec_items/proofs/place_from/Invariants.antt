-- What the items passed leave to find is what there was to find.
use Rattle.std.proofs.Common.{◌≡◌, ◌≤◌, ◌-◌}
use Rattle.codec_items.specs.Found.{place_from}
use Rattle.codec_items.proofs.place_from.Given as goal

abbrev pub invariant-loop : goal.invariant-loop
invariant-loop l = (l.counter ≤ l.most) × (place_from l.sought l.most l.s l.at ≡ place_from l.sought (l.most - l.counter) l.s l.next)
