-- Zeros, with two octets before them.
use mathlib.Core.Path.{refl}
use Rattle.rds_shown.specs.Shown.{fresh_book}
use Rattle.rds_shown.proofs.put_fresh.Goals as goal

pub returns : goal.returns
unfolding fresh_book
returns c = rw (c.fill.ensures.after (λ y h. h), c.requires, c.from.ensures) refl
