-- Two slices are equal where they are the same octets.
use Rattle.std.proofs.lemmas.Slice.Eq.{slice_eq-Decides}
use Rattle.std.proofs.lemmas.Bool.Decides.{Decides-eqb}
use Rattle.base_lists.proofs.Every.{same_test}
use Rattle.rds_book.specs.Book.{same}
use Rattle.rds_book.proofs.Same.{equal_same, same_equal}
use Rattle.rds_book.proofs.same_octets.Goals as goal

pub returns : goal.returns
returns c =
    let s = c.args.s.now in
    let t = c.args.t.now in
    let d = slice_eq-Decides Decides-eqb s t c.eq.result c.eq.ensures in
    same_test c.eq.result (same s t) (λ e. rw (d.0 e) (equal_same t)) (λ e. d.1 (same_equal s t e))
