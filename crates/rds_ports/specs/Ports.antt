-- The calls of our commands (RDS.md, section 5, O1 to O4).
use Rattle.std.specs.Prelude.{ℕ, List, Bool}
use Rattle.base_lists.specs.Seq.{pick}
use Rattle.base_numbers.specs.declared.Refusal.TheVariants.{WrongSize, NoRecord, NotAllowed, WrongSetting, WrongLength}
use Rattle.base_numbers.specs.Numbers.{number_of}
use Rattle.rds_book.specs.Book.{app_of_is, well_formed, keep, cleared}
use Rattle.rds_lent.specs.Left.{Left, refused, lent_well}
use Rattle.rds_lent.specs.Asked.{outstanding, is_reserved, not_now, out_of_range_is, is_app, sending, reserving, releasing}

-- section 6: 9, 10, 11, or the command is stored and sent
unfoldable pub reserve_in : List ℕ → List ℕ → List ℕ → ℕ → ℕ → Bool → List ℕ → Left
reserve_in b o a own peers with app =
    pick (not_now b own with) (refused NotAllowed b o a)
    (pick (out_of_range_is own peers) (refused WrongSetting b o a)
    (pick (is_app app) (sending (keep b 0 (reserving own peers with) app) o a)
    (refused WrongLength b o a)))

unfoldable pub reserve_of : List ℕ → List ℕ → List ℕ → ℕ → ℕ → Bool → List ℕ → Left
reserve_of b o a own peers with app = pick (lent_well b o a) (reserve_in b o a own peers with app) (refused WrongSize b o a)

-- section 6: 8, 9, or the command is stored and sent
unfoldable pub release_in : List ℕ → List ℕ → List ℕ → ℕ → Left
release_in b o a own =
    pick (is_reserved b own)
    (pick (outstanding b) (refused NotAllowed b o a)
    (sending (keep b 0 (releasing b own) (app_of_is b own)) o a))
    (refused NoRecord b o a)

unfoldable pub release_of : List ℕ → List ℕ → List ℕ → ℕ → Left
release_of b o a own = pick (lent_well b o a) (release_in b o a own) (refused WrongSize b o a)

-- O3: "the outstanding command, the same octets"
unfoldable pub again_in : List ℕ → List ℕ → List ℕ → Left
again_in b o a = pick (outstanding b) (sending b o a) (refused NoRecord b o a)

unfoldable pub again_of : List ℕ → List ℕ → List ℕ → Left
again_of b o a = pick (lent_well b o a) (again_in b o a) (refused WrongSize b o a)

-- O4: "command := none; no port changes"
unfoldable pub abandon_number : List ℕ → ℕ
abandon_number b = pick (well_formed b) (pick (outstanding b) 0 (number_of NoRecord)) (number_of WrongSize)

unfoldable pub abandon_after : List ℕ → List ℕ
abandon_after b = pick (well_formed b) (pick (outstanding b) (cleared b 0) b) b
