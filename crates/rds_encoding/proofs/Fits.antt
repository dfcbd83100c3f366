-- A body that is no longer than an information field fits, and has as many octets as its size says. Assumes nothing.
use Prim.Native.Nat.{ℕ, ◌+◌, ◌%◌, ◌≤◌}
use native.Mathlib.Omega.{arith}
use mathlib.Core.Path.{◌≡◌, refl}
use mathlib.Core.List.{List, [], ◌∷◌, ◌++◌}
use mathlib.Core.Bool.{Bool, true, false}
use Rattle.std.specs.Prelude.{Option, Some, None, is_some}
use lib.ListN.{length, take, length-append}
use lib.Seq.{length-take-le}
use lib.Dec.{eqb}
use Rattle.base_lists.specs.Seq.{pick, bit, part, total}
use Rattle.base_lists.proofs.StoresAndParts.{length_part}
use Rattle.rds_entries.specs.declared.Entry.{Entry}
use Rattle.rds_body.specs.declared.Body.{Body}
use Rattle.rds_body.specs.declared.Body.TheVariants as B
use Rattle.rds_size.specs.Size.{asking_size, entries_size, list_size, body_size}
use Rattle.rds_size.proofs.Fits.{information_fits, asking_fits}
use Rattle.rds_pieces.specs.declared.Pieces.{Pieces}
use Rattle.rds_pieces.specs.Octets.{fixed_of, asking_pieces, answer_pieces, query_pieces, list_pieces, pieces_of}
use Rattle.rds_encoding.specs.Encoding.{entries_octets, pieces_octets, Fitting}
use Rattle.rds_encoding.proofs.Lengths.{length_entries}

module _ (s : List ℕ) (list : List Entry) where
  -- how many octets pieces have
  abbrev pub sum : Pieces → ℕ
  sum p = p.fronts + p.len + entries_size s p.formats list p.count + p.tails

  -- pieces that fit, and their sum
  pub record Sized (p : Pieces) (n : ℕ) : Type 0 where
    pub fits : Fitting s list p
    pub size : sum p ≡ n

  none_sized : (formats : Bool) → entries_size s formats list 0 ≡ 0
  unfolding entries_size total
  none_sized formats = refl

  fixed_fits : (front : List ℕ) (n : ℕ) → n ≤ length front → n ≤ 1520 → Sized (fixed_of front n) n
  unfolding fixed_of
  fixed_fits front n h g = record {
    fits = record { fronts_fit = h; part_fits = omega arith; count_fits = omega arith; tails_fit = omega arith; size_fits = omega (arith, none_sized false, g) };
    size = omega (arith, none_sized false);
  }

  answer_fits : (a f t : ℕ) → Sized (answer_pieces a f t) (pick (eqb a 5) 3 2)
  unfolding answer_pieces
  answer_fits a f t = go (eqb a 5) where
    go : (b : Bool) → Sized (pick b (fixed_of (a % 16 ∷ f % 8 ∷ t % 4 ∷ []) 3) (fixed_of (a % 16 ∷ t % 4 ∷ 0 ∷ []) 2)) (pick b 3 2)
    go true = fixed_fits _ 3 (omega arith) (omega arith)
    go false = fixed_fits _ 2 (omega arith) (omega arith)

  query_fits : (a : ℕ) (p : Option ℕ) → Sized (query_pieces a p) (pick (is_some p) 3 1)
  unfolding query_pieces
  query_fits a (Some p) = fixed_fits _ 3 (omega arith) (omega arith)
  query_fits a None = fixed_fits _ 1 (omega arith) (omega arith)

  list_fits : (a : ℕ) (p : Option ℕ) (n : ℕ) → list_size s list a (is_some p) n ≤ 1520 → Sized (list_pieces a p n) (list_size s list a (is_some p) n)
  unfolding list_pieces list_size
  list_fits a (Some p) n h = record {
    fits = record { fronts_fit = omega arith; part_fits = omega arith; count_fits = omega arith; tails_fit = omega arith; size_fits = omega (arith, h) };
    size = omega arith;
  }
  list_fits a None n h = record {
    fits = record { fronts_fit = omega arith; part_fits = omega arith; count_fits = omega arith; tails_fit = omega arith; size_fits = omega (arith, h) };
    size = omega arith;
  }

  flag_le : (b : Bool) → bit b ≤ 2
  flag_le true = omega arith
  flag_le false = omega arith

  asking_sized : (a p d start len f : ℕ) → asking_size s a start len ≤ 1520 → Sized (asking_pieces a p d start len f) (asking_size s a start len)
  unfolding asking_pieces
  asking_sized a p d start len f h =
      let k = asking_fits s a start len h in
      record {
        fits = record { fronts_fit = omega arith; part_fits = k.0; count_fits = omega arith; tails_fit = flag_le (eqb a 5); size_fits = omega (arith, h, k.1, none_sized false) };
        size = omega (arith, k.1, none_sized false);
      }

  -- a body no longer than an information field
  pub body_fits : (items : Bool) (b : Body) → body_size s list items b ≤ 1520 → Sized (pieces_of b) (body_size s list items b)
  unfolding body_size pieces_of
  body_fits items B.Empty h = fixed_fits _ 0 (omega arith) (omega arith)
  body_fits items (B.Information start len) h =
      let k = information_fits s start len items h in
      record {
        fits = record { fronts_fit = omega arith; part_fits = k.0; count_fits = omega arith; tails_fit = omega arith; size_fits = omega (arith, h, k.1, none_sized false) };
        size = omega (arith, k.1, none_sized false);
      }
  body_fits items (B.Asking a p d start len f) h = asking_sized a p d start len f h
  body_fits items (B.Answer a f t) h = answer_fits a f t
  body_fits items (B.Query a p) h = query_fits a p
  body_fits items (B.List a p n) h = list_fits a p n h

  -- pieces that fit have as many octets as their sum says
  pub length_pieces : length list ≡ 15 → (p : Pieces) → Fitting s list p → length (pieces_octets s list p) ≡ sum p
  unfolding pieces_octets
  length_pieces full p f =
      let E = entries_octets s p.formats (take p.count list) in
      let F = take p.fronts p.front in
      let T = take p.tails p.tail in
      let P = part s p.start p.len in
      omega (arith, length-append F (P ++ (E ++ T)), length-append P (E ++ T), length-append E T, length-take-le p.fronts p.front f.fronts_fit, length-take-le p.tails p.tail f.tails_fit, length_part s p.start p.len f.part_fits, length_entries s p.formats list p.count (omega (arith, f.size_fits)) (omega (arith, f.count_fits, full)) p.count (omega arith))
