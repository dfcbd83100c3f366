-- The octets stand field by field. Assumes nothing.
use Rattle.std.proofs.Common.{◌≡◌, ◌∙◌, refl, ℕ, List, [], ◌∷◌, get_or}
use Rattle.base_octets.specs.Octets.{enc}
use Rattle.base_octets.proofs.Widths.{two_octets, four_octets, eight_octets}
use Rattle.table_record.specs.Record.{state_number, flags_of, octets_of}
use Rattle.table_record.specs.declared.Record.{Record}
use Rattle.table_record.proofs.encode.Goals as goal

abbrev fours : List ℕ → List ℕ → List ℕ
fours w rest = get_or w 0 0 ∷ get_or w 1 0 ∷ get_or w 2 0 ∷ get_or w 3 0 ∷ rest

abbrev eights : List ℕ → List ℕ → List ℕ
eights w rest = fours w (get_or w 4 0 ∷ get_or w 5 0 ∷ get_or w 6 0 ∷ get_or w 7 0 ∷ rest)

laid : (r : Record) (s f : ℕ) (t d l m n : List ℕ) → s ≡ state_number r.state → f ≡ flags_of r → t ≡ enc 2 r.tid → d ≡ enc 8 r.deadline → l ≡ enc 4 r.len → m ≡ enc 4 r.limit → n ≡ enc 4 r.sent
    → s ∷ r.peer ∷ get_or t 0 0 ∷ get_or t 1 0 ∷ r.rcr.0 ∷ r.aec.0 ∷ f ∷ r.exit_len ∷ eights d (fours l (fours m (r.unknown ∷ fours n []))) ≡ octets_of r
unfolding octets_of enc
laid r s f t d l m n e g a b c h i = rw (e, g, a, b, c, h, i) refl

pub returns : goal.returns
returns c =
    laid c.args.r _ _ _ _ _ _ _ c.from-s.ensures c.flags_of-f.ensures
    (c.to_le_bytes-t.ensures ∙ two_octets _) (c.to_le_bytes-d.ensures ∙ eight_octets _) (c.to_le_bytes-l.ensures ∙ four_octets _) (c.to_le_bytes-m.ensures ∙ four_octets _) (c.to_le_bytes-n.ensures ∙ four_octets _)
