-- The octets of a frame to be written, in order (RDS.md, sections 1 and 2; TS 24.250, clause 5), its parts in lent octets s.
use Rattle.std.specs.Prelude.{ℕ, ◌+◌, ◌%◌, ◌≤◌, List, [], ◌∷◌, ◌++◌, Bool, length, take}
use Rattle.rds_lists.specs.Sizes.{information_most}
use Rattle.base_lists.specs.Seq.{bit, part}
use Rattle.rds_frame.specs.declared.Head.{Head}
use Rattle.rds_entries.specs.declared.Entry.{Entry}
use Rattle.rds_reading.specs.declared.Frame.{Frame}
use Rattle.rds_size.specs.Size.{entries_size}
use Rattle.rds_pieces.specs.declared.Pieces.{Pieces}
use Rattle.rds_pieces.specs.Octets.{ports_octet, kind_octets, kind_length, pieces_of}

-- section 1: "A frame is a header of 1 to 3 octets", the ports octet where ADS is 1
unfoldable pub head_octets : Head → Bool → List ℕ
head_octets h network = take (kind_length h.kind) (kind_octets h.kind h.ads network) ++ take (bit h.ads) (ports_octet h.source h.destination ∷ [])

-- section 2, an entry: "ports octet, Application ID, and with Actions 6 and 7 one octet Serialization Format"
unfoldable pub entry_octets : List ℕ → Bool → Entry → List ℕ
entry_octets s formats e = ports_octet e.source e.destination ∷ (part s e.start e.len ++ take (bit formats) (e.format % 8 ∷ []))

unfoldable pub entries_octets : List ℕ → Bool → List Entry → List ℕ
entries_octets s formats [] = []
entries_octets s formats (e ∷ l) = entry_octets s formats e ++ entries_octets s formats l

-- the pieces, in order
unfoldable pub pieces_octets : List ℕ → List Entry → Pieces → List ℕ
pieces_octets s list p = take p.fronts p.front ++ (part s p.start p.len ++ (entries_octets s p.formats (take p.count list) ++ take p.tails p.tail))

-- the octets of a frame: the header, and then the information field
unfoldable pub octets_of : List ℕ → Frame → Bool → List ℕ
octets_of s f network = head_octets f.head network ++ pieces_octets s f.list (pieces_of f.body)

-- pieces whose parts lie in s, and which are no longer than an information field
pub record Fitting (s : List ℕ) (list : List Entry) (p : Pieces) : Type 0 where
  pub fronts_fit : p.fronts ≤ length p.front
  pub part_fits : p.start + p.len ≤ length s
  pub count_fits : p.count ≤ 15
  pub tails_fit : p.tails ≤ length p.tail
  pub size_fits : p.fronts + p.len + entries_size s p.formats list p.count + p.tails ≤ information_most
