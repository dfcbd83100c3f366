-- How many octets a header, an entry and the entries of a list have. Assumes nothing.
use Prim.Native.Nat.{ℕ, zero, suc, ◌+◌, ◌%◌, ◌≤◌, ◌<◌}
use native.Mathlib.Omega.{arith}
use mathlib.Core.Path.{◌≡◌, refl, sym, ap, ◌∙◌}
use mathlib.Core.List.{List, [], ◌∷◌, ◌++◌, append-nil, append_assoc}
use mathlib.Core.Bool.{Bool, true, false}
use mathlib.Core.Logic.{⊎_elim}
use lib.ListN.{length, get_or, take, length-append}
use lib.Seq.{take-suc}
use Rattle.base_lists.specs.Seq.{pick, bit, part, total}
use Rattle.base_lists.proofs.StoresAndParts.{length_part, below_or_last}
use Rattle.rds_frame.specs.declared.Kind.{Kind}
use Rattle.rds_frame.specs.declared.Kind.TheVariants as K
use Rattle.rds_frame.specs.declared.Head.{Head}
use Rattle.rds_entries.specs.declared.Entry.{Entry}
use Rattle.rds_entries.specs.Entries.{no_entry}
use Rattle.rds_size.specs.Size.{is_application, entry_size, entries_size}
use Rattle.rds_size.proofs.SizeTests.{application}
use Rattle.rds_pieces.specs.Octets.{ports_octet, kind_octets, kind_length}
use Rattle.rds_encoding.specs.Encoding.{head_octets, entry_octets, entries_octets}

length_kind : (k : Kind) (ads network : Bool) → length (take (kind_length k) (kind_octets k ads network)) ≡ kind_length k
unfolding kind_length kind_octets
length_kind (K.I a ns nr r) ads network = refl
length_kind (K.S a nr r) ads network = refl
length_kind (K.Ui nu) ads network = refl
length_kind (K.U m response) ads network = refl

length_flag : (b : Bool) (x : ℕ) → length (take (bit b) (x ∷ [])) ≡ bit b
length_flag true x = refl
length_flag false x = refl

pub length_head : (h : Head) (network : Bool) → length (head_octets h network) ≡ kind_length h.kind + bit h.ads
unfolding head_octets
length_head h network =
    omega (arith, length-append (take (kind_length h.kind) (kind_octets h.kind h.ads network)) (take (bit h.ads) (ports_octet h.source h.destination ∷ [])), length_kind h.kind h.ads network, length_flag h.ads (ports_octet h.source h.destination))

pub first_length : (h : Head) (network : Bool) → kind_length h.kind ≡ 0 + length (take (kind_length h.kind) (kind_octets h.kind h.ads network))
first_length h network = omega (arith, length_kind h.kind h.ads network)

-- a sum is not less than that of fewer numbers
sum_grows : (f : ℕ → ℕ) (n k : ℕ) → k < n → total f (suc k) ≤ total f n
unfolding total
sum_grows f zero k h = absurd (omega arith)
sum_grows f (suc n) k h = ⊎_elim
    (λ (g : k < n). omega (arith, sum_grows f n k g))
    (λ (g : k ≡ n). rw g (omega arith))
    (below_or_last k n h)

module _ (s : List ℕ) (f : Bool) where
  -- an entry that is no longer than an information field: its Application ID lies in s, and its octets are so many
  pub record Held (e : Entry) : Type 0 where
    pub ends : e.start + e.len ≤ length s
    pub sized : entry_size s f e ≡ 1 + e.len + bit f
    pub long : length (entry_octets s f e) ≡ entry_size s f e

  pub held : (e : Entry) → entry_size s f e ≤ 1520 → Held e
  unfolding entry_size entry_octets
  held e h = go (is_application s e.start e.len) refl h where
    both_ways : (b : Bool) → pick b (1 + e.len + 1) (1 + e.len) ≡ 1 + e.len + bit b
    both_ways true = refl
    both_ways false = omega arith

    go : (b : Bool) → is_application s e.start e.len ≡ b → pick b (pick f (1 + e.len + 1) (1 + e.len)) 1521 ≤ 1520 → Held e
    go false p g = absurd (omega (arith, g))
    go true p g =
        let a = application s e.start e.len p in
        let z : pick (is_application s e.start e.len) (pick f (1 + e.len + 1) (1 + e.len)) 1521 ≡ 1 + e.len + bit f = rw p (both_ways f) in
        record {
          ends = a.ends;
          sized = z;
          long = omega (arith, z, length-append (part s e.start e.len) (take (bit f) (e.format % 8 ∷ [])), length_part s e.start e.len a.ends, length_flag f (e.format % 8));
        }

  entries_last : (l : List Entry) (e : Entry) → entries_octets s f (l ++ (e ∷ [])) ≡ entries_octets s f l ++ entry_octets s f e
  unfolding entries_octets
  entries_last [] e = append-nil (entry_octets s f e)
  entries_last (a ∷ l) e = ap (λ (x : List ℕ). entry_octets s f a ++ x) (entries_last l e) ∙ sym (append_assoc (entry_octets s f a) (entries_octets s f l) (entry_octets s f e))

  module _ (list : List Entry) (n : ℕ) (fits : entries_size s f list n ≤ 1520) (all : n ≤ length list) where
    -- each of the entries is held, and those up to it are no longer than all
    pub next_size : (k : ℕ) → k < n → entries_size s f list k + entry_size s f (get_or list k no_entry) ≤ entries_size s f list n
    unfolding entries_size total
    next_size k h = sum_grows (λ i. entry_size s f (get_or list i no_entry)) n k h

    pub next_held : (k : ℕ) → k < n → Held (get_or list k no_entry)
    next_held k h = held (get_or list k no_entry) (omega (arith, next_size k h, fits))

    pub one_more : (k : ℕ) → k < n → entries_octets s f (take (suc k) list) ≡ entries_octets s f (take k list) ++ entry_octets s f (get_or list k no_entry)
    one_more k h = ap (entries_octets s f) (take-suc list k no_entry (omega arith)) ∙ entries_last (take k list) (get_or list k no_entry)

    pub length_entries : (k : ℕ) → k ≤ n → length (entries_octets s f (take k list)) ≡ entries_size s f list k
    unfolding entries_size total entries_octets
    length_entries zero h = refl
    length_entries (suc k) h =
        ap length (one_more k (omega arith))
        ∙ length-append (entries_octets s f (take k list)) (entry_octets s f (get_or list k no_entry))
        ∙ omega (arith, length_entries k (omega arith), (next_held k (omega arith)).long)
