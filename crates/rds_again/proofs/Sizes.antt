-- A body whose parts lie elsewhere is as long as it was. Assumes nothing.
use Prim.Native.Nat.{ℕ, ◌+◌, ◌-◌, ◌<◌, ◌≤◌}
use native.Mathlib.Omega.{arith}
use mathlib.Core.Path.{◌≡◌, refl}
use mathlib.Core.List.{List}
use mathlib.Core.Bool.{Bool, true, false}
use lib.ListN.{length, get_or}
use lib.Dec.{ltb, eqb}
use borrow.Author.Tests.{le-leb, le-ltb, eq-eqb, ne_eqb}
use Rattle.base_lists.specs.Seq.{pick, part}
use Rattle.base_lists.proofs.StoresAndParts.{total_same}
use Rattle.rds_entries.specs.declared.Entry.{Entry}
use Rattle.rds_entries.specs.Entries.{no_entry}
use Rattle.rds_parameters.specs.Parameters.{items_from}
use Rattle.rds_size.specs.Size.{inside, is_application, information_size, asking_size, entry_size, entries_size}
use Rattle.rds_size.proofs.SizeTests.{application}
use Rattle.rds_encoding.proofs.Lengths.{next_size}

module _ (s f : List ℕ) where
  inside_of : (a l : ℕ) → a + l ≤ length s → inside (length s) a l ≡ true
  unfolding inside
  inside_of a l h =
      let x : a ≤ length s = omega (arith, h) in
      let y : l ≤ length s - a = omega (arith, h) in
      rw (le-leb a (length s) x) (le-leb l (length s - a) y)

  -- an Application ID elsewhere
  application_elsewhere : (a b l : ℕ) → a + l ≤ length s → part s a l ≡ part f b l → is_application f b l ≡ true → is_application s a l ≡ true
  unfolding is_application
  application_elsewhere a b l h e t =
      let k = application f b l t in
      rw (ne_eqb l 0 k.some, le-ltb 272 l k.bounded, inside_of a l h, e) (eq-eqb _ _ k.whole)

  -- information elsewhere
  pub information_elsewhere : (a b l : ℕ) (items : Bool) → a + l ≤ length s → part s a l ≡ part f b l → information_size f b l items ≤ 1520 → information_size s a l items ≤ 1520
  unfolding information_size
  information_elsewhere a b l items h e = rw (inside_of a l h, e) (go (ltb 1520 l) (inside (length f) b l) items (items_from l (part f b l))) where
    go : (x y z t : Bool) → pick x 1521 (pick y (pick z (pick t l 1521) l) 1521) ≤ 1520 → pick x 1521 (pick z (pick t l 1521) l) ≤ 1520
    go true y z t k = k
    go false true z t k = k
    go false false z t k = absurd (omega (arith, k))

  asking_is : (a l n : ℕ) → asking_size f n a l ≤ 1520 → is_application f a l ≡ true
  unfolding asking_size
  asking_is a l n = go (is_application f a l) where
    go : (x : Bool) → pick x (pick (eqb n 5) (2 + l + 1) (2 + l)) 1521 ≤ 1520 → x ≡ true
    go true k = refl
    go false k = absurd (omega (arith, k))

  pub asking_elsewhere : (n a b l : ℕ) → a + l ≤ length s → part s a l ≡ part f b l → asking_size f n b l ≤ 1520 → asking_size s n a l ≤ 1520
  unfolding asking_size
  asking_elsewhere n a b l h e k =
      let t = asking_is b l n k in
      rw (application_elsewhere a b l h e t) (rw t at k)

  -- entries elsewhere
  entry_elsewhere : (formats : Bool) (x y : Entry) → x.len ≡ y.len → x.start + x.len ≤ length s → part s x.start x.len ≡ part f y.start y.len → is_application f y.start y.len ≡ true
      → entry_size s formats x ≡ entry_size f formats y
  unfolding entry_size
  entry_elsewhere formats x y n h e t =
      let k : is_application s x.start y.len ≡ true = application_elsewhere x.start y.start y.len (rw n at h) (rw n at e) t in
      rw (n, k, t) refl

  entry_is : (formats : Bool) (y : Entry) → entry_size f formats y ≤ 1520 → is_application f y.start y.len ≡ true
  unfolding entry_size
  entry_is formats y = go (is_application f y.start y.len) where
    go : (x : Bool) → pick x (pick formats (1 + y.len + 1) (1 + y.len)) 1521 ≤ 1520 → x ≡ true
    go true k = refl
    go false k = absurd (omega (arith, k))

  module _ (g h : List Entry) (full : length h ≡ 15) (n : ℕ) (most : n ≤ 15) (lens : (k : ℕ) → (get_or g k no_entry).len ≡ (get_or h k no_entry).len)
      (insides : (k : ℕ) → k < 15 → (get_or g k no_entry).start + (get_or g k no_entry).len ≤ length s)
      (same : (k : ℕ) → part s (get_or g k no_entry).start (get_or g k no_entry).len ≡ part f (get_or h k no_entry).start (get_or h k no_entry).len) where
    pub entries_elsewhere : (formats : Bool) → entries_size f formats h n ≤ 1520 → entries_size s formats g n ≡ entries_size f formats h n
    unfolding entries_size
    entries_elsewhere formats fits =
        total_same (λ k. entry_size s formats (get_or g k no_entry)) (λ k. entry_size f formats (get_or h k no_entry)) n
        (λ k l.
        entry_elsewhere formats (get_or g k no_entry) (get_or h k no_entry) (lens k) (insides k (omega arith)) (same k)
        (entry_is formats (get_or h k no_entry) (omega (arith, next_size f formats h n fits (omega arith) k l, fits))))
