-- The identity told of a PDU's first unknown item is 6 to 15, or 0. Assumes nothing.
use Prim.Native.Nat.{ℕ, zero, suc, ◌-◌, ◌<◌, ◌≤◌}
use native.Mathlib.Omega.{arith}
use borrow.Author.Tests.{leb-true, ltb-false, eqb-false}
use mathlib.Core.Path.{◌≡◌, refl, sym, subst}
use mathlib.Core.List.{List}
use mathlib.Core.Bool.{Bool, true, false, ◌||◌}
use mathlib.Core.Logic.{◌⊎◌, inl, inr}
use lib.ListN.{length}
use lib.Dec.{ltb, leb, eqb}
use Rattle.std.specs.Prelude.{Option, Some, None, Result, Ok, Err}
use Rattle.base_lists.specs.Seq.{pick}
use Rattle.base_lists.proofs.StoresAndParts.{true_false}
use Rattle.base_numbers.specs.declared.Malformed.{Malformed}
use Rattle.base_numbers.specs.declared.Malformed.TheVariants.{D7}
use Rattle.codec_items.specs.Forms.{Short, Long}
use Rattle.codec_items.specs.Found.{place_from, place_after, unknown_in}
use Rattle.codec_items.specs.Info.{first_from}
use Rattle.codec_items.specs.Items.{item_at}
use Rattle.codec_items.specs.Unknown.{unknown_from}
use Rattle.codec_items.specs.declared.Got.{Got}
use Rattle.codec_items.specs.declared.Sought.TheVariants.{UnknownItem}
use Rattle.codec_items.specs.declared.Unknown.{Unknown}
use Rattle.codec_items.proofs.Forms.{item_forms}
use Rattle.codec_pdu.specs.Brief.{brief_of}
use Rattle.codec_pdu.specs.Pdu.{sound_of, blank_pdu, unknown_of}
use Rattle.codec_pdu.specs.declared.Brief.{Brief}
use Rattle.codec_pdu.specs.declared.Kind.{Kind}
use Rattle.codec_pdu.specs.declared.Kind.TheVariants.{Wrong}
use Rattle.codec_reading.specs.Brief.{end_after_is, place_after as placeBehind, places_after, whole_brief, wrong_brief, bytes_left, ended_brief}
use Rattle.codec_reading.specs.Read.{head_of, pdu_of}
use Rattle.codec_reading.specs.declared.Head.{Head}
use Rattle.codec_reading.proofs.Briefs.{brief_sound, brief_unsound}
use Rattle.table_ranges.specs.Ranges.{UnknownOk, none, some}

abbrev Fine : Unknown → Type 0
Fine u = UnknownOk u.identity

-- a place that `unknown_in` looks at, of an item that isn't known
module _ (s : List ℕ) where
  small : (at : ℕ) (got : Got) → item_at s at ≡ Some got → got.item.identity < 16
  small at got e = go (item_forms s at got e)
    where
      go : Short s at got.item got.con got.next ⊎ Long s at got.item got.con got.next → got.item.identity < 16
      go (inl f) = rw f.item (omega arith)
      go (inr f) = rw f.item (omega arith)

  here : (at : ℕ) (got : Got) → item_at s at ≡ Some got → leb 6 got.item.identity ≡ true → Fine (unknown_in s (Some at))
  here at got e h = rw e (some (leb-true 6 got.item.identity h) (omega (arith, small at got e)))

  walked : (k at : ℕ) → Fine (unknown_in s (place_from UnknownItem k s at))
  unfolding place_from
  walked zero at = none refl
  walked (suc k) at = go (walked k) (item_at s at) refl
    where
      go : ((next : ℕ) → Fine (unknown_in s (place_from UnknownItem k s next))) → (g : Option Got) → item_at s at ≡ g → Fine (unknown_in s (place_after UnknownItem at (place_from UnknownItem k s) g))
      go ih None e = none refl
      go ih (Some got) e = by (leb 6 got.item.identity) refl got.con
        where
          by : (b : Bool) → leb 6 got.item.identity ≡ b → (c : Bool) → Fine (unknown_in s (pick b (Some at) (pick c (place_from UnknownItem k s got.next) None)))
          by true h c = here at got e h
          by false h true = ih got.next
          by false h false = none refl

  after : (h : Head) → Fine (unknown_in s (places_after s h).unknown)
  unfolding places_after placeBehind
  after h = go h.con
    where
      go : (b : Bool) → Fine (unknown_in s (pick b (place_from UnknownItem 16 s h.end) None))
      go true = walked 16 h.end
      go false = none refl

  blank : (k : Kind) → Fine (brief_of (blank_pdu k)).unknown
  unfolding brief_of blank_pdu unknown_of unknown_from first_from
  blank k = none refl

  ended : (h : Head) (end : Result ℕ Malformed) → Fine (ended_brief s h (places_after s h) end).unknown
  unfolding ended_brief whole_brief
  ended h (Err d) = blank (Wrong d)
  ended h (Ok end) = go (bytes_left h.kind (length s - end))
    where
      go : (b : Bool) → Fine (pick b (wrong_brief (Wrong D7)) (whole_brief s h (places_after s h) end)).unknown
      go true = blank (Wrong D7)
      go false = after h

  by_head : 1 ≤ length s → length s ≤ 1500 → (b : Bool) → sound_of (head_of s).kind ≡ b → Fine (unknown_of (pdu_of s))
  unfolding brief_of
  by_head l m true e = subst (λ (b : Brief). Fine b.unknown) (brief_sound s (head_of s) refl l m e) (ended (head_of s) (end_after_is s (head_of s)))
  by_head l m false e = subst (λ (b : Brief). Fine b.unknown) (brief_unsound s (head_of s) refl l m e) (blank (head_of s).kind)

  no_length : (a b : Bool) → eqb (length s) 0 ≡ a → ltb 1500 (length s) ≡ b → a || b ≡ true → Fine (unknown_of (pdu_of s))
  unfolding pdu_of blank_pdu unknown_of unknown_from first_from
  no_length true b e f h = rw e (none refl)
  no_length false true e f h = rw (e, f) (none refl)
  no_length false false e f h = true_false (sym h)

  -- 02, L4: the identity of an unknown item, or none
  pub identity_fine : UnknownOk (unknown_of (pdu_of s)).identity
  identity_fine = go (eqb (length s) 0) refl (ltb 1500 (length s)) refl
    where
      go : (a : Bool) → eqb (length s) 0 ≡ a → (b : Bool) → ltb 1500 (length s) ≡ b → Fine (unknown_of (pdu_of s))
      go true e b f = no_length true b e f refl
      go false e true f = no_length false true e f refl
      go false e false f = by_head (omega (arith, eqb-false (length s) 0 e)) (ltb-false 1500 (length s) f) (sound_of (head_of s).kind) refl
