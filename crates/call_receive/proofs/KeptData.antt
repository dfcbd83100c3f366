-- The user data of a PDU, and the data that is kept of it, lie inside the PDU; what is kept has at most 1,024 octets. Assumes nothing.
use Prim.Native.Nat.{ℕ, ◌+◌, ◌-◌, ◌≤◌}
use native.Mathlib.Omega.{arith}
use borrow.Author.Tests.{ltb-false}
use mathlib.Core.Path.{◌≡◌, refl}
use mathlib.Core.List.{List}
use mathlib.Core.Bool.{Bool, true, false}
use lib.ListN.{length}
use lib.Dec.{ltb, eqb}
use Rattle.base_layout.specs.Layout.{cell_size}
use Rattle.base_lists.specs.Seq.{pick}
use Rattle.std.specs.Prelude.{Ok, Err}
use Rattle.codec_items.specs.Items.{Verdict, Items}
use Rattle.codec_pdu.specs.Pdu.{sound_of, bare_of, blank_pdu}
use Rattle.codec_pdu.specs.declared.Kind.{Kind}
use Rattle.codec_pdu.specs.declared.Pdu.{Pdu}
use Rattle.codec_reading.specs.Read.{head_of, items_after, whole, finish_by, finished, after_head, pdu_of}
use Rattle.codec_reading.specs.declared.Head.{Head}
use Rattle.codec_reading.proofs.Inside.{head_inside, items_inside_holds}
use Rattle.call_receive.specs.Receives.{user_part, kept_part}
use Rattle.step_plan.specs.Steps.{no_part}
use Rattle.step_plan.specs.declared.Part.{Part}
use mir.Val.{Fits}
use mir.Syntax.{w32}

-- the user data lies inside the octets of the PDU
abbrev Inside : List ℕ → Pdu → Type 0
Inside s p = p.start + p.len ≤ length s

module _ (s : List ℕ) where
  choose_inside : (b : Bool) (p q : Pdu) → Inside s p → Inside s q → Inside s (pick b p q)
  choose_inside true p q h k = h
  choose_inside false p q h k = k

  blank_inside : (k : Kind) → Inside s (blank_pdu k)
  unfolding blank_pdu
  blank_inside k = omega arith

  finished_inside : (h : Head) (i : Items) → i.end ≤ length s → Inside s (finished s h i)
  unfolding finished
  finished_inside h i e = go i.verdict
    where
      go : (v : Verdict) → Inside s (finish_by v s h i)
      go (Err d) = blank_inside _
      go (Ok tt) = choose_inside (bare_of h.kind) _ _ (choose_inside (eqb (length s - i.end) 0) (whole h i 0 0) _ (omega arith) (blank_inside _)) rest
        where
          rest : i.end + (length s - i.end) ≤ length s
          rest = omega (arith, e)

  after_inside : (h : Head) → h.end ≤ length s → Inside s (after_head s h)
  unfolding after_head
  after_inside h e = choose_inside (sound_of h.kind) _ _ (finished_inside h (items_after s h) (items_inside_holds s h e)) (blank_inside _)

  pub user_inside : Inside s (pdu_of s)
  unfolding pdu_of
  user_inside = choose_inside (eqb (length s) 0) _ _ (blank_inside _) (choose_inside (ltb 1500 (length s)) _ _ (blank_inside _) (after_inside (head_of s) (head_inside s)))

  pub kept_inside : (kept_part (pdu_of s)).start + (kept_part (pdu_of s)).len ≤ length s
  unfolding kept_part user_part no_part
  kept_inside = go (ltb cell_size (pdu_of s).len)
    where
      go : (b : Bool) → (pick b no_part (user_part (pdu_of s))).start + (pick b no_part (user_part (pdu_of s))).len ≤ length s
      go true = omega arith
      go false = user_inside

pub kept_small : (p : Pdu) → (kept_part p).len ≤ cell_size
unfolding kept_part user_part no_part
kept_small p = go (ltb cell_size p.len) refl
  where
    go : (b : Bool) → ltb cell_size p.len ≡ b → (pick b no_part (user_part p)).len ≤ cell_size
    go true e = omega arith
    go false e = ltb-false cell_size p.len e

pub kept_fits : (p : Pdu) (q : Part) → q ≡ kept_part p → Fits w32 q.len
kept_fits p q e =
    let small : q.len ≤ cell_size = rw e (kept_small p) in
    omega (arith, small)
