-- Promise 1: a frame is refused exactly where one of the fourteen conditions of section 3 holds. Assumes nothing.
use Prim.Native.Nat.{ℕ, ◌-◌, ◌/◌, ◌%◌}
use mathlib.Core.Path.{◌≡◌, refl, sym, ap, ◌∙◌}
use mathlib.Core.List.{List, [], ◌∷◌}
use mathlib.Core.Bool.{Bool, true, false}
use mathlib.Core.Logic.{◌⊎◌, inl, inr}
use lib.ListN.{length, get_or, drop}
use lib.Dec.{ltb, leb, eqb}
use borrow.Author.Tests.{eqb-true}
use Rattle.base_lists.specs.Seq.{pick}
use Rattle.base_lists.proofs.StoresAndParts.{told}
use Rattle.rds_frame.specs.declared.Kind.{Kind}
use Rattle.rds_frame.specs.declared.Kind.TheVariants as K
use Rattle.rds_frame.specs.declared.Head.{Head}
use Rattle.rds_frame.specs.Frame.{flag, sacked, responds, answered, commanded, u_kind, kind_of, ports_after, headed, head_of}
use Rattle.rds_parameters.specs.Parameters.{items_from}
use Rattle.rds_body.specs.declared.Body.TheVariants as B
use Rattle.rds_body.specs.declared.Managed.{Managed}
use Rattle.rds_body.specs.Body.{no_list, lone, managed_of}
use Rattle.std.specs.Prelude.{Option, Some, None, is_none}
use Rattle.rds_reading.specs.declared.Frame.{Frame}
use Rattle.rds_reading.specs.Read.{empty_of, items_of, manage_of, u_body, body_by, body_after, framed, frame_by, frame_of}
use Rattle.rds_malformed.specs.Malformed.{not, and, or, any, badInformation, malformed}
use Rattle.rds_malformed.proofs.Body.{or_none, where_sound, lone_exact, managed_exact}

-- the body of a U frame that the table has: 8 to 14
module _ (s : List ℕ) (at : ℕ) (ads response : Bool) where
  abbrev badU : ℕ → Bool
  badU m =
      any (and (or (eqb m 1) (eqb m 4)) (not (eqb (length s) at)) ∷ and (eqb m 11) (not (items_from (length s - at) (drop at s))) ∷ and (eqb m 10) ads
      ∷ and (eqb m 10) (badInformation (drop at s) at response) ∷ [])

  manage_exact : (b : Bool) → is_none (pick b None (managed_of (drop at s) at response)) ≡ or b (or (badInformation (drop at s) at response) false)
  manage_exact true = refl
  manage_exact false = managed_exact (drop at s) at response ∙ sym (or_none (badInformation (drop at s) at response))

  empty_exact : is_none (lone (pick (eqb (length s) at) (Some B.Empty) None)) ≡ or (not (eqb (length s) at)) false
  empty_exact = lone_exact (pick (eqb (length s) at) (Some B.Empty) None) ∙ where_sound (eqb (length s) at) B.Empty ∙ sym (or_none (not (eqb (length s) at)))

  items_exact : is_none (lone (pick (items_from (length s - at) (drop at s)) (Some (B.Information at (length s - at))) None)) ≡ or (not (items_from (length s - at) (drop at s))) false
  items_exact =
      lone_exact (pick (items_from (length s - at) (drop at s)) (Some (B.Information at (length s - at))) None)
      ∙ where_sound (items_from (length s - at) (drop at s)) (B.Information at (length s - at)) ∙ sym (or_none (not (items_from (length s - at) (drop at s))))

  u_exact : (m : ℕ) → is_none (u_body s at ads m response) ≡ badU m
  unfolding u_body empty_of items_of manage_of
  u_exact m = go (told (eqb m 1)) (told (eqb m 4)) (told (eqb m 10)) (told (eqb m 11)) where
    Told : ℕ → Type 0
    Told k = (eqb m k ≡ true) ⊎ (eqb m k ≡ false)

    go : Told 1 → Told 4 → Told 10 → Told 11 → is_none (u_body s at ads m response) ≡ badU m
    go (inl p) b c d = rw (eqb-true m 1 p) empty_exact
    go (inr p) (inl q) c d = rw (eqb-true m 4 q) empty_exact
    go (inr p) (inr q) (inl r) d = rw (eqb-true m 10 r) (manage_exact ads)
    go (inr p) (inr q) (inr r) (inl v) = rw (eqb-true m 11 v) items_exact
    go (inr p) (inr q) (inr r) (inr v) = rw (p, q, r, v)

-- a test told
abbrev Is : Bool → Type 0
Is b = (b ≡ true) ⊎ (b ≡ false)

module _ (s : List ℕ) (network : Bool) where
  abbrev b : ℕ
  b = get_or s 0 0

  abbrev c : ℕ
  c = get_or s 1 0

  abbrev m : ℕ
  m = c % 16

  abbrev resp : Bool
  resp = responds (flag 4 b) network

  -- a frame is there where what follows its header is
  framed_exact : (h : Head) (o : Option Managed) → is_none (framed h o) ≡ is_none o
  framed_exact h (Some m) = refl
  framed_exact h None = refl

  module _ (ads : Bool) (from to e : ℕ) where
    abbrev head : Kind → Head
    head k = record { kind = k; ads = ads; source = from; destination = to; end = e }

    abbrev short : Bool
    short = leb (length s - e) 1520

    -- a UI frame is malformed where it is too long
    ui_exact : (n : ℕ) → is_none (frame_by s (Some (head (K.Ui n)))) ≡ or (not short) false
    unfolding body_after body_by no_list
    ui_exact n = go (told short) where
      go : Is short → is_none (frame_by s (Some (head (K.Ui n)))) ≡ or (not short) false
      go (inl p) = rw p
      go (inr p) = rw p

    abbrev isS : Bool
    isS = and (not (ltb b 64)) (eqb (b / 16 % 2) 0)

    abbrev isU : Bool
    isU = and (not (ltb b 64)) (not (eqb (b / 16 % 2) 0))

    -- 4 to 14 of an I, S or U frame
    abbrev badRest : Bool
    badRest =
        any (and (or (ltb b 64) isS) (not (sacked c)) ∷ not short ∷ and isS (not (eqb (length s) e)) ∷ and isU (not (pick resp (answered m) (commanded m)))
        ∷ and (or (and isU (eqb m 1)) (and isU (eqb m 4))) (not (eqb (length s) e)) ∷ and (and isU (eqb m 11)) (not (items_from (length s - e) (drop e s)))
        ∷ and (and isU (eqb m 10)) ads ∷ and (and isU (eqb m 10)) (badInformation (drop e s) e resp) ∷ [])

    -- the frame whose kind is there
    abbrev kinded : Option Kind → Option Frame
    kinded (Some k) = frame_by s (Some (head k))
    kinded None = None

    abbrev Exact : Type 0
    Exact = is_none (kinded (kind_of b c network)) ≡ badRest

    i_exact : ltb b 64 ≡ true → Is short → Is (sacked c) → Exact
    unfolding body_after body_by no_list kind_of
    i_exact i (inl p) (inl q) = rw (i, q, p)
    i_exact i (inr p) (inl q) = rw (i, q, p)
    i_exact i (inl p) (inr q) = rw (i, q)
    i_exact i (inr p) (inr q) = rw (i, q)

    s_exact : ltb b 64 ≡ false → eqb (b / 16 % 2) 0 ≡ true → Is short → Is (sacked c) → Exact
    unfolding body_after body_by kind_of empty_of
    s_exact i z (inl p) (inl q) = rw (i, z, q, p) (framed_exact (head (K.S (flag 4 b) (c / 32) (c / 4 % 8))) (lone (pick (eqb (length s) e) (Some B.Empty) None)) ∙ empty_exact s e ads resp)
    s_exact i z (inr p) (inl q) = rw (i, z, q, p)
    s_exact i z (inl p) (inr q) = rw (i, z, q)
    s_exact i z (inr p) (inr q) = rw (i, z, q)

    u_frame_exact : ltb b 64 ≡ false → eqb (b / 16 % 2) 0 ≡ false → Is short → Is resp → Is (answered m) → Is (commanded m) → Exact
    unfolding body_after body_by kind_of u_kind
    u_frame_exact i z (inr p) (inl r) (inl q) v = rw (i, z, r, q, p)
    u_frame_exact i z (inr p) (inl r) (inr q) v = rw (i, z, r, q, p)
    u_frame_exact i z (inr p) (inr r) q (inl v) = rw (i, z, r, v, p)
    u_frame_exact i z (inr p) (inr r) q (inr v) = rw (i, z, r, v, p)
    u_frame_exact i z (inl p) (inl r) (inl q) v = rw (i, z, r, q, p) (framed_exact (head (K.U m true)) (u_body s e ads m true) ∙ u_exact s e ads true m)
    u_frame_exact i z (inl p) (inl r) (inr q) v = rw (i, z, r, q, p)
    u_frame_exact i z (inl p) (inr r) q (inl v) = rw (i, z, r, v, p) (framed_exact (head (K.U m false)) (u_body s e ads m false) ∙ u_exact s e ads false m)
    u_frame_exact i z (inl p) (inr r) q (inr v) = rw (i, z, r, v, p)

    rest_exact : Exact
    rest_exact = go (told (ltb b 64)) (told (eqb (b / 16 % 2) 0)) where
      go : Is (ltb b 64) → Is (eqb (b / 16 % 2) 0) → Exact
      go (inl i) z = i_exact i (told short) (told (sacked c))
      go (inr i) (inl z) = s_exact i z (told short) (told (sacked c))
      go (inr i) (inr z) = u_frame_exact i z (told short) (told resp) (told (answered m)) (told (commanded m))

  -- the frame with this kind, its header cut short or not
  with_ports : (k : Option Kind) → leb (length s) 2 ≡ false → frame_by s (headed s true k) ≡ kinded true (get_or s 2 0 / 16) (get_or s 2 0 % 16) 3 k
  unfolding ports_after
  with_ports (Some k) y = rw y
  with_ports None y = refl

  cut_ports : (k : Option Kind) → leb (length s) 2 ≡ true → frame_by s (headed s true k) ≡ None
  unfolding ports_after
  cut_ports (Some k) y = rw y
  cut_ports None y = refl

  without_ports : (k : Option Kind) → frame_by s (headed s false k) ≡ kinded false 0 0 2 k
  unfolding ports_after
  without_ports (Some k) = refl
  without_ports None = refl

  -- promise 1: 16 exactly where section 3 says
  pub refused_exactly : is_none (frame_of s network) ≡ malformed s network
  unfolding frame_of head_of ports_after malformed
  refused_exactly =
      go (told (eqb (length s) 0)) (told (leb 128 b)) (told (eqb (b / 32) 2)) (told (ltb (length s) 2)) (told (flag 8 b)) (told (leb (length s) 1)) (told (leb (length s) 2))
    where
      go : Is (eqb (length s) 0) → Is (leb 128 b) → Is (eqb (b / 32) 2) → Is (ltb (length s) 2) → Is (flag 8 b) → Is (leb (length s) 1) → Is (leb (length s) 2)
          → is_none (frame_of s network) ≡ malformed s network
      go (inl p) d u t a x y = rw p
      go (inr p) (inl d) u t a x y = rw (p, d)
      go (inr p) (inr d) (inl u) t (inl a) (inl x) y = rw (p, d, u, a, x)
      go (inr p) (inr d) (inl u) t (inl a) (inr x) y = rw (p, d, u, a, x) (ui_exact true (get_or s 1 0 / 16) (get_or s 1 0 % 16) 2 (b % 8))
      go (inr p) (inr d) (inl u) t (inr a) x y = rw (p, d, u, a) (ui_exact false 0 0 1 (b % 8))
      go (inr p) (inr d) (inr u) (inl t) a x y = rw (p, d, u, t)
      go (inr p) (inr d) (inr u) (inr t) (inl a) x (inl y) = rw (p, d, u, t, a, y) (ap is_none (cut_ports (kind_of b c network) y))
      go (inr p) (inr d) (inr u) (inr t) (inl a) x (inr y) = rw (p, d, u, t, a, y) (ap is_none (with_ports (kind_of b c network) y) ∙ rest_exact true (get_or s 2 0 / 16) (get_or s 2 0 % 16) 3)
      go (inr p) (inr d) (inr u) (inr t) (inr a) x y = rw (p, d, u, t, a) (ap is_none (without_ports (kind_of b c network)) ∙ rest_exact false 0 0 2)
