-- Promise 4: what was read is written again with its spare bits cleared, and those alone. Assumes nothing.
use Prim.Native.Nat.{ℕ, ◌+◌, ◌-◌, ◌*◌, ◌/◌, ◌%◌, ◌<◌, ◌≤◌}
use native.Mathlib.Omega.{arith}
use mathlib.Core.Path.{◌≡◌, refl, sym, ap, ◌∙◌}
use mathlib.Core.List.{List, ◌∷◌, ◌++◌}
use mathlib.Core.Bool.{Bool, true, false}
use lib.ListN.{length, get_or, take, drop, replicate, length-replicate}
use lib.Seq.{drop-drop, get_or-drop}
use lib.Dec.{ltb, eqb}
use borrow.Author.Tests.{eqb-true}
use Rattle.base_lists.specs.Seq.{pick, bit}
use Rattle.rds_frame.specs.declared.Kind.{Kind}
use Rattle.rds_frame.specs.declared.Kind.TheVariants as K
use Rattle.rds_frame.specs.declared.Head.{Head}
use Rattle.rds_entries.specs.declared.Entries.{Entries}
use Rattle.rds_entries.specs.Entries.{no_entry, walk_from}
use Rattle.rds_entries.proofs.Walked.{walk_inside}
use Rattle.rds_parameters.specs.Parameters.{items_from}
use Rattle.rds_body.specs.declared.Body.TheVariants as B
use Rattle.rds_body.specs.declared.Form.{Form}
use Rattle.rds_body.specs.declared.Form.TheVariants as F
use Rattle.rds_body.specs.declared.Managed.{Managed}
use Rattle.std.specs.Prelude.{Option, Some, None, is_some}
use Rattle.std.specs.Option.{unwrap_or}
use Rattle.rds_body.specs.Body.{form_of, bitmap_of, optional_of, asking_of, answer_of, query_of, no_list, lone, list_by, list_after, list_of, managed_by, managed_of}
use Rattle.rds_reading.specs.declared.Frame.{Frame}
use Rattle.rds_reading.specs.Read.{empty_of, items_of, manage_of, u_body, body_by, frame_of}
use Rattle.rds_pieces.specs.Octets.{bitmap_octets, list_pieces, pieces_of}
use Rattle.rds_encoding.specs.Encoding.{head_octets, entries_octets, pieces_octets, octets_of}
use Rattle.rds_said.specs.Said.{frame_said}
use Rattle.rds_back.specs.Spare.{cleared_ports, cleared_entries, cleared_form, cleared_by, cleared_manage, cleared_body, cleared_after, cleared}
use Rattle.rds_again.specs.Again.{unended, Said}
use Rattle.rds_again.proofs.Plain.{Each, each_at}
use Rattle.rds_reading.proofs.Parts.{same_frames, parts_of}
use Rattle.rds_words.specs.Words.{words_of}
use Rattle.rds_cleared.specs.Cleared.{cleared_head}
use Rattle.rds_body.specs.declared.Body.{Body}
use Rattle.rds_again.proofs.Accepted.{short_body, head_was, words_say}
use Rattle.rds_back.proofs.Bodies.{information_again, empty_again, none_cleared, ports_again, answer_again, query_again, asking_again}
use Rattle.rds_back.proofs.Entries.{walk_cleared}

-- the octets of a body and its entries
abbrev octets : List ℕ → Managed → List ℕ
octets s m = pieces_octets s m.list (pieces_of m.body)

module _ (s : List ℕ) (octet : (i : ℕ) → get_or s i 0 < 256) (at : ℕ) where
  abbrev t : List ℕ
  t = drop at s

  octet_t : (i : ℕ) → get_or t i 0 < 256
  octet_t i = rw (get_or-drop at s i 0) (octet (at + i))

  abbrev a : ℕ
  a = get_or t 0 0 % 16

  abbrev n : ℕ
  n = get_or t 0 0 / 16

  abbrev f : Bool
  f = ltb 5 a

  abbrev walk : Option Entries
  walk = walk_from n 0 f (at + 1) (drop 1 t) (replicate 15 no_entry)

  n15 : n ≤ 15
  n15 = omega (arith, octet_t 0)

  module _ (R : Entries) (got : walk ≡ Some R) where
    -- what follows the entries
    abbrev u : List ℕ
    u = drop (R.end - at) t

    octet_u : (i : ℕ) → get_or u i 0 < 256
    octet_u i = rw (get_or-drop (R.end - at) t i 0) (octet_t (R.end - at + i))

    entries_cleared : entries_octets s f (take n R.list) ++ cleared_ports u ≡ cleared_entries n f (drop 1 t)
    entries_cleared =
        let ends : at + 1 ≤ R.end = (walk_inside n 0 f (at + 1) (drop 1 t) (replicate 15 no_entry) R got).0 in
        let far : 1 + (R.end - (at + 1)) ≡ R.end - at = omega (arith, ends) in
        let same : u ≡ drop (R.end - (at + 1)) (drop 1 t) = sym (drop-drop (R.end - (at + 1)) 1 t ∙ ap (λ (i : ℕ). drop i t) far) in
        ap (λ (y : List ℕ). entries_octets s f (take n R.list) ++ cleared_ports y) same
        ∙ walk_cleared s octet f n 0 (at + 1) (drop 1 t) (replicate 15 no_entry) R (drop-drop 1 at s) (omega (arith, n15, length-replicate 15 no_entry)) got

    list_octets : (ports : Option ℕ) → take (2 * bit (is_some ports)) (bitmap_octets (unwrap_or ports 0)) ≡ cleared_ports u → pieces_octets s R.list (list_pieces a ports n) ≡ get_or t 0 0 ∷ cleared_entries n f (drop 1 t)
    unfolding list_pieces pieces_octets
    list_octets ports e =
        let first : n % 16 * 16 + a % 16 ≡ get_or t 0 0 = omega (arith, octet_t 0) in
        let z : n % 16 ≡ n = omega (arith, n15) in
        (λ i. first i ∷ (entries_octets s f (take (z i) R.list) ++ e i)) ∙ ap (λ (y : List ℕ). get_or t 0 0 ∷ y) entries_cleared

    by_ports : (b0 : Bool) → eqb (length u) 0 ≡ b0 → (b2 : Bool) → eqb (length u) 2 ≡ b2
        → Each (λ (m : Managed). octets s m ≡ get_or t 0 0 ∷ cleared_entries n f (drop 1 t)) (list_by a n R.list (pick b0 (Some None) (pick b2 (Some (Some (bitmap_of u))) None)))
    unfolding pieces_of
    by_ports true q b2 r = list_octets None (none_cleared u (eqb-true (length u) 0 q))
    by_ports false q true r = list_octets (Some (bitmap_of u)) (ports_again s R.list u octet_u (eqb-true (length u) 2 r))
    by_ports false q false r = tt

  list_cleared : Each (λ (m : Managed). octets s m ≡ cleared_form a F.List t) (list_of t at a)
  unfolding list_of optional_of pieces_of cleared_form
  list_cleared = go walk refl where
    go : (w : Option Entries) → walk ≡ w → Each (λ (m : Managed). octets s m ≡ get_or t 0 0 ∷ cleared_entries n f (drop 1 t)) (list_after t at a w)
    go None p = tt
    go (Some R) p = by_ports R p (eqb (length (u R p)) 0) refl (eqb (length (u R p)) 2) refl

  -- what holds of a body holds of it without a list
  lone_each : (P : Managed → Type 0) (o : Option Body) → Each (λ (b : Body). P (no_list b)) o → Each P (lone o)
  lone_each P (Some b) h = h
  lone_each P None h = tt

  manage_cleared : (response : Bool) → Each (λ (m : Managed). octets s m ≡ cleared_manage response t) (managed_of t at response)
  unfolding managed_of no_list
  manage_cleared response = go (eqb (length t) 0) (form_of a response) where
    go : (b : Bool) (form : Option Form) → Each (λ (m : Managed). octets s m ≡ cleared_by a form t) (pick b None (managed_by t at a form))
    go true form = tt
    go false (Some F.Asking) = lone_each (λ (m : Managed). octets s m ≡ cleared_form a F.Asking t) (asking_of t at a) (asking_again s (replicate 15 no_entry) at t refl octet_t a refl)
    go false (Some F.Answer) = lone_each (λ (m : Managed). octets s m ≡ cleared_form a F.Answer t) (answer_of t a) (answer_again s (replicate 15 no_entry) t a refl)
    go false (Some F.Query) = lone_each (λ (m : Managed). octets s m ≡ cleared_form a F.Query t) (query_of t a) (query_again s (replicate 15 no_entry) t a refl octet_t)
    go false (Some F.List) = list_cleared
    go false None = tt

  empty_cleared : Each (λ (m : Managed). octets s m ≡ t) (lone (empty_of (length s) at))
  unfolding empty_of no_list
  empty_cleared = go (eqb (length s) at) refl where
    go : (b : Bool) → eqb (length s) at ≡ b → Each (λ (m : Managed). octets s m ≡ t) (lone (pick b (Some B.Empty) None))
    go true p = empty_again s (replicate 15 no_entry) at (eqb-true (length s) at p)
    go false p = tt

  items_cleared : Each (λ (m : Managed). octets s m ≡ t) (lone (items_of s at))
  unfolding items_of no_list
  items_cleared = go (items_from (length s - at) (drop at s)) where
    go : (b : Bool) → Each (λ (m : Managed). octets s m ≡ t) (lone (pick b (Some (B.Information at (length s - at))) None))
    go true = information_again s (replicate 15 no_entry) at
    go false = tt

  u_cleared : (m : ℕ) (response ads : Bool) → Each (λ (x : Managed). octets s x ≡ pick (eqb m 10) (cleared_manage response t) t) (u_body s at ads m response)
  unfolding u_body no_list manage_of
  u_cleared m response ads = go (eqb m 1) refl (eqb m 4) refl (eqb m 10) refl (eqb m 11) ads where
    body : Bool → Bool → Bool → Bool → Bool → Option Managed
    body b1 b4 b10 b11 ads = pick b1 (lone (empty_of (length s) at)) (pick b4 (lone (empty_of (length s) at)) (pick b10 (pick ads None (managed_of t at response)) (pick b11 (lone (items_of s at)) (Some (no_list (B.Information at (length s - at)))))))

    other : (x : ℕ) → eqb m x ≡ true → eqb x 10 ≡ false → (b10 : Bool) → eqb m 10 ≡ b10 → b10 ≡ false
    other x p differs b10 q = sym q ∙ ap (λ (z : ℕ). eqb z 10) (eqb-true m x p) ∙ differs

    go : (b1 : Bool) → eqb m 1 ≡ b1 → (b4 : Bool) → eqb m 4 ≡ b4 → (b10 : Bool) → eqb m 10 ≡ b10 → (b11 ads : Bool) → Each (λ (x : Managed). octets s x ≡ pick b10 (cleared_manage response t) t) (body b1 b4 b10 b11 ads)
    go true p1 b4 p4 b10 p10 b11 ads = rw (other 1 p1 refl b10 p10) empty_cleared
    go false p1 true p4 b10 p10 b11 ads = rw (other 4 p4 refl b10 p10) empty_cleared
    go false p1 false p4 true p10 b11 true = tt
    go false p1 false p4 true p10 b11 false = manage_cleared response
    go false p1 false p4 false p10 true ads = items_cleared
    go false p1 false p4 false p10 false ads = information_again s (replicate 15 no_entry) at

  body_cleared : (ads : Bool) (k : Kind) → Each (λ (m : Managed). octets s m ≡ cleared_body k t) (body_by s at ads k)
  unfolding body_by no_list cleared_body
  body_cleared ads (K.I a ns nr r) = information_again s (replicate 15 no_entry) at
  body_cleared ads (K.S a nr r) = empty_cleared
  body_cleared ads (K.Ui nu) = information_again s (replicate 15 no_entry) at
  body_cleared ads (K.U m response) = u_cleared m response ads

-- promise 4, of the frame g that was read in s, and the frame that its words say
module _ (s : List ℕ) (network : Bool) (octet : (i : ℕ) → get_or s i 0 < 256) (g : Frame) (sound : frame_of s network ≡ Some g) where
  same_octets : octets_of s (unended g) network ≡ cleared_head g.head.kind (take g.head.end s) ++ cleared_body g.head.kind (drop g.head.end s)
  unfolding octets_of head_octets
  same_octets =
      let m : Managed = record { body = g.body; list = g.list } in
      let rest = each_at (λ (m : Managed). octets s m ≡ cleared_body g.head.kind (drop g.head.end s)) (body_by s g.head.end g.head.ads g.head.kind) m (short_body s network octet g sound).1 (body_cleared s octet g.head.end g.head.ads g.head.kind) in
      λ i. (head_was s network octet g sound).octets i ++ rest i

  -- the words say a frame, and what they say is written as the frame that was read, with its spare bits cleared
  pub read_written : Said g × ((f : Frame) → frame_said (words_of g) ≡ Some f → octets_of s f network ≡ cleared s network)
  unfolding cleared
  read_written = (words_say s network octet g sound, written) where
    written : (f : Frame) → frame_said (words_of g) ≡ Some f → octets_of s f network ≡ cleared s network
    written f said =
        ap (λ (x : Frame). octets_of s x network) (same_frames f (unended g) (sym said ∙ words_say s network octet g sound))
        ∙ same_octets ∙ ap (λ (h : Option Head). cleared_after h s) (sym (parts_of s network g sound).heads)
