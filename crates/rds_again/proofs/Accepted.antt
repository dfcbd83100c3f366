-- The words of every sound frame are accepted again, with the frame itself as the lent octets; they say that frame. Assumes nothing.
use Prim.Native.Nat.{ℕ, ◌-◌, ◌%◌, ◌<◌, ◌≤◌}
use native.Mathlib.Omega.{arith}
use mathlib.Core.Path.{◌≡◌, refl, sym, ap, ◌∙◌}
use mathlib.Core.List.{List, ◌++◌}
use Rattle.std.specs.Prelude.{Option, Some, None}
use Rattle.std.proofs.lemmas.Option.{none-some}
use Rattle.rds_entries.specs.declared.Entry.{Entry}
use Rattle.rds_reading.proofs.Parts.{Parts, parts_of}
use mathlib.Core.Bool.{Bool, true, false}
use lib.ListN.{length, get_or, drop, length-drop}
use lib.Dec.{leb, eqb}
use borrow.Author.Tests.{eqb-true, leb-true, le-leb, eq-eqb}
use Rattle.base_lists.specs.Seq.{pick, bit}
use Rattle.base_lists.proofs.StoresAndParts.{true_false, every_all}
use Rattle.rds_frame.specs.declared.Kind.{Kind}
use Rattle.rds_frame.specs.declared.Kind.TheVariants as K
use Rattle.rds_frame.specs.declared.Head.{Head}
use Rattle.rds_frame.proofs.Inside.{head_inside}
use Rattle.rds_parameters.specs.Parameters.{items_from}
use Rattle.rds_body.specs.declared.Body.TheVariants as B
use Rattle.rds_body.specs.declared.Form.{Form}
use Rattle.rds_body.specs.declared.Form.TheVariants as F
use Rattle.rds_body.specs.declared.Managed.{Managed}
use Rattle.rds_body.specs.Body.{form_of, no_list, lone, managed_by, managed_of}
use Rattle.rds_reading.specs.declared.Frame.{Frame}
use Rattle.rds_reading.specs.Read.{empty_of, items_of, manage_of, u_body, body_by, body_after, frame_of}
use Rattle.rds_words.specs.Words.{head_words, body_words, list_words, words_of}
use Rattle.rds_said.specs.Said.{head_said, u_said, frame_with, frame_after, frame_said}
use Rattle.rds_writing.specs.Write.{same_words, size_of, accepts}
use Rattle.rds_again.specs.Again.{unended, Said, Accepted}
use Rattle.rds_written.proofs.Headers.{head}
use Rattle.rds_cleared.proofs.Headers.{head_said_holds}
use Rattle.rds_cleared.proofs.Heads.{HeadKept, head_kept}
use Rattle.rds_again.proofs.Plain.{words_by, Each, each_at, Kept, i_kept, ui_kept, s_kept, u_empty, u_information, asking_read, answer_read, query_read}
use Rattle.rds_again.proofs.Lists.{list_read}

module _ (s : List ℕ) (octet : (i : ℕ) → get_or s i 0 < 256) (end : ℕ) (within : end ≤ length s) (short : length s - end ≤ 1520) (e p d : ℕ) where
  -- S, ERROR and DISCONNECT
  empty_read : (P : Managed → Type 0) → P (no_list B.Empty) → Each P (lone (empty_of (length s) end))
  unfolding empty_of
  empty_read P h = go (eqb (length s) end) where
    go : (b : Bool) → Each P (lone (pick b (Some B.Empty) None))
    go true = h
    go false = tt

  -- SET_PARAMETERS
  items_read : (P : Managed → Type 0) → (items_from (length s - end) (drop end s) ≡ true → P (no_list (B.Information end (length s - end)))) → Each P (lone (items_of s end))
  unfolding items_of
  items_read P h = go (items_from (length s - end) (drop end s)) h where
    go : (b : Bool) → (b ≡ true → P (no_list (B.Information end (length s - end)))) → Each P (lone (pick b (Some (B.Information end (length s - end))) None))
    go true h = h refl
    go false h = tt

  manage_read : (response : Bool) → Each (Kept s (K.U 10 response) false e p d) (managed_of (drop end s) end response)
  unfolding managed_of
  manage_read response = go (eqb (length (drop end s)) 0) (form_of a response) refl where
    a : ℕ
    a = get_or (drop end s) 0 0 % 16

    ha : a < 16
    ha = omega arith

    go : (b : Bool) (form : Option Form) → form_of a response ≡ form → Each (Kept s (K.U 10 response) false e p d) (pick b None (managed_by (drop end s) end a form))
    go true form q = tt
    go false (Some F.Asking) q = asking_read s octet end e p d response (drop end s) refl a ha q
    go false (Some F.Answer) q = answer_read s octet end e p d response (drop end s) refl a ha q
    go false (Some F.Query) q = query_read s octet end e p d response (drop end s) refl a ha q
    go false (Some F.List) q = list_read s e p d response a ha q octet end (drop end s) refl (omega (arith, length-drop end s, short))
    go false None q = tt

  first : (w : List ℕ) (m : ℕ) (response ads : Bool) → eqb m 1 ≡ true → u_said w m response ads ≡ Some B.Empty
  unfolding u_said
  first w m response ads q = rw q refl

  second : (w : List ℕ) (m : ℕ) (response ads : Bool) → eqb m 1 ≡ false → eqb m 4 ≡ true → u_said w m response ads ≡ Some B.Empty
  unfolding u_said
  second w m response ads q r = rw (q, r) refl

  u_read : (m : ℕ) (response ads : Bool) → Each (Kept s (K.U m response) ads e p d) (u_body s end ads m response)
  unfolding u_body manage_of
  u_read m response ads = go (eqb m 1) refl (eqb m 4) refl (eqb m 10) refl (eqb m 11) refl ads where
    body : Bool → Bool → Bool → Bool → Bool → Option Managed
    body b1 b4 b10 b11 ads = pick b1 (lone (empty_of (length s) end)) (pick b4 (lone (empty_of (length s) end)) (pick b10 (pick ads None (managed_of (drop end s) end response)) (pick b11 (lone (items_of s end)) (Some (no_list (B.Information end (length s - end)))))))

    go : (b1 : Bool) → eqb m 1 ≡ b1 → (b4 : Bool) → eqb m 4 ≡ b4 → (b10 : Bool) → eqb m 10 ≡ b10 → (b11 : Bool) → eqb m 11 ≡ b11 → (ads : Bool)
        → Each (Kept s (K.U m response) ads e p d) (body b1 b4 b10 b11 ads)
    go true q1 b4 q4 b10 q10 b11 q11 ads = empty_read (Kept s (K.U m response) ads e p d) (u_empty s end within short e p d ads m response (first _ m response ads q1))
    go false q1 true q4 b10 q10 b11 q11 ads = empty_read (Kept s (K.U m response) ads e p d) (u_empty s end within short e p d ads m response (second _ m response ads q1 q4))
    go false q1 false q4 true q10 b11 q11 true = tt
    go false q1 false q4 true q10 b11 q11 false = rw (eqb-true m 10 q10) (manage_read response)
    go false q1 false q4 false q10 true q11 ads = items_read (Kept s (K.U m response) ads e p d) (λ k. u_information s end within short e p d ads m response q1 q4 q10 (λ z. k))
    go false q1 false q4 false q10 false q11 ads = u_information s end within short e p d ads m response q1 q4 q10 (λ z. true_false (sym z ∙ q11))

  -- the body of a frame, by its kind
  body_read : (ads : Bool) (k : Kind) → Each (Kept s k ads e p d) (body_by s end ads k)
  unfolding body_by
  body_read ads (K.I a ns nr r) = i_kept s end within short e p d ads a ns nr r
  body_read ads (K.S a nr r) = empty_read (Kept s (K.S a nr r) ads e p d) (s_kept s end within short e p d ads a nr r)
  body_read ads (K.Ui nu) = ui_kept s end within short e p d ads nu
  body_read ads (K.U m response) = u_read m response ads

module _ (s : List ℕ) (network : Bool) (octet : (i : ℕ) → get_or s i 0 < 256) (G : Frame) (sound : frame_of s network ≡ Some G) where
  abbrev h : Head
  h = G.head

  -- the body of G and its entries
  abbrev M : Managed
  M = record { body = G.body; list = G.list }

  parts : Parts s network G
  parts = parts_of s network G sound

  -- a sound frame is not too long, and its body is that of its kind
  pub short_body : (length s - h.end ≤ 1520) × (body_by s h.end h.ads h.kind ≡ Some M)
  unfolding body_after
  short_body = go (leb (length s - h.end) 1520) refl parts.bodies where
    go : (b : Bool) → leb (length s - h.end) 1520 ≡ b → pick b (body_by s h.end h.ads h.kind) None ≡ Some M → (length s - h.end ≤ 1520) × (body_by s h.end h.ads h.kind ≡ Some M)
    go true p q = (leb-true (length s - h.end) 1520 p, q)
    go false p q = absurd (none-some M q)

  pub head_was : HeadKept s network h
  head_was = head_kept s network octet h parts.heads

  pub kept : Kept s h.kind h.ads (bit h.ads) h.source h.destination M
  kept =
      each_at (Kept s h.kind h.ads (bit h.ads) h.source h.destination) (body_by s h.end h.ads h.kind) M short_body.1
      (body_read s octet h.end (head_inside s h network parts.heads).0 short_body.0 (bit h.ads) h.source h.destination h.ads h.kind)

  -- the words of a frame say that frame
  pub words_say : Said G
  unfolding frame_said words_of head_words
  words_say =
      let w : List ℕ = words_by h.kind (bit h.ads) h.source h.destination M in
      let t : Head = head h.kind h.ads h.source h.destination 0 in
      let hs : head_said w ≡ Some t = head_said_holds h.kind h.ads h.source h.destination head_was.narrow_kind head_was.narrow_head (body_words G.body ++ list_words G.list) in
      ap (frame_after w) hs ∙ ap (frame_with w t) kept.said ∙ ap (λ (l : List Entry). Some (record { head = t; body = G.body; list = l })) kept.listed

  same_words_holds : same_words (words_of G) (unended G) ≡ true
  unfolding same_words words_of head_words
  same_words_holds = every_all (λ i. eqb (get_or (words_of (unended G)) i 0) (get_or (words_of G) i 0)) 100 (λ i l. eq-eqb (get_or (words_of (unended G)) i 0) (get_or (words_of G) i 0) refl)

  -- and are accepted
  pub read_accepted : Accepted s G
  unfolding accepts
  read_accepted = (words_say, rw same_words_holds (le-leb (size_of s (unended G)) 1520 kept.small))
