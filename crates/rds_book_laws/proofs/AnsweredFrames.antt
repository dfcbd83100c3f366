-- Promise 8, of one call: a command from the peer is answered by one frame, an ERROR command and a response by none. Assumes nothing.
use mathlib.Core.Path.{◌≡◌, refl, sym, ◌∙◌}
use mathlib.Core.List.{List, []}
use Rattle.std.specs.Prelude.{Option, Some, None}
use mathlib.Core.Bool.{Bool, true, false}
use mathlib.Core.Logic.{◌⊎◌, inl, inr}
use Prim.Native.Nat.{ℕ, ◌-◌, ◌%◌, ◌≤◌}
use native.Mathlib.Omega.{arith}
use lib.ListN.{length, get_or}
use lib.Dec.{ltb, leb, eqb}
use borrow.Author.Tests.{ltb-false, eqb-true}
use Rattle.base_lists.specs.Seq.{pick, put}
use Rattle.base_lists.proofs.StoresAndParts.{told, true_false}
use Rattle.base_octets.proofs.StoredAndRead.{get_same}
use Rattle.base_numbers.specs.declared.Refusal.TheVariants.{WrongSize}
use Rattle.rds_lists.specs.Sizes.{information_most}
use Rattle.rds_frame.specs.declared.Kind.{Kind}
use Rattle.rds_frame.specs.declared.Kind.TheVariants as K
use Rattle.rds_frame.specs.declared.Head.{Head}
use Rattle.rds_frame.specs.Frame.{head_of}
use Rattle.rds_body.specs.declared.Body.{Body}
use Rattle.rds_body.specs.declared.Body.TheVariants as B
use Rattle.rds_body.specs.declared.Managed.{Managed}
use Rattle.rds_body.specs.Body.{no_list, lone}
use Rattle.rds_reading.specs.declared.Frame.{Frame}
use Rattle.rds_reading.specs.Read.{empty_of, u_body, body_by, body_after, framed, frame_by, frame_of}
use Rattle.rds_book.specs.Book.{place_of, well_formed}
use Rattle.rds_rows.specs.declared.Row.{Row}
use Rattle.rds_rows.specs.declared.Row.TheVariants.{R14}
use Rattle.rds_rows.specs.Rows.{event_of, reserve_row, release_row, answer_row}
use Rattle.rds_turn.specs.declared.Turn.{Turn}
use Rattle.rds_turn.specs.Turn as T
use Rattle.rds_sending.specs.Sent.{answer_frame, error_frame}
use Rattle.rds_lent.specs.Left.{Left, refused, sending_least, lent_well}
use Rattle.rds_receiving.specs.Receiving.{reply_of, turn_words, turned, turn_in, receive_frame, from_peer, receive_of}
use Rattle.rds_book_laws.specs.AnsweredFrame.{is_command, commands, AnsweredFrame}
use Rattle.rds_book_laws.proofs.FrameFacts.{Each}
use Rattle.rds_book_laws.proofs.AnsweredOnce.{reserve_event, release_event, answer_event, answered_one, error_one}

-- a body without Action
abbrev Plain : Body → Type 0
Plain B.Empty = Unit
Plain (B.Information a l) = Unit
Plain (B.Asking n p d a l f) = ⊥
Plain (B.Answer n f t) = ⊥
Plain (B.Query n p) = ⊥
Plain (B.List n p c) = ⊥

-- an ERROR frame has such a body
abbrev ErrorPlain : Kind → Body → Type 0
ErrorPlain (K.I a ns nr r) body = Unit
ErrorPlain (K.S a nr r) body = Unit
ErrorPlain (K.Ui nu) body = Unit
ErrorPlain (K.U m response) body = eqb m 1 ≡ true → Plain body

kind_plain : (s : List ℕ) (at : ℕ) (ads : Bool) (k : Kind) → Each (λ (m : Managed). ErrorPlain k m.body) (body_by s at ads k)
unfolding body_by u_body no_list empty_of
kind_plain s at ads (K.I a ns nr r) = tt
kind_plain s at ads (K.S a nr r) = go (eqb (length s) at) where
  go : (x : Bool) → Each (λ (m : Managed). Unit) (lone (pick x (Some B.Empty) None))
  go true = tt
  go false = tt
kind_plain s at ads (K.Ui nu) = tt
kind_plain s at ads (K.U m response) = go (eqb m 1) refl (eqb (length s) at) _ where
  anything : (e : eqb m 1 ≡ false) (o : Option Managed) → Each (λ (x : Managed). eqb m 1 ≡ true → Plain x.body) o
  anything e (Some x) = λ f. true_false (sym f ∙ e)
  anything e None = tt

  go : (y : Bool) → eqb m 1 ≡ y → (x : Bool) (o : Option Managed) → Each (λ (x : Managed). eqb m 1 ≡ true → Plain x.body) (pick y (lone (pick x (Some B.Empty) None)) o)
  go true e true o = λ f. tt
  go true e false o = tt
  go false e x o = anything e o

framed_plain : (h : Head) (o : Option Managed) → Each (λ (m : Managed). ErrorPlain h.kind m.body) o → Each (λ (f : Frame). ErrorPlain f.head.kind f.body) (framed h o)
framed_plain h (Some m) p = p
framed_plain h None p = tt

frame_plain : (s : List ℕ) (network : Bool) → Each (λ (f : Frame). ErrorPlain f.head.kind f.body) (frame_of s network)
unfolding frame_of body_after
frame_plain s network = go (head_of s network) where
  by : (h : Head) (x : Bool) → Each (λ (m : Managed). ErrorPlain h.kind m.body) (pick x (body_by s h.end h.ads h.kind) None)
  by h true = kind_plain s h.end h.ads h.kind
  by h false = tt

  go : (h : Option Head) → Each (λ (f : Frame). ErrorPlain f.head.kind f.body) (frame_by s h)
  go (Some h) = framed_plain h (body_after s h) (by h (leb (length s - h.end) information_most))
  go None = tt

-- events 1 and 3 send a frame
abbrev sends : Turn → Bool
sends t = pick (eqb (event_of t.row) 1) true (eqb (event_of t.row) 3)

module _ (b app : List ℕ) where
  answering_sends : (row : Row) (action format d s start len : ℕ) → event_of row ≡ 1 → sends (T.answering row action format d s start len) ≡ true
  unfolding T.answering
  answering_sends row action format d s start len e = rw e refl

  reserved_event : (d s given : ℕ) (none : Bool) → event_of (T.reserved b app d s given none) ≡ 1
  unfolding T.reserved
  reserved_event d s given none = go (eqb d 0) where
    go : (x : Bool) → event_of (pick x (reserve_row false false false none) (reserve_row (T.repeats b app d s given none) true (T.taken b app d s) none)) ≡ 1
    go true = reserve_event false false false none
    go false = reserve_event (T.repeats b app d s given none) true (T.taken b app d s) none

  released_event : (d : ℕ) → event_of (T.released b app d) ≡ 1
  unfolding T.released
  released_event d = go (eqb d 0) where
    go : (x : Bool) → event_of (pick x (release_row false false) (release_row true (T.held b app d))) ≡ 1
    go true = release_event false false
    go false = release_event true (T.held b app d)

  asking_sends : (action s d start len offered : ℕ) → sends (T.asking_turn b app action s d start len offered) ≡ true
  unfolding T.asking_turn T.reserve_turn T.release_turn
  asking_sends action s d start len offered = go (eqb action 2) where
    go : (x : Bool) → sends (pick x (T.release_turn b app action s d start len) (T.reserve_turn b app action s d start len (T.given_format action offered (get_or b 1 0)))) ≡ true
    go true = answering_sends _ _ _ _ _ _ _ (released_event d)
    go false = answering_sends _ _ _ _ _ _ _ (reserved_event d s (T.given_format action offered (get_or b 1 0)) (T.wanting action (T.given_format action offered (get_or b 1 0))))

  plain_sends : (m : ℕ) → sends (T.plain_command m) ≡ pick (eqb m 1) false true
  unfolding T.plain_command T.unbuilt
  plain_sends m = go (eqb m 1) where
    go : (x : Bool) → sends (pick x T.quiet (T.unbuilt 0 m)) ≡ pick x false true
    go true = refl
    go false = refl

  -- a body with an Action is that of no ERROR command
  acting : (m : ℕ) (t : Turn) → sends t ≡ true → (eqb m 1 ≡ true → ⊥) → sends t ≡ pick (eqb m 1) false true
  acting m t e n = go (eqb m 1) refl where
    go : (x : Bool) → eqb m 1 ≡ x → sends t ≡ pick x false true
    go true q = absurd (n q)
    go false q = e

  command_sends : (m : ℕ) (body : Body) → (eqb m 1 ≡ true → Plain body) → sends (T.command_turn b app m body) ≡ pick (eqb m 1) false true
  unfolding T.command_turn T.unbuilt
  command_sends m B.Empty n = plain_sends m
  command_sends m (B.Information a l) n = plain_sends m
  command_sends m (B.Asking c s d start len o) n = acting m (T.asking_turn b app c s (d % 16) start len o) (asking_sends c s (d % 16) start len o) n
  command_sends m (B.Answer c g t) n = plain_sends m
  command_sends m (B.Query c p) n = acting m (T.unbuilt c m) refl n
  command_sends m (B.List c p i) n = acting m (T.unbuilt c m) refl n

  told_none : (row : Row) (status format : ℕ) (changed : Bool) → event_of row ≡ 2 → sends (T.told b row status format changed) ≡ false
  unfolding T.told
  told_none row status format changed e = rw e refl

  answer_none : (action format status : ℕ) → sends (T.answer_turn b action format status) ≡ false
  unfolding T.answer_turn
  answer_none action format status = go (eqb (place_of b 0).tag 0) (eqb (place_of b 0).tag action) where
    row : Row
    row = answer_row (eqb action 2) status

    go : (x y : Bool) → sends (pick x T.quiet (pick y (T.told b row status format (T.changes row (T.own_reserved b))) T.quiet)) ≡ false
    go true y = refl
    go false true = told_none row status format _ (answer_event (eqb action 2) status)
    go false false = refl

  error_none : (ads : Bool) → sends (T.error_turn b ads) ≡ false
  unfolding T.error_turn
  error_none true = refl
  error_none false = go (eqb (place_of b 0).tag 0) where
    go : (x : Bool) → sends (pick x T.quiet (T.told b R14 256 0 false)) ≡ false
    go true = refl
    go false = told_none R14 256 0 false refl

  plain_none : (ads : Bool) (m : ℕ) → sends (T.plain_response b ads m) ≡ false
  unfolding T.plain_response
  plain_none ads m = go (eqb m 1) where
    go : (x : Bool) → sends (pick x (T.error_turn b ads) T.quiet) ≡ false
    go true = error_none ads
    go false = refl

  response_none : (ads : Bool) (m : ℕ) (body : Body) → sends (T.response_turn b ads m body) ≡ false
  unfolding T.response_turn
  response_none ads m B.Empty = plain_none ads m
  response_none ads m (B.Information a l) = plain_none ads m
  response_none ads m (B.Asking c s d start len o) = plain_none ads m
  response_none ads m (B.Answer c g t) = answer_none c g t
  response_none ads m (B.Query c p) = plain_none ads m
  response_none ads m (B.List c p i) = plain_none ads m

  -- a frame is sent exactly for a command
  turn_sends : (ads : Bool) (body : Body) (k : Kind) → ErrorPlain k body → sends (T.turn_by b app ads body k) ≡ is_command k
  unfolding T.turn_by
  turn_sends ads body (K.I a ns nr r) n = refl
  turn_sends ads body (K.S a nr r) n = refl
  turn_sends ads body (K.Ui nu) n = refl
  turn_sends ads body (K.U m true) n = response_none ads m body
  turn_sends ads body (K.U m false) n = command_sends m body n

  sent_one : (t : Turn) (h : Head) → sends t ≡ true → 2 ≤ length (reply_of b t h)
  sent_one t h e = go (told (eqb (event_of t.row) 1)) where
    go : (eqb (event_of t.row) 1 ≡ true) ⊎ (eqb (event_of t.row) 1 ≡ false) → 2 ≤ length (reply_of b t h)
    go (inl x) = answered_one b h t (eqb-true _ _ x)
    go (inr x) = error_one b h t (eqb-true _ _ (rw x at e))

  sent_none : (t : Turn) (h : Head) → sends t ≡ false → length (reply_of b t h) ≡ 0
  unfolding reply_of
  sent_none t h = go (eqb (event_of t.row) 1) (eqb (event_of t.row) 3) where
    go : (x y : Bool) → pick x true y ≡ false → length (pick x (answer_frame b t.action t.format t.status) (pick y (error_frame b h.ads h.source h.destination) [])) ≡ 0
    go true y e = true_false e
    go false true e = true_false e
    go false false e = refl

-- an answer that is lent well has its 16 words
pub answer_long : (b o a : List ℕ) → lent_well b o a ≡ true → 16 ≤ length a
unfolding lent_well
answer_long b o a w = go (ltb (length a) 16) refl w where
  go : (x : Bool) → ltb (length a) 16 ≡ x → pick x false (pick (ltb (length o) sending_least) false (well_formed b)) ≡ true → 16 ≤ length a
  go true e k = true_false (sym k)
  go false e k = ltb-false (length a) 16 e

module _ (b o a s : List ℕ) where
  -- what an accepted call answers
  abbrev Sent : Option Frame → Left → Type 0
  Sent f x = x.number ≡ 0 → (commands f ≡ true → 2 ≤ get_or x.answer 0 0) × (commands f ≡ false → get_or x.answer 0 0 ≡ 0)

  took : (f : Frame) → ErrorPlain f.head.kind f.body → 16 ≤ length a → Sent (Some f) (turned b o a (T.application_of s f.body) f.head (turn_in b s f))
  unfolding turned turn_words
  took f plain l z =
      let t = turn_in b s f in
      let n = length (reply_of b t f.head) in
      let sent : sends t ≡ is_command f.head.kind = turn_sends b (T.application_of s f.body) f.head.ads f.body f.head.kind plain in
      let first : get_or (put a 0 (turn_words n t)) 0 0 ≡ n = get_same (turn_words n t) a 0 0 l (omega arith) in
      (λ e. rw first (sent_one b (T.application_of s f.body) t f.head (sent ∙ e)), λ e. first ∙ sent_none b (T.application_of s f.body) t f.head (sent ∙ e))

  received : Sent (frame_of s (from_peer b)) (receive_of b o a s)
  unfolding receive_of receive_frame
  received = go (lent_well b o a) refl (frame_of s (from_peer b)) (frame_plain s (from_peer b)) where
    go : (x : Bool) → lent_well b o a ≡ x → (f : Option Frame) → Each (λ (f : Frame). ErrorPlain f.head.kind f.body) f → Sent f (pick x (receive_frame b o a s f) (refused WrongSize b o a))
    go true w (Some f) p = took f p (answer_long b o a w)
    go true w None p = λ z. absurd (omega (arith, z))
    go false w f p = λ z. absurd (omega (arith, z))

  -- PROMISE 8, of one call
  pub answered_frame : AnsweredFrame b o a s
  answered_frame = record { one = λ z. (received z).0; none = λ z. (received z).1 }
