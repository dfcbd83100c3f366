-- Section 3 of RDS.md: the fourteen ways in which a frame is malformed, each on its own. `network`: the network sent the frame.
use Rattle.std.specs.Prelude.{ℕ, ◌+◌, ◌-◌, ◌/◌, ◌%◌, List, [], ◌∷◌, Bool, true, false, length, get_or, drop, replicate, ltb, leb, eqb, Option, Some, None, is_none}
use Rattle.rds_lists.specs.Sizes.{information_most}
use Rattle.base_lists.specs.Seq.{pick}
use Rattle.rds_frame.specs.Frame.{flag, sacked, responds, answered, commanded}
use Rattle.rds_parameters.specs.Parameters.{items_from}
use Rattle.rds_entries.specs.declared.Entries.{Entries}
use Rattle.rds_entries.specs.Entries.{application_length, walk_from, no_entry}
use Rattle.rds_body.specs.declared.Form.{Form}
use Rattle.rds_body.specs.declared.Form.TheVariants as F
use Rattle.rds_body.specs.Body.{form_of}

abbrev pub not : Bool → Bool
not a = pick a false true

abbrev pub and : Bool → Bool → Bool
and a b = pick a b false

abbrev pub or : Bool → Bool → Bool
or a b = pick a true b

-- one of them holds
abbrev pub any : List Bool → Bool
any [] = false
any (b ∷ l) = or b (any l)

module _ (s : List ℕ) where
  abbrev pub first : ℕ
  first = get_or s 0 0

  abbrev pub second : ℕ
  second = get_or s 1 0

  -- section 1: what the first octet says of a frame with PD 0
  abbrev pub isUi : Bool
  isUi = eqb (first / 32) 2

  abbrev pub isI : Bool
  isI = and (not isUi) (ltb first 64)

  abbrev pub isS : Bool
  isS = and (not isUi) (and (not (ltb first 64)) (eqb (first / 16 % 2) 0))

  abbrev pub isU : Bool
  isU = and (not isUi) (and (not (ltb first 64)) (not (eqb (first / 16 % 2) 0)))

  abbrev pub hasPorts : Bool
  hasPorts = flag 8 first

  -- octets 1 and 2; a UI frame "has no second octet"
  abbrev pub fixed : ℕ
  fixed = pick isUi 1 2

  -- the header, with its ports octet
  abbrev pub header_length : ℕ
  header_length = pick hasPorts (fixed + 1) fixed

  abbrev pub bare : Bool
  bare = eqb (length s) header_length

  abbrev pub information : List ℕ
  information = drop header_length s

  -- section 1: M of a U frame
  abbrev pub hasM : ℕ → Bool
  hasM m = and isU (eqb (second % 16) m)

  abbrev pub isResponse : Bool → Bool
  isResponse network = responds (flag 4 first) network

  -- 1. no octet
  abbrev pub malformed1 : Bool
  malformed1 = eqb (length s) 0

  -- 2. PD 1
  abbrev pub malformed2 : Bool
  malformed2 = leb 128 first

  -- 3. the header cut short: I, S, U without octet 2; ADS 1 without the ports octet
  abbrev pub malformed3 : Bool
  malformed3 = or (and (not isUi) (ltb (length s) 2)) (and hasPorts (leb (length s) fixed))

  -- 4. S1 S2 other than 1 1
  abbrev pub malformed4 : Bool
  malformed4 = and (or isI isS) (not (sacked second))

  -- 5. an information field over 1,520 octets
  abbrev pub malformed5 : Bool
  malformed5 = not (leb (length s - header_length) information_most)

  -- 6. an S frame with information
  abbrev pub malformed6 : Bool
  malformed6 = and isS (not bare)

  -- 7. a U frame whose M and direction are not in the table
  abbrev pub malformed7 : Bool → Bool
  malformed7 network = and isU (not (pick (isResponse network) (answered (second % 16)) (commanded (second % 16))))

  -- 8. ERROR or DISCONNECT with information
  abbrev pub malformed8 : Bool
  malformed8 = and (or (hasM 1) (hasM 4)) (not bare)

  -- 9. SET_PARAMETERS: an item cut short, or Type 0 with Length other than 1
  abbrev pub malformed9 : Bool
  malformed9 = and (hasM 11) (not (items_from (length s - header_length) information))

  -- 10. MANAGE_PORT with ADS 1
  abbrev pub malformed10 : Bool
  malformed10 = and (hasM 10) hasPorts

-- the information field t of MANAGE_PORT, whose place in the frame is `at`
module _ (t : List ℕ) (at : ℕ) where
  abbrev pub action : ℕ
  action = get_or t 0 0 % 16

  -- section 2: how the Action's body is laid out
  abbrev pub form : Bool → Option Form
  form response = form_of action response

  abbrev pub isWrong : Option Form → Bool
  isWrong (Some F.Asking) = false
  isWrong (Some F.Answer) = false
  isWrong (Some F.Query) = false
  isWrong (Some F.List) = false
  isWrong None = true

  -- the octets of a Reserve or Release command, with its Application ID and with Action 5 a format
  abbrev pub askingLength : ℕ
  askingLength = pick (eqb action 5) (2 + application_length (drop 2 t) + 1) (2 + application_length (drop 2 t))

  -- the octets of a Reserve or Release response; its Status is the last
  abbrev pub answerLength : ℕ
  answerLength = pick (eqb action 5) 3 2

  abbrev pub status : ℕ
  status = pick (eqb action 5) (get_or t 2 0) (get_or t 1 0)

  abbrev pub entries : Option Entries
  entries = walk_from (get_or t 0 0 / 16) 0 (ltb 5 action) (at + 1) (drop 1 t) (replicate 15 no_entry)

  -- neither nothing nor a bitmap of two octets
  abbrev pub noBitmap : List ℕ → Bool
  noBitmap r = not (or (eqb (length r) 0) (eqb (length r) 2))

  -- 11. MANAGE_PORT without octet 1, a reserved Action, a Notify response
  abbrev pub malformed11 : Bool → Bool
  malformed11 response = or (eqb (length t) 0) (isWrong (form response))

  -- 12. a reserved Status
  abbrev pub reservedStatus : Option Form → Bool
  reservedStatus (Some F.Asking) = false
  reservedStatus (Some F.Answer) = and (eqb (length t) answerLength) (not (ltb status 4))
  reservedStatus (Some F.Query) = false
  reservedStatus (Some F.List) = false
  reservedStatus None = false

  -- 13. a MANAGE_PORT body cut short, within an Application ID too
  abbrev pub cutShort : Option Form → Bool
  cutShort (Some F.Asking) = or (ltb (length t) 2) (or (eqb (application_length (drop 2 t)) 0) (ltb (length t) askingLength))
  cutShort (Some F.Answer) = ltb (length t) answerLength
  cutShort (Some F.Query) = false
  cutShort (Some F.List) = is_none entries
  cutShort None = false

  -- after the entries of a list, where all are there, neither nothing nor a bitmap
  abbrev pub pastEntries : Option Entries → Bool
  pastEntries (Some e) = noBitmap (drop (e.end - at) t)
  pastEntries None = false

  -- 14. octets left after the body: "a Query command's body has 1 or 3 octets, and after a list's entries come 0 or 2"
  abbrev pub octetsLeft : Option Form → Bool
  octetsLeft (Some F.Asking) = ltb askingLength (length t)
  octetsLeft (Some F.Answer) = ltb answerLength (length t)
  octetsLeft (Some F.Query) = noBitmap (drop 1 t)
  octetsLeft (Some F.List) = pastEntries entries
  octetsLeft None = false

  -- 11 to 14 of an information field
  abbrev pub badInformation : Bool → Bool
  badInformation response = any (malformed11 response ∷ reservedStatus (form response) ∷ cutShort (form response) ∷ octetsLeft (form response) ∷ [])

-- section 3: "Malformed: 16, exactly these"
unfoldable pub malformed : List ℕ → Bool → Bool
malformed s network =
    any (malformed1 s ∷ malformed2 s ∷ malformed3 s ∷ malformed4 s ∷ malformed5 s ∷ malformed6 s ∷ malformed7 s network ∷ malformed8 s ∷ malformed9 s ∷ malformed10 s
    ∷ and (hasM s 10) (badInformation (information s) (header_length s) (isResponse s network)) ∷ [])
