-- The 88 words that the C interface has for a PDU ("Words of a PDU").
use Rattle.std.specs.Prelude.{ℕ, List, [], ◌∷◌, ◌++◌}
use Rattle.base_lists.specs.Seq.{bit}
use Rattle.codec_items.specs.declared.Item.{Item}
use Rattle.codec_items.specs.declared.Unknown.{Unknown}
use Rattle.codec_pdu.specs.Pdu.{unknown_of}
use Rattle.codec_pdu.specs.declared.Kind.{Kind}
use Rattle.codec_pdu.specs.declared.Kind.TheVariants.{Invoke, Result, Ack, Abort, SegInvoke, SegResult, Nack, Wrong, Refused}
use Rattle.codec_pdu.specs.declared.Pdu.{Pdu}

-- the C interface: "0 type, 1 GTR, 2 TTR, 3 RID, 4 TID"; "words that the type hasn't are 0"
unfoldable pub front_words : Kind → ℕ → List ℕ
front_words (Invoke a b c v n u l) tid = 1 ∷ bit a ∷ bit b ∷ bit c ∷ tid ∷ []
front_words (Result a b c) tid = 2 ∷ bit a ∷ bit b ∷ bit c ∷ tid ∷ []
front_words (Ack a c) tid = 3 ∷ 0 ∷ 0 ∷ bit c ∷ tid ∷ []
front_words (Abort t r) tid = 4 ∷ 0 ∷ 0 ∷ 0 ∷ tid ∷ []
front_words (SegInvoke a b c p) tid = 5 ∷ bit a ∷ bit b ∷ bit c ∷ tid ∷ []
front_words (SegResult a b c p) tid = 6 ∷ bit a ∷ bit b ∷ bit c ∷ tid ∷ []
front_words (Nack c n l) tid = 7 ∷ 0 ∷ 0 ∷ bit c ∷ tid ∷ []
front_words (Wrong d) tid = 0 ∷ 0 ∷ 0 ∷ 0 ∷ tid ∷ []
front_words (Refused r) tid = 0 ∷ 0 ∷ 0 ∷ 0 ∷ tid ∷ []

-- the C interface: "5 version, 6 TIDnew, 7 U/P, 8 class"
unfoldable pub invoke_words : Kind → List ℕ
invoke_words (Invoke a b c v n u l) = v ∷ bit n ∷ bit u ∷ l ∷ []
invoke_words (Result a b c) = 0 ∷ 0 ∷ 0 ∷ 0 ∷ []
invoke_words (Ack a c) = 0 ∷ 0 ∷ 0 ∷ 0 ∷ []
invoke_words (Abort t r) = 0 ∷ 0 ∷ 0 ∷ 0 ∷ []
invoke_words (SegInvoke a b c p) = 0 ∷ 0 ∷ 0 ∷ 0 ∷ []
invoke_words (SegResult a b c p) = 0 ∷ 0 ∷ 0 ∷ 0 ∷ []
invoke_words (Nack c n l) = 0 ∷ 0 ∷ 0 ∷ 0 ∷ []
invoke_words (Wrong d) = 0 ∷ 0 ∷ 0 ∷ 0 ∷ []
invoke_words (Refused r) = 0 ∷ 0 ∷ 0 ∷ 0 ∷ []

-- the C interface: "9 Tve/Tok, 10 abort type, 11 abort reason, 12 packet number, 13 Nack count, 14 start of the Nack list"
unfoldable pub other_words : Kind → List ℕ
other_words (Invoke a b c v n u l) = 0 ∷ 0 ∷ 0 ∷ 0 ∷ 0 ∷ 0 ∷ []
other_words (Result a b c) = 0 ∷ 0 ∷ 0 ∷ 0 ∷ 0 ∷ 0 ∷ []
other_words (Ack a c) = bit a ∷ 0 ∷ 0 ∷ 0 ∷ 0 ∷ 0 ∷ []
other_words (Abort t r) = 0 ∷ t ∷ r ∷ 0 ∷ 0 ∷ 0 ∷ []
other_words (SegInvoke a b c p) = 0 ∷ 0 ∷ 0 ∷ p ∷ 0 ∷ 0 ∷ []
other_words (SegResult a b c p) = 0 ∷ 0 ∷ 0 ∷ p ∷ 0 ∷ 0 ∷ []
other_words (Nack c n l) = 0 ∷ 0 ∷ 0 ∷ 0 ∷ n ∷ l ∷ []
other_words (Wrong d) = 0 ∷ 0 ∷ 0 ∷ 0 ∷ 0 ∷ 0 ∷ []
other_words (Refused r) = 0 ∷ 0 ∷ 0 ∷ 0 ∷ 0 ∷ 0 ∷ []

-- the C interface: "15 number of items (0 to 16), 16 start and 17 length of the user data"; 02, L4, 18 identity and 19 place of the first unknown item; 20 to 23 zero
unfoldable pub rest_words : ℕ → ℕ → ℕ → Unknown → List ℕ
rest_words count start len unknown = count ∷ start ∷ len ∷ unknown.identity ∷ unknown.place ∷ 0 ∷ 0 ∷ 0 ∷ 0 ∷ []

-- the C interface: an item's words are "identity, 1 for the long form or 0, start and length of its data"
unfoldable pub item_words : Item → List ℕ
item_words it = it.identity ∷ bit it.long ∷ it.start ∷ it.len ∷ []

-- the C interface: "24 + 4k to 27 + 4k the item k"
unfoldable pub items_words : List Item → List ℕ
items_words [] = []
items_words (it ∷ l) = item_words it ++ items_words l

-- words 0 to 23
unfoldable pub head_words : Pdu → List ℕ
head_words p = front_words p.kind p.tid ++ (invoke_words p.kind ++ (other_words p.kind ++ rest_words p.count p.start p.len (unknown_of p)))

-- the words of a PDU
unfoldable pub words_of : Pdu → List ℕ
words_of p = head_words p ++ items_words p.list
