-- Laws of messages and streams.
use Rattle.std.specs.Prelude.{◌≡◌, ℕ, ◌<◌, ◌≤◌, List, [], ◌∷◌, ◌++◌, length, map, nat_le, if◌then◌else◌, All}
use Rattle.std.specs.List.{flat_map}
use Rattle.rbg_wire.specs.Bytes.{LacksByte}
use Rattle.rbg_wire.specs.Messages.{AbstractMessage, HasSpelling, message_text, spelling}
use Rattle.rbg_wire.specs.Streams.{Item, complete, too_long, Rest, incomplete, dropping, after_items, cut, IsRest}

-- No spelling is the beginning of another. So two messages with the same spelling are equal, and a stream is the
-- spelling of at most one list of messages.
abbrev pub SpellingsAreApart : Type 0
SpellingsAreApart =
    (a b : AbstractMessage) (x y : List ℕ)
    → HasSpelling a
    → HasSpelling b
    → spelling a ++ x ≡ spelling b ++ y
    → (a ≡ b) × (x ≡ y)

-- A cut of two pieces is the cut of the first, and then the cut of the second after the rest of the first.
abbrev pub CutsAsItsPieces : Type 0
CutsAsItsPieces =
    (limit : ℕ) (rest : Rest) (a b : List ℕ)
    → cut limit rest (a ++ b) ≡ after_items (cut limit rest a).items (cut limit (cut limit rest a).rest b)

-- the item of a text before a zero byte
abbrev pub item_for : ℕ → List ℕ → Item
item_for limit text = if nat_le (length text) limit then complete text else too_long

-- The items of a stream are its texts before the zero bytes. A text with more bytes than the limit is too long.
abbrev pub ItemsAreTexts : Type 0
ItemsAreTexts =
    (limit : ℕ) (texts : List (List ℕ))
    → All (LacksByte 0) texts
    → cut limit (incomplete []) (flat_map (λ text. text ++ 0 ∷ []) texts)
    ≡ record { items = map (item_for limit) texts; rest = incomplete [] }

-- The items of a stream of spelled messages are the texts of the messages.
abbrev pub SpellingsAreItems : Type 0
SpellingsAreItems =
    (limit : ℕ) (messages : List AbstractMessage)
    → All HasSpelling messages
    → All (λ message. length (message_text message) ≤ limit) messages
    → cut limit (incomplete []) (flat_map spelling messages)
    ≡ record { items = map (λ message. complete (message_text message)) messages; rest = incomplete [] }

-- A message with one byte more than the limit is too long at once, and stays so until its zero byte.
abbrev pub TooLongComesOnce : Type 0
TooLongComesOnce =
    (limit : ℕ) (text : List ℕ)
    → LacksByte 0 text
    → limit < length text
    → cut limit (incomplete []) text ≡ record { items = too_long ∷ []; rest = dropping }

-- A rest has at most as many bytes as the limit, and no zero byte.
abbrev pub RestsStayShort : Type 0
RestsStayShort =
    (limit : ℕ) (rest : Rest) (bytes : List ℕ)
    → IsRest limit rest
    → IsRest limit (cut limit rest bytes).rest
