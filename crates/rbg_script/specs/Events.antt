-- The events of a script, and the lines that spell them.
use Rattle.std.specs.Prelude.{◌≡◌, ℕ, ◌+◌, ◌*◌, ◌/◌, ◌%◌, ◌<◌, ◌^◌, Some, List, [], ◌∷◌, ◌++◌, slice_index, codes, decimal, All}
use Rattle.std.specs.Borrow.{Bor}
use Rattle.std.specs.Global.{Vec}
use Rattle.std.specs.List.{flat_map}
use Rattle.hex.specs.Hex.{hex_digit_value, lower_digits}
use Rattle.rbg_script.specs.declared.event.ScriptMessage.{ScriptMessage}
use Rattle.rbg_script.specs.declared.event.Event.{Event}
use Rattle.rbg_script.specs.declared.event.Event.TheVariants.{Piece, Ended, Tick}

-- An event, apart from where its bytes are in memory. Its source is the number of a seat, from 1, or of a line of a hall,
-- from 0.
pub data AbstractEvent : Type 0 where
  piece : (source at : ℕ) (bytes : List ℕ) → AbstractEvent
  end_of_stream : (source at : ℕ) → AbstractEvent
  moment_alone : (at : ℕ) → AbstractEvent

-- the event that borrows its bytes
abbrev pub event_of : Event (Bor (List ℕ)) → AbstractEvent
event_of (Piece source at bytes) = piece source at bytes.now
event_of (Ended source at) = end_of_stream source at
event_of (Tick at) = moment_alone at

-- the same of an event that owns its bytes
abbrev pub owned_event_of : Event (Vec ℕ) → AbstractEvent
owned_event_of (Piece source at bytes) = piece source at bytes.items
owned_event_of (Ended source at) = end_of_stream source at
owned_event_of (Tick at) = moment_alone at

-- the moment that an event gives
abbrev pub moment_of : AbstractEvent → ℕ
moment_of (piece source at bytes) = at
moment_of (end_of_stream source at) = at
moment_of (moment_alone at) = at

-- The digits spell the bytes: two hexadecimal digits for each, the high one first, each in either case.
pub data SpellsBytes : List ℕ → List ℕ → Type 0 where
  no_bytes : SpellsBytes [] []
  one_byte : (first second high low : ℕ) (digits bytes : List ℕ)
      → hex_digit_value first ≡ Some high
      → hex_digit_value second ≡ Some low
      → SpellsBytes digits bytes
      → SpellsBytes (first ∷ second ∷ digits) ((high * 16 + low) ∷ bytes)

-- a word with its space, a seat, a moment, and what follows, with single spaces between them
unfoldable pub fields_text : (word : List ℕ) (seat at : ℕ) (rest : List ℕ) → List ℕ
fields_text word seat at rest = word ++ decimal seat ++ codes " " ++ decimal at ++ codes " " ++ rest

-- both are numbers below 2 ^ 64
abbrev pub AreNumbers : ℕ → ℕ → Type 0
AreNumbers seat at = (seat < 2 ^ 64) × (at < 2 ^ 64)

-- the text has these fields
pub record HasFields (text word : List ℕ) (seat at : ℕ) (rest : List ℕ) : Type 0 where
  pub numbers : AreNumbers seat at
  pub is : text ≡ fields_text word seat at rest

-- the line of the end of a seat's stream
unfoldable pub end_text : (seat at : ℕ) → List ℕ
end_text seat at = codes "e " ++ decimal seat ++ codes " " ++ decimal at

-- the line of a moment
unfoldable pub tick_text : (at : ℕ) → List ℕ
tick_text at = codes "t " ++ decimal at

-- The text is that of the event. A piece whose last byte is zero is spelt by an `m` line with the bytes before it; each
-- piece is spelt by a `p` line, with digits of either case.
pub data SpellsEvent (text : List ℕ) : AbstractEvent → Type 0 where
  by_message : (seat at : ℕ) (said : List ℕ)
      → HasFields text (codes "m ") seat at said
      → SpellsEvent text (piece seat at (said ++ 0 ∷ []))
  by_digits : (seat at : ℕ) (digits bytes : List ℕ)
      → HasFields text (codes "p ") seat at digits
      → SpellsBytes digits bytes
      → SpellsEvent text (piece seat at bytes)
  by_end : (seat at : ℕ) → AreNumbers seat at → text ≡ end_text seat at → SpellsEvent text (end_of_stream seat at)
  by_tick : (at : ℕ) → at < 2 ^ 64 → text ≡ tick_text at → SpellsEvent text (moment_alone at)

-- the text is that of an `m` line with this message
abbrev pub SpellsMessage : List ℕ → ScriptMessage → Type 0
SpellsMessage text message = HasFields text (codes "m ") message.seat message.at message.text.now

-- the two digits of a byte, in lower case
abbrev pub byte_text : ℕ → List ℕ
byte_text byte = slice_index lower_digits (byte / 16) ∷ slice_index lower_digits (byte % 16) ∷ []

-- the line that is written for an event: a piece is written with lower-case digits
unfoldable pub event_text : AbstractEvent → List ℕ
event_text (piece seat at bytes) = fields_text (codes "p ") seat at (flat_map byte_text bytes)
event_text (end_of_stream seat at) = end_text seat at
event_text (moment_alone at) = tick_text at

-- an event of numbers and bytes
abbrev pub EventHasSpelling : AbstractEvent → Type 0
EventHasSpelling (piece seat at bytes) = AreNumbers seat at × All (λ byte. byte < 256) bytes
EventHasSpelling (end_of_stream seat at) = AreNumbers seat at
EventHasSpelling (moment_alone at) = at < 2 ^ 64
