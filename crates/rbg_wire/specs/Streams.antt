-- Streams: which items the bytes of a stream complete.
use Rattle.std.specs.Prelude.{ℕ, ◌≤◌, if◌then◌else◌, ◌==◌, nat_lt, List, [], ◌∷◌, ◌++◌, length, drop}
use Rattle.rbg_wire.specs.Bytes.{LacksByte}

-- an item: a message without its zero byte, or that a message is too long
pub data Item : Type 0 where
  complete : (bytes : List ℕ) → Item
  too_long : Item

-- the part of the next message that has come: its bytes, or that it is too long and is dropped up to its zero byte
pub data Rest : Type 0 where
  incomplete : (bytes : List ℕ) → Rest
  dropping : Rest

-- the items that bytes complete, and the rest after them
pub record Cut : Type 0 where
  pub items : List Item
  pub rest : Rest

-- one byte after a rest
abbrev pub next_byte : ℕ → Rest → ℕ → Cut
next_byte limit (incomplete bytes) byte =
    if byte == 0 then record { items = complete bytes ∷ []; rest = incomplete [] }
    else if nat_lt (length bytes) limit then record { items = []; rest = incomplete (bytes ++ byte ∷ []) }
    else record { items = too_long ∷ []; rest = dropping }
next_byte limit dropping byte = record { items = []; rest = if byte == 0 then incomplete [] else dropping }

-- the cut with these items before its own items
abbrev pub after_items : List Item → Cut → Cut
after_items items c = record { items = items ++ c.items; rest = c.rest }

-- the items and the rest of the bytes that follow a rest, if a message has at most `limit` bytes
unfoldable pub cut : ℕ → Rest → List ℕ → Cut
cut limit rest [] = record { items = []; rest = rest }
cut limit rest (byte ∷ bytes) =
    let first = next_byte limit rest byte in
    after_items first.items (cut limit first.rest bytes)

-- a rest has at most `limit` bytes, and none of them is zero
abbrev pub IsRest : ℕ → Rest → Type 0
IsRest limit (incomplete bytes) = (length bytes ≤ limit) × LacksByte 0 bytes
IsRest limit dropping = Unit {0}

-- a stream: its limit, the items that are complete and not taken yet, and the rest after them
pub record Stream : Type 0 where
  pub limit : ℕ
  pub items : List Item
  pub rest : Rest

-- the stream with more bytes
abbrev pub with_bytes : Stream → List ℕ → Stream
with_bytes stream bytes =
    let more = cut stream.limit stream.rest bytes in
    record { limit = stream.limit; items = stream.items ++ more.items; rest = more.rest }

-- the stream without its first item
abbrev pub without_first : Stream → Stream
without_first stream = record stream { items = drop 1 stream.items }
