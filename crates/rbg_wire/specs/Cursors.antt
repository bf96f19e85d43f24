-- How much of the buffer of a stream is read.
use Rattle.std.specs.Prelude.{◌≡◌, ℕ, ◌+◌, ◌<◌, ◌≤◌, cond, List, [], ◌∷◌, ◌++◌, length, drop, slice_range, Option, IfSome, IfNone}
use Rattle.rbg_wire.specs.declared.cursor.Cursor.{Cursor}
use Rattle.rbg_wire.specs.declared.cursor.Found.{Found}
use Rattle.rbg_wire.specs.declared.cursor.Found.TheVariants.{Message, TooLong}
use Rattle.rbg_wire.specs.Bytes.{LacksByte}
use Rattle.rbg_wire.specs.Streams.{Item, complete, too_long, incomplete, dropping, Cut, cut, after_items}

-- the cursor is one of this buffer: the bytes that it has looked at are not zero
pub record IsCursorOf (cursor : Cursor) (bytes : List ℕ) : Type 0 where
  pub ordered : cursor.start ≤ cursor.looked
  pub within : cursor.looked ≤ length bytes
  pub clear : LacksByte 0 (slice_range bytes cursor.start cursor.looked)

-- what the unread bytes complete, and their rest
abbrev pub unread : ℕ → Cursor → List ℕ → Cut
unread limit cursor bytes = cut limit (cond cursor.dropping dropping (incomplete [])) (drop cursor.start bytes)

-- the index of the first zero byte after a start
pub record IsEnd (bytes : List ℕ) (start end : ℕ) : Type 0 where
  pub ordered : start ≤ end
  pub within : end < length bytes
  pub parts : drop start bytes ≡ slice_range bytes start end ++ 0 ∷ drop (end + 1) bytes
  pub clear : LacksByte 0 (slice_range bytes start end)

-- the item that was found in the buffer
abbrev pub found_item : List ℕ → Found → Item
found_item bytes (Message from to) = complete (slice_range bytes from to)
found_item bytes TooLong = too_long

-- it is within the buffer
abbrev pub IsWithin : List ℕ → Found → Type 0
IsWithin bytes (Message from to) = (from ≤ to) × (to ≤ length bytes)
IsWithin bytes TooLong = Unit {0}

-- What a cursor finds in the buffer.
--   cursor: it is still one of this buffer
--   found: it is the first item that is complete, and the cursor is after it
--   within: a message that is found is within the buffer
--   none: no item is complete, and the unread bytes are cut as before
pub record FindsNext (limit : ℕ) (bytes : List ℕ) (old new : Cursor) (result : Option Found) : Type 0 where
  pub cursor : IsCursorOf new bytes
  pub found : IfSome result (λ one. unread limit old bytes ≡ after_items (found_item bytes one ∷ []) (unread limit new bytes))
  pub within : IfSome result (λ one. IsWithin bytes one)
  pub none : IfNone result ((unread limit new bytes ≡ unread limit old bytes) × ((unread limit old bytes).items ≡ []))
