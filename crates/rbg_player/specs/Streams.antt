-- What a player does when it receives a piece of its stream.
use Rattle.std.specs.Prelude.{◌≡◌, ℕ, List, [], ◌∷◌, ◌++◌}
use Rattle.std.specs.List.{flat_map}
use Rattle.rbg_wire.specs.Messages.{AbstractMessage, spelling}
use Rattle.rbg_wire.specs.Reading.{SpellsMessage, SpellsMove, SpellsTooMany, HasFewPairs}
use Rattle.rbg_wire.specs.Streams.{Item, complete, too_long, Cut, cut}
use Rattle.rbg_player.specs.declared.error.PlayerError.{PlayerError}
use Rattle.rbg_player.specs.declared.error.PlayerError.TheVariants as errors
use Rattle.rbg_player.specs.Limits.{message_limit}
use Rattle.rbg_player.specs.Players.{Stage, failed, AbstractPlayer}
use Rattle.rbg_player.specs.Hearing.{Accepts, HasFault}

-- The text is read as this message: it is its spelling, and a move has at most 200 pairs.
pub record IsReadAs (text : List ℕ) (message : AbstractMessage) : Type 0 where
  pub spelled : SpellsMessage text message
  pub few : HasFewPairs message

-- A player receives the items of a stream in turn, and sends these messages.
--   none: it receives nothing.
--   more: it receives one more item, which is read as a message.
pub data AcceptsAll (start : Stage) : List Item → (after : Stage) → (outgoing : List AbstractMessage) → Type 0 where
  none :
      AcceptsAll start [] start []
  more : {items : List Item} {text : List ℕ} {message : AbstractMessage} {middle after : Stage}
      {first next : List AbstractMessage} →
      AcceptsAll start items middle first →
      IsReadAs text message →
      Accepts middle message after next →
      AcceptsAll start (items ++ complete text ∷ []) after (first ++ next)

-- Why a player doesn't continue after an item.
--   overlong: the item is too long.
--   unreadable: its text spells no message.
--   too_many: its text spells a move of more than 200 pairs.
--   faulty: its text is read as a message that has a fault.
pub data HasItemFault (stage : Stage) : Item → PlayerError → Type 0 where
  overlong :
      HasItemFault stage too_long errors.BadMessage
  unreadable : {text : List ℕ} →
      ((message : AbstractMessage) → ¬ SpellsMessage text message) →
      HasItemFault stage (complete text) errors.BadMessage
  too_many : {text : List ℕ} →
      SpellsTooMany (SpellsMove text) →
      HasItemFault stage (complete text) errors.BadMessage
  faulty : {text : List ℕ} {message : AbstractMessage} {error : PlayerError} →
      IsReadAs text message →
      HasFault stage message error →
      HasItemFault stage (complete text) error

-- the items that a piece completes in a player's stream, and the new rest
abbrev pub cut_of : AbstractPlayer → (piece : List ℕ) → Cut
cut_of player piece = cut message_limit player.rest piece

-- A player receives a piece of its stream without a fault: it receives the items that the piece completes, keeps the
-- rest, and what it sends follows the bytes that were there.
pub record AcceptsPiece
    (old : AbstractPlayer) (piece : List ℕ) (new : AbstractPlayer) (before after : List ℕ)
    : Type 0
  where
    pub outgoing : List AbstractMessage
    pub heard : AcceptsAll old.stage (cut_of old piece).items new.stage outgoing
    pub rest : new.rest ≡ (cut_of old piece).rest
    pub told : after ≡ before ++ flat_map spelling outgoing

-- One of the items has a fault, and the items before it are received without a fault.
pub record FailsIn (start : Stage) (items : List Item) (error : PlayerError) : Type 0 where
  pub before : List Item
  pub item : Item
  pub beyond : List Item
  pub parts : items ≡ before ++ item ∷ beyond
  pub middle : Stage
  pub outgoing : List AbstractMessage
  pub heard : AcceptsAll start before middle outgoing
  pub fault : HasItemFault middle item error

-- Why a player returns an error for a piece of its stream.
--   again: it has returned this error before.
--   no_memory: memory ran out.
--   here: an item that the piece completes has the fault.
pub data Fails (old : AbstractPlayer) (piece : List ℕ) : PlayerError → Type 0 where
  again : {error : PlayerError} →
      old.stage ≡ failed error →
      Fails old piece error
  no_memory :
      Fails old piece errors.Memory
  here : {error : PlayerError} →
      FailsIn old.stage (cut_of old piece).items error →
      Fails old piece error
