-- The stage of the code's player, and what its calls do to the bytes that it writes.
use Rattle.std.specs.Prelude.{◌≡◌, ℕ, List, [], ◌++◌, Result, IfErr, OnErr, OnOk}
use Rattle.std.specs.List.{flat_map}
use Rattle.rbg_wire.specs.Messages.{AbstractMessage, spelling}
use Rattle.rbg_wire.specs.Streams.{Item, complete, Stream}
use Rattle.rbg_player.specs.declared.error.PlayerError.{PlayerError}
use Rattle.rbg_player.specs.declared.stage.Stage.{Stage as CodeStage}
use Rattle.rbg_player.specs.declared.stage.Stage.TheVariants.{Unnamed, Named, Seated, Playing, Ended, Failed}
use Rattle.rbg_player.specs.Limits.{message_limit}
use Rattle.rbg_player.specs.Players.{Stage, unnamed, named, seated, playing, ended, failed, AbstractPlayer}
use Rattle.rbg_player.specs.Hearing.{HasFault, Accepts}
use Rattle.rbg_player.specs.Streams.{IsReadAs}

-- the abstract stage of the code's stage
abbrev pub stage_of : CodeStage → Stage
stage_of Unnamed = unnamed
stage_of (Named player) = named player
stage_of (Seated seat) = seated seat
stage_of (Playing seat) = playing seat
stage_of (Ended outcome) = ended outcome
stage_of (Failed error) = failed error

-- the player at that stage, with this inbox
abbrev pub player_of : CodeStage → Stream → AbstractPlayer
player_of stage inbox = record { stage = stage_of stage; rest = inbox.rest }

-- A message is accepted, and what is sent follows the bytes that were there.
pub record AcceptsAndSays (old : Stage) (message : AbstractMessage) (new : Stage) (before after : List ℕ) : Type 0 where
  pub outgoing : List AbstractMessage
  pub hears : Accepts old message new outgoing
  pub told : after ≡ before ++ flat_map spelling outgoing

-- A message is accepted in this way, or there is a fault, and then the bytes are as they were.
pub record AcceptsOrFails (old : Stage) (message : AbstractMessage) (new : Stage) (before after : List ℕ)
    (result : Result (Unit {0}) PlayerError) : Type 0 where
  pub ok : OnOk result (AcceptsAndSays old message new before after)
  pub fault : IfErr result (HasFault old message)
  pub out : OnErr result (after ≡ before)

-- An item is read as a message that is accepted, and what is sent follows the bytes that were there.
pub record AcceptsItem (old : Stage) (item : Item) (new : Stage) (before after : List ℕ) : Type 0 where
  pub text : List ℕ
  pub message : AbstractMessage
  pub is : item ≡ complete text
  pub read : IsReadAs text message
  pub hears : AcceptsAndSays old message new before after

-- The inbox has the limit of a player's message, and no complete item is left in it.
pub record IsReady (inbox : Stream) : Type 0 where
  pub limit : inbox.limit ≡ message_limit
  pub empty : inbox.items ≡ []
