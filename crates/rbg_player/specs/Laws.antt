-- A law of the messages that a player receives.
use Rattle.std.specs.Prelude.{◌≢◌, List}
use Rattle.rbg_wire.specs.Messages.{AbstractMessage}
use Rattle.rbg_player.specs.declared.error.PlayerError.{PlayerError}
use Rattle.rbg_player.specs.declared.error.PlayerError.TheVariants as errors
use Rattle.rbg_player.specs.Players.{Stage}
use Rattle.rbg_player.specs.Hearing.{Accepts, HasFault}

-- A message that has a fault is never accepted, unless the fault is refused memory or a question above the limits.
abbrev pub FaultsAreNotHeard : Type 0
FaultsAreNotHeard =
    (stage after : Stage) (message : AbstractMessage) (error : PlayerError) (outgoing : List AbstractMessage)
    → HasFault stage message error
    → error ≢ errors.Memory
    → error ≢ errors.Over
    → ¬ Accepts stage message after outgoing
