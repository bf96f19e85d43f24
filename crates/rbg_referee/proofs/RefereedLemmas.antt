-- A match that opens and handles events in turn is refereed.
use Rattle.std.proofs.Common.{◌≡◌, ℕ, List, refl, sym, ap, ◌∙◌, None, inr}
use Rattle.rbg_match.specs.declared.config.Config.{Config}
use Rattle.rbg_match.proofs.Common.{MatchState, StepsAll, AbstractPlay}
use Rattle.rbg_script.specs.Events.{AbstractEvent}
use Rattle.rbg_match.proofs.AllEvents.{all_handled}
use Rattle.rbg_match.proofs.WholeMatch.{stepped_is_transcript}
use Rattle.rbg_referee.specs.declared.error.RefereeError.{RefereeError}
use Rattle.rbg_referee.specs.declared.error.RefereeError.TheVariants.{Load, Config as ConfigRefused, Memory}
use Rattle.rbg_referee.specs.Refereed.{IsRefereed, IsRefusedFor, IsStillInPlay, OpensText, StopsMatch}

-- a match that opens and handles these events is refereed: its state of play is that of the transcript, and so is its game
pub refereed_with : (text : List ℕ) (config : Config) (now : ℕ) (events : List AbstractEvent) (old new : MatchState) (before after : List (List ℕ)) → OpensText text config now old before → StepsAll old before events new after → (refereed : IsRefereed text config now events after) × (refereed.play ≡ new.play) × (refereed.game ≡ new.game)
refereed_with text config now events old new before after opened steps =
    let (outgoing, transcript, bytes) = stepped_is_transcript opened.game text config now events old new before after opened.opens steps in (
      record {
        game = opened.game;
        loads = opened.loads;
        lawful = opened.opens.lawful;
        play = new.play;
        outgoing = outgoing;
        transcript = transcript;
        bytes = bytes;
      },
      refl,
      sym ((all_handled steps).same_game ∙ opened.opens.of_game),
    )

pub is_still_in_play : (text : List ℕ) (config : Config) (now : ℕ) (events : List AbstractEvent) (old new : MatchState) (before after : List (List ℕ)) → OpensText text config now old before → StepsAll old before events new after → new.play.outcome ≡ None → IsStillInPlay text config now events after
is_still_in_play text config now events old new before after opened steps going =
    let (refereed, of_play, _) = refereed_with text config now events old new before after opened steps in
    record { refereed = refereed; going = ap (λ (play : AbstractPlay). play.outcome) of_play ∙ going }

-- a match that is stopped is one that is refused
pub refused_by : (text : List ℕ) (config : Config) (now : ℕ) (events : List AbstractEvent) (error : RefereeError) → StopsMatch text config now events error → IsRefusedFor text config now events error
refused_by text config now events (Memory done outgoing) stopped = inr stopped
refused_by text config now events (Load error) stopped = absurd stopped
refused_by text config now events ConfigRefused stopped = absurd stopped
