-- What one event changes in a match.
use Rattle.rbg_base.proofs.Common.{◌≡◌, ℕ, true, false, List, [], ◌∷◌, is_some, refl, sym, ◌∙◌, none-some}
use Rattle.rbg_rules.specs.Meaning.{AbstractGame}
use Rattle.rbg_match.proofs.Common.{Config, AbstractPlay, TimedInput, AbstractEvent, timed_inputs_in, HandlesAll, none, MatchState, Steps}
use Rattle.rbg_match.proofs.Delivering.{delivered-none}
use Rattle.rbg_match.proofs.HandlingLemmas.{is_there, handles_after_end}
use Rattle.rbg_match.proofs.Events.{one_handled, handles-append}

-- a match that has ended does nothing, whatever the inputs are
pub all_after_end : (game : AbstractGame) (config : Config) (play : AbstractPlay) → is_some play.outcome ≡ true → (inputs : List TimedInput) → HandlesAll game config play inputs play []
all_after_end game config play ended [] = none
all_after_end game config play ended (h ∷ hs) = handles-append (one_handled {moment = h.moment} {input = h.input} (handles_after_end game config play h.moment h.input ended)) (all_after_end game config play ended hs)

-- an event changes nothing in a match that has ended
pub steps_after_end : (state : MatchState) (event : AbstractEvent) (outbox : List (List ℕ)) → state.failed ≡ false → is_some state.play.outcome ≡ true → Steps state event state outbox outbox
steps_after_end state event outbox works ended = record {
  worked = works;
  works = works;
  same_game = refl;
  same_config = refl;
  same_begin = refl;
  outgoing = [];
  handles = all_after_end state.game state.config state.play ended (timed_inputs_in state.streams event);
  told = sym (delivered-none outbox);
  moment = λ going. absurd (none-some _ (sym going ∙ (is_there state.play.outcome ended).1));
  streams = λ going. absurd (none-some _ (sym going ∙ (is_there state.play.outcome ended).1));
  stays = λ outcome is. refl;
  silent = λ outcome is. refl;
}
