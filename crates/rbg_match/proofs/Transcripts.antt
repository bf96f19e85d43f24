-- Other inputs that are handled the same have the same transcript.
use Rattle.std.proofs.Common.{ℕ, List}
use Rattle.rbg_rules.specs.Meaning.{AbstractGame}
use Rattle.rbg_match.proofs.Common.{Config, Delivery, TimedInput, AbstractPlay, HandlesAll, InputTranscript}

pub of_other_inputs : {game : AbstractGame} {text : List ℕ} {config : Config} {now : ℕ} {inputs : List TimedInput} {play : AbstractPlay} {outgoing : List Delivery} (others : List TimedInput) (one : InputTranscript game text config now inputs play outgoing) → HandlesAll game config one.opened others play one.replies → InputTranscript game text config now others play outgoing
of_other_inputs others one handles = record {
  opened = one.opened;
  opening = one.opening;
  replies = one.replies;
  opens = one.opens;
  goes_on = handles;
  whole = one.whole;
}
