-- A match that has begun at a table.
use Rattle.std.specs.Prelude.{◌≡◌, ℕ, List, [], Option, None, replicate, false}
use Rattle.rbg_wire.specs.Inboxes.{item_of}
use Rattle.rbg_wire.specs.Streams.{Rest}
use Rattle.rbg_wire.specs.Whole.{IsCutAlone}
use Rattle.rbg_rules.specs.Meaning.{AbstractGame}
use Rattle.rbg_match.specs.declared.config.Config.{Config}
use Rattle.rbg_match.specs.declared.arrival.Arrival.{Arrival}
use Rattle.rbg_match.specs.declared.arrival.Arrival.TheVariants.{Plain, Item}
use Rattle.rbg_script.specs.declared.event.Event.TheVariants.{Piece, Ended, Tick}
use Rattle.rbg_match.specs.Arrivals.{IsBetween}
use Rattle.rbg_script.specs.Events.{AbstractEvent}
use Rattle.rbg_match.specs.Limits.{message_limit}
use Rattle.rbg_match.specs.Matches.{MatchState, HasHistory, Opens, Steps}
use Rattle.rbg_match.specs.PlayingOn.{seats_of}
use Rattle.rbg_hall.specs.Tellings.{to_lines, told_to}

-- What arrives is no piece, and an item is one of a stream.
abbrev pub ComesWhole : Arrival → Type 0
ComesWhole (Plain (Piece seat at bytes)) = ⊥
ComesWhole (Plain (Ended seat at)) = Unit {0}
ComesWhole (Plain (Tick at)) = Unit {0}
ComesWhole (Item seat at took) = IsCutAlone message_limit (item_of took)

-- no part of a message is left in any seat's stream
abbrev pub AreBetween : List Rest → Type 0
AreBetween rests = (seat : ℕ) → IsBetween rests seat

-- Between events nothing is queued for the seats. As long as the match works it has a history, and as long as it goes
-- on no part of a message is left in a stream.
pub record IsRunning (playing : MatchState) (outbox : List (List ℕ)) : Type 0 where
  pub empty : outbox ≡ replicate (seats_of playing.game) []
  pub history : playing.failed ≡ false → HasHistory playing
  pub between : playing.failed ≡ false → playing.play.outcome ≡ None → AreBetween playing.streams.rests

-- A match opens, and what it says to its seats goes to the lines on them.
pub record OpensFor (game : AbstractGame) (text : List ℕ) (config : Config) (at : ℕ) (opened : MatchState)
    (seats : List (Option ℕ)) (before after : List (List ℕ)) : Type 0 where
  pub queues : List (List ℕ)
  pub opens : Opens game text config at opened queues
  pub queued : after ≡ told_to before (to_lines seats queues)

-- A match handles an event, and what it says to its seats goes to the lines on them.
pub record StepsFor (old : MatchState) (event : AbstractEvent) (new : MatchState)
    (seats : List (Option ℕ)) (before after : List (List ℕ)) : Type 0 where
  pub queues : List (List ℕ)
  pub steps : Steps old event new (replicate (seats_of old.game) []) queues
  pub queued : after ≡ told_to before (to_lines seats queues)
