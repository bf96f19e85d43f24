-- What a match is made of: its referee before play begins, and its streams around the referee.
use Rattle.std.specs.Prelude.{ℕ, List, [], replicate, false}
use Rattle.rbg_wire.specs.Streams.{incomplete}
use Rattle.rbg_rules.specs.Meaning.{AbstractGame}
use Rattle.rbg_match.specs.declared.config.Config.{Config}
use Rattle.rbg_match.specs.Deliveries.{delivered}
use Rattle.rbg_match.specs.Matches.{MatchState}
use Rattle.rbg_match.specs.Play.{play_at_start}
use Rattle.rbg_match.specs.PlayingOn.{seats_of}
use Rattle.rbg_match.specs.Transcript.{greetings}
use Rattle.rbg_match.specs.internal.Replies.{RefereeState}

-- what is queued for each seat once all are greeted
abbrev pub first_outbox : AbstractGame → (text : List ℕ) → Config → List (List ℕ)
first_outbox game text config = delivered (replicate (seats_of game) []) (greetings text config game.players)

-- a referee at the start of play, whose seats are greeted
abbrev pub referee_at_start : AbstractGame → (text : List ℕ) → Config → (moment : ℕ) → RefereeState
referee_at_start game text config moment = record {
  game = game;
  config = config;
  moment = moment;
  play = play_at_start game moment;
  outbox = first_outbox game text config;
}

-- the match that a referee begins at its moment, with nothing in its streams
abbrev pub match_begun : RefereeState → MatchState
match_begun referee = record {
  game = referee.game;
  config = referee.config;
  began = referee.moment;
  play = referee.play;
  streams = record { moment = referee.moment; rests = replicate (seats_of referee.game) (incomplete []) };
  failed = false;
}
