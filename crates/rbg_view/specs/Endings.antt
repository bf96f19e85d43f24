-- How the end of a list is told: how the match ended, who is to move, or why it stops.
use Rattle.std.specs.Prelude.{◌≡◌, ℕ, ◌-◌, ◌&&◌, Bool, true, false, nat_lt, nat_le, if◌then◌else◌, List, ◌++◌, length, get_or, Option, Some, None, codes, decimal}
use Rattle.rbg_wire.specs.declared.outcome.Outcome.{Outcome}
use Rattle.rbg_wire.specs.declared.outcome.Outcome.TheVariants.{Finished, Time, Refusals, Gone, Heavy}
use Rattle.rbg_view.specs.declared.stop.Stop.{Stop}
use Rattle.rbg_view.specs.declared.stop.Stop.TheVariants.{NotLegal, NoMove, Mark, AfterEnd, Heavy as HeavyQuestion, Keeper, Memory}
use Rattle.rbg_moves.specs.Playing.{Playing, mover_text}

-- the name of a player, or its number where the game has no such player
unfoldable pub who_text : List (List ℕ) → ℕ → List ℕ
who_text players player =
    if nat_lt 0 player && nat_le player (length players)
    then get_or players (player - 1) (codes "")
    else codes "player " ++ decimal player

-- the words of an outcome, with the players' names
unfoldable pub ending_words : List (List ℕ) → Outcome → List ℕ
ending_words players (Finished scores) = codes "play is finished"
ending_words players (Time player) = codes "the time of " ++ who_text players player ++ codes " is over"
ending_words players (Refusals player) = codes "" ++ who_text players player ++ codes " had too many refusals"
ending_words players (Gone player) = codes "the stream of " ++ who_text players player ++ codes " ended"
ending_words players Heavy = codes "a limit of play was reached"

-- the line that tells how a match ended
abbrev pub ending_text : List (List ℕ) → Outcome → List ℕ
ending_text players outcome = codes "the match ended: " ++ ending_words players outcome ++ codes "\n"

-- The last line of a list that is followed whole: how the match ended if a record has told it, or else who is to move,
-- or that play is finished.
unfoldable pub ended_text : Playing → Option Outcome → (goes_on : Bool) → List ℕ
ended_text at (Some outcome) goes_on = ending_text at.game.players outcome
ended_text at None true = mover_text at ++ codes " is to move\n"
ended_text at None false = codes "play is finished\n"

-- why a list stops, by the place that was reached
unfoldable pub reason_text : Playing → Stop → List ℕ
reason_text at NotLegal = codes ": no legal move of " ++ mover_text at ++ codes "\n"
reason_text at NoMove = codes " isn't a move\n"
reason_text at Mark = codes " begins with a byte order mark\n"
reason_text at AfterEnd = codes " stands behind the end of the record\n"
reason_text at HeavyQuestion = codes ": a question is above the limits\n"
reason_text at Keeper = codes ": the keeper made 1,000 moves in a row\n"
reason_text at Memory = codes ""

-- the last line of a list of which a line stops
abbrev pub stopped_text : Playing → (number : ℕ) → Stop → List ℕ
stopped_text at number stop = codes "line " ++ decimal number ++ reason_text at stop

-- the last line of a list that stops after its last line
abbrev pub unsettled_text : Stop → List ℕ
unsettled_text Keeper = codes "the keeper made 1,000 moves in a row\n"
unsettled_text stop = codes "a question is above the limits\n"

-- the text ends with this one
pub record EndsWith (text last : List ℕ) : Type 0 where
  pub front : List ℕ
  pub is : text ≡ front ++ last
