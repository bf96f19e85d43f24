-- What is printed of a game's opening and of the moves with which play can continue.
use Rattle.std.specs.Prelude.{◌≡◌, ℕ, Bool, List, ◌++◌, Some, None, codes}
use Rattle.std.specs.List.{flat_map}
use Rattle.rbg_game.specs.Loading.{Loads}
use Rattle.rbg_match.specs.Matches.{MatchState, HasHistory, Opens}
use Rattle.rbg_match.specs.Play.{mover_of}
use Rattle.rbg_match.specs.declared.config.Config.{Config}
use Rattle.rbg_moves.specs.Listing.{IsListed}
use Rattle.rbg_rules.specs.Meaning.{IsTooHard, list_moves, AbstractGame}
use Rattle.rbg_wire.specs.declared.outcome.Outcome.{Outcome}
use Rattle.rbg_operations.specs.Lines.{made_line, move_line, cut_text, end_text}

-- the maximum number of legal moves that are printed
abbrev pub most_listed : ℕ
most_listed = 1000

-- How play can continue from an opening.
--   ended: it can't, since the match ended in its opening.
--   listed: by these moves, each once and in order. They are all the legal ones, or 1,000 of them, marked as cut off.
--   too_hard: whether there are such moves is a question above the limits.
pub data GoesOn (state : MatchState) : (text : List ℕ) → Type 0 where
  ended : (outcome : Outcome) → state.play.outcome ≡ Some outcome → GoesOn state (end_text outcome)
  listed : (moves : List (List (ℕ × ℕ))) (cut : Bool)
      → state.play.outcome ≡ None
      → IsListed state.game state.play.place most_listed moves cut
      → GoesOn state (flat_map (move_line (mover_of state.play)) moves ++ cut_text cut)
  too_hard : state.play.outcome ≡ None
      → IsTooHard state.game list_moves state.play.place
      → GoesOn state (codes "over\n")

-- the lines of the moves of an opening, and of how play can continue
pub record IsOpenedText (state : MatchState) (text : List ℕ) : Type 0 where
  pub rest : List ℕ
  pub goes_on : GoesOn state rest
  pub parts : text ≡ flat_map made_line state.play.made ++ rest

-- The text is that of an opening of the description's game: the keeper moves until a player is to move, or the match has
-- ended. The moves that were made are legal, from the start to the place that is reached.
pub record IsOpeningText (description text : List ℕ) : Type 0 where
  pub game : AbstractGame
  pub loads : Loads description game
  pub config : Config
  pub state : MatchState
  pub outbox : List (List ℕ)
  pub opens : Opens game description config 0 state outbox
  pub history : HasHistory state
  pub lines : IsOpenedText state text
