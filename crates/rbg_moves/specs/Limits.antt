-- The limit of the keeper's moves, and what an answer says of the limits of questions.
use Rattle.std.specs.Prelude.{ℕ, ◌≤◌, Bool}
use Rattle.rbg_rules.specs.Meaning.{AbstractGame, AbstractPlace, point_of, Question, IsDeep, IsWide, HasForced, IsForcedDeep, most_openings, most_modifiers}

-- the keeper makes at most this many moves in a row
abbrev pub most_keeper_moves : ℕ
most_keeper_moves = 1000

-- An opening of the question at a place has too many modifiers in a row.
abbrev pub IsDeepAt : AbstractGame → Question → AbstractPlace → Type 0
IsDeepAt game question place = IsDeep game question place.state (point_of place.last) most_modifiers

-- The question at a place has more openings than may be taken up.
abbrev pub IsWideAt : AbstractGame → Question → AbstractPlace → Type 0
IsWideAt game question place = IsWide game question place.state (point_of place.last) most_openings

-- The forced openings of the question at a place are within the limits: they are no more than may be taken up, and none
-- has too many modifiers in a row.
pub record FitsLimits (game : AbstractGame) (cut : Bool) (question : Question) (place : AbstractPlace) : Type 0 where
  pub few :
      (many : ℕ) → HasForced game cut question place.state (point_of place.last) many → many ≤ most_openings
  pub not_deep : ¬ IsForcedDeep game cut question place.state (point_of place.last) most_modifiers
