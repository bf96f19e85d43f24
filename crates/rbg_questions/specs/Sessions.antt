-- A session: the places that play has reached.
use Rattle.std.specs.Prelude.{ℕ, List, [], ◌∷◌, ◌++◌}
use Rattle.rbg_rules.specs.Meaning.{AbstractGame, AbstractPlace, Legal}
use Rattle.rbg_moves.specs.Settling.{Settles}

-- A session: its game, the place from which its moves count, the place to which the moves lead that were heard, the place
-- that play has reached, and the places before it, from each of which a move of a player was made. The moves count from
-- where the rules begin, until a place is unpacked.
pub record AbstractSession : Type 0 where
  pub game : AbstractGame
  pub origin : AbstractPlace
  pub heard : AbstractPlace
  pub before : List AbstractPlace
  pub place : AbstractPlace

-- The move of these pairs, and the keeper's moves after it, lead from one place to the other.
pub record Leads (game : AbstractGame) (from : AbstractPlace) (pairs : List (ℕ × ℕ)) (to : AbstractPlace) : Type 0 where
  pub middle : AbstractPlace
  pub legal : Legal game from pairs middle
  pub settles : Settles game middle to

-- Legal moves, one after the other, lead to the place from its origin.
pub data AreHeard (game : AbstractGame) (origin : AbstractPlace) : AbstractPlace → Type 0 where
  no_move : AreHeard game origin origin
  one_more : {from to : AbstractPlace} {pairs : List (ℕ × ℕ)} →
      AreHeard game origin from →
      Legal game from pairs to →
      AreHeard game origin to

-- Play has led to the place from its origin, through the places before it.
--   at_start: the keeper's first moves lead there.
--   at_heard: the moves that were heard lead there.
--   by_move: a move leads there from the last of the places before it.
pub data HasLedTo (game : AbstractGame) (origin : AbstractPlace) : (before : List AbstractPlace) → (place : AbstractPlace) → Type 0 where
  at_start : {place : AbstractPlace} →
      Settles game origin place →
      HasLedTo game origin [] place
  at_heard : {place : AbstractPlace} →
      AreHeard game origin place →
      HasLedTo game origin [] place
  by_move : {before : List AbstractPlace} {from to : AbstractPlace} {pairs : List (ℕ × ℕ)} →
      HasLedTo game origin before from →
      Leads game from pairs to →
      HasLedTo game origin (before ++ from ∷ []) to
