-- Each legal move can be sent in a message.
use Rattle.std.specs.Prelude.{ℕ, List, length}
use Rattle.rbg_base.specs.Move.{IsMoveLength}
use Rattle.rbg_wire.specs.Messages.{ArePairs}
use Rattle.rbg_rules.specs.Meaning.{AbstractGame, IsGame, AbstractPlace, IsLegal, IsPlaceOf}

-- A legal move that is no longer than a move may be has a spelling: the number of each vertex and of each position has
-- no more digits than a message may have.
abbrev pub LegalMovesAreSpelled : Type 0
LegalMovesAreSpelled =
    (game : AbstractGame) →
    IsGame game →
    (place : AbstractPlace) →
    IsPlaceOf game place →
    (pairs : List (ℕ × ℕ)) →
    IsLegal game place pairs →
    IsMoveLength (length pairs) →
    ArePairs pairs
