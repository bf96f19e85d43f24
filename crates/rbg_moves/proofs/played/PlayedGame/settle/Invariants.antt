-- Moves of the keeper have led here.
use Rattle.rbg_rules.specs.Meaning.{IsPlaceOf}
use Rattle.rbg_moves.specs.Settling.{KeeperMoves}
use Rattle.rbg_moves.proofs.played.PlayedGame.settle.Given as goal

abbrev pub invariant-loop : goal.invariant-loop
invariant-loop l = IsPlaceOf l.self l.place × KeeperMoves l.self l.fn.place l.counter l.place
