use Rattle.rbg_moves.proofs.Scoring.{HasScored}
use Rattle.rbg_moves.proofs.played.PlayedGame.scores.Given as goal

abbrev pub invariant-loop-index : goal.invariant-loop-index
invariant-loop-index l = HasScored l.place.state.values l.index l.scores.items
