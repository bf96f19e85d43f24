-- So many moves were made from the first place.
use Rattle.rbg_rules.specs.Meaning.{IsPlaceOf}
use Rattle.rbg_questions.proofs.PlayedMatches.{PlayedSo}
use Rattle.rbg_questions.proofs.chance.play_match.Given as goal

abbrev pub invariant-loop-moves : goal.invariant-loop-moves
invariant-loop-moves l = IsPlaceOf l.fn.from.game l.at × PlayedSo l.fn.from.game l.fn.from.place l.moves l.at
