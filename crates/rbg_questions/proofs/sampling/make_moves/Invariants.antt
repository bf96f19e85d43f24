-- So many moves were made, and these are their lines.
use Rattle.rbg_rules.specs.Meaning.{IsPlaceOf}
use Rattle.rbg_questions.proofs.Sampled.{MadeSo}
use Rattle.rbg_questions.proofs.sampling.make_moves.Given as goal

abbrev pub invariant-loop-made : goal.invariant-loop-made
invariant-loop-made l = IsPlaceOf l.fn.game l.place × MadeSo l.fn.game l.initial.place l.made l.place l.lines.items
