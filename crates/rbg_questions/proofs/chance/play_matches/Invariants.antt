-- The matches so far are counted.
use Rattle.std.proofs.Common.{map}
use Rattle.rbg_questions.specs.Chance.{AreTallied, counted_by}
use Rattle.rbg_questions.proofs.chance.play_matches.Given as goal

abbrev pub invariant-loop : goal.invariant-loop
invariant-loop l = AreTallied l.fn.from.game l.fn.from.place l.counter (map counted_by l.tallies.items)
