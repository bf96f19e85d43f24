use Rattle.std.proofs.Common.{◌≡◌, length, map}
use Rattle.rbg_grammar.specs.Reading.{separated_at}
use Rattle.rbg_grammar.proofs.Turns.{prepend}
use Rattle.rbg_syntax.proofs.parser.Parser.separated.Given as goal

abbrev pub invariant-loop-phrases : goal.invariant-loop-phrases
invariant-loop-phrases g l = separated_at l.separator g.T.Phrase.read l.fn.self ≡ prepend (map g.T.Phrase.view l.phrases.items) (separated_at l.separator g.T.Phrase.read l.self)

abbrev pub decreases-loop-phrases : goal.decreases-loop-phrases
decreases-loop-phrases g l = length l.self
