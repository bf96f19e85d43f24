use Rattle.std.proofs.Common.{◌≡◌, length, map}
use Rattle.rbg_grammar.specs.Reading.{repeated_at}
use Rattle.rbg_grammar.proofs.Turns.{prepend}
use Rattle.rbg_syntax.proofs.parser.Parser.repeated.Given as goal

abbrev pub invariant-loop-alloc : goal.invariant-loop-alloc
invariant-loop-alloc g l = repeated_at g.T.Phrase.begins g.T.Phrase.read l.fn.self ≡ prepend (map g.T.Phrase.view l.found.items) (repeated_at g.T.Phrase.begins g.T.Phrase.read l.self)

abbrev pub decreases-loop-alloc : goal.decreases-loop-alloc
decreases-loop-alloc g l = length l.self
