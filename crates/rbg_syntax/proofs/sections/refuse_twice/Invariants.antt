use Rattle.std.proofs.Common.{take}
use Rattle.rbg_grammar.specs.Sections.{AreDifferent}
use Rattle.rbg_syntax.proofs.sections.refuse_twice.Given as goal

abbrev pub invariant-loop-index : goal.invariant-loop-index
invariant-loop-index l = AreDifferent (take l.index l.source)
