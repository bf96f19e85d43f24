use Rattle.std.proofs.Common.{◌≡◌, take}
use Rattle.rbg_grammar.specs.Sections.{count_of}
use Rattle.rbg_syntax.proofs.sections.stands_before.Given as goal

abbrev pub invariant-loop-index : goal.invariant-loop-index
invariant-loop-index l = count_of l.kind (take l.index l.source) ≡ 0
