use Rattle.std.proofs.Common.{◌≡◌, drop, slice_get}
use Rattle.rbg_grammar.specs.Sections.{sections_of}
use Rattle.rbg_syntax.proofs.sections.find.Given as goal

abbrev pub invariant-loop-index : goal.invariant-loop-index
invariant-loop-index l = slice_get (sections_of l.kind (drop l.index l.source)) 0 ≡ slice_get (sections_of l.kind l.source) 0
