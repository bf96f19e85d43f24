-- No section before this one is that of a board.
use Rattle.std.proofs.Common.{◌≡◌, drop}
use Rattle.rbg_grammar.specs.Sections.{sections_of}
use Rattle.rbg_macro.specs.declared.source.SectionKind.TheVariants.{Board}
use Rattle.rbg_position.proofs.board.find_board.Given as goal

abbrev pub invariant-loop-index : goal.invariant-loop-index
invariant-loop-index l = sections_of Board l.source ≡ sections_of Board (drop l.index l.source)
