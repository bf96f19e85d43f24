-- The actions so far are those of the parts that were read.
use Rattle.std.proofs.Common.{map, take}
use Rattle.rbg_grammar.specs.Views.{rule_of}
use Rattle.rbg_game.proofs.NumberingCommon.{names_of, AddsParts}
use Rattle.rbg_game.proofs.rules.+numbering.Given as goal

abbrev pub invariant-number_parts-loop-part : goal.invariant-number_parts-loop-part
invariant-number_parts-loop-part l =
    AddsParts (names_of l.names) l.patterns_left (map rule_of (take l.part-index l.parts)) l.initial.actions.items l.actions.items l.rules.items
