-- The expanded sections are those so far, followed by those of the rest.
use Rattle.rbg_macro.proofs.Sections.{HasExpanded}
use Rattle.rbg_macro.proofs.expansion.expand_sections.Given as goal

abbrev pub invariant-loop-body : goal.invariant-loop-body
invariant-loop-body l = HasExpanded l.macros l.bodies l.body-index l.expanded l.sections.items
