-- The templates so far are those of the first macros, marked.
use Rattle.rbg_base.proofs.Common.{length, take, ◌-◌, AllZip}
use Rattle.rbg_macro.specs.internal.Marks.{IsMarkedTemplate}
use Rattle.rbg_macro.proofs.marking.MarkedMacros.new.Given as goal

abbrev pub invariant-loop-template : goal.invariant-loop-template
invariant-loop-template l = AllZip (IsMarkedTemplate l.fn.macros) (take (length l.templates.items) l.fn.macros) l.templates.items

abbrev pub decreases-loop-template : goal.decreases-loop-template
decreases-loop-template l = length l.fn.macros - length l.templates.items
