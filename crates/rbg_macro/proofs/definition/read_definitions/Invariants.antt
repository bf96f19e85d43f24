-- All definitions are those so far, followed by those of the rest.
use Rattle.std.proofs.Common.{length, ◌-◌}
use Rattle.rbg_macro.specs.internal.Defines.{defines_of}
use Rattle.rbg_macro.proofs.Defined.{HasDefined}
use Rattle.rbg_macro.proofs.definition.read_definitions.Given as goal

abbrev pub invariant-loop-at : goal.invariant-loop-at
invariant-loop-at l = HasDefined l.tokens l.at (defines_of l.definitions)

abbrev pub decreases-loop-at : goal.decreases-loop-at
decreases-loop-at l = length l.tokens - l.at
