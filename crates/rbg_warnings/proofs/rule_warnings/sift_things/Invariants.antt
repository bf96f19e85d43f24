-- The warnings so far are those of the numbers so far.
use Rattle.rbg_base.proofs.Common.{map, range_with_len}
use Rattle.rbg_warnings.specs.declared.warning.Warning.TheVariants.{Unused}
use Rattle.rbg_warnings.specs.internal.Kinds.{thing_of}
use Rattle.rbg_warnings.specs.internal.Walking.{Sifts}
use Rattle.rbg_warnings.proofs.rule_warnings.sift_things.Given as goal

abbrev pub invariant-loop-index : goal.invariant-loop-index
invariant-loop-index l = Sifts l.game (map (λ n. Unused (thing_of l.kind n)) (range_with_len l.first l.index)) l.fn.found.items l.found.items
