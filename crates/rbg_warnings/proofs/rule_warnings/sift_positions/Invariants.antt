-- The warnings so far are those of the numbers so far.
use Rattle.rbg_base.proofs.Common.{map, range_with_len}
use Rattle.rbg_warnings.specs.declared.warning.Warning.TheVariants.{TooGreat}
use Rattle.rbg_warnings.specs.internal.Walking.{Sifts}
use Rattle.rbg_warnings.proofs.rule_warnings.sift_positions.Given as goal

abbrev pub invariant-loop-index : goal.invariant-loop-index
invariant-loop-index l = Sifts l.game (map (TooGreat) (range_with_len (1) l.index)) l.fn.found.items l.found.items
