-- No action up to this position uses the thing.
use Rattle.rbg_warnings.specs.internal.Walking.{IsUnusedUpTo}
use Rattle.rbg_warnings.proofs.rule_warnings.is_written.Given as goal

abbrev pub invariant-loop-index : goal.invariant-loop-index
invariant-loop-index l = IsUnusedUpTo l.game l.thing l.index
