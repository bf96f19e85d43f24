use Rattle.rbg_base.proofs.Common.{arith, err_from_is_err_and}
use Rattle.rbg_game.specs.internal.Actions.{too_many, too_deep, no_memory_left}
use Rattle.rbg_game.proofs.actions.open_pattern.Goals as goal

pub returns-then-len-eq-MAX_POSITIONS-clause-fault : goal.returns-then-len-eq-MAX_POSITIONS-clause-fault
returns-then-len-eq-MAX_POSITIONS-clause-fault c = too_many (omega arith)

pub returns-then-patterns_left-eq0-clause-fault : goal.returns-then-patterns_left-eq0-clause-fault
returns-then-patterns_left-eq0-clause-fault c = too_deep (omega arith)

pub returns-in_err-push-clause-fault : goal.returns-in_err-push-clause-fault
returns-in_err-push-clause-fault c =
    let p = err_from_is_err_and c.from_residual.result c.from_residual.ensures.1 in
    rw (p.1, p.2) no_memory_left
