-- What was found is written, or the question is above the limits.
use Rattle.rbg_base.proofs.Common.{codes, on_ok_weaker}
use Rattle.rbg_operations.specs.After.GoesOnAt.{too_hard}
use Rattle.rbg_operations.proofs.ListingLemmas.{both_hold, over_error}
use Rattle.rbg_operations.proofs.place.write_place.Goals as goal

pub returns-in-Ok : goal.returns-in-Ok
returns-in-Ok c = on_ok_weaker c.write_found.result (λ give. give c.in-Ok.ensures.lists) c.write_found.ensures

pub returns-in-Err : goal.returns-in-Err
returns-in-Err c =
    both_hold c.write_limit.result _ _ _ (λ is limit. (codes "over\n", too_hard (c.in-Err.ensures.given_up.heavy (over_error c.in-Err.over limit)), is))
    c.write_limit.ensures.written c.write_limit.ensures.limit
