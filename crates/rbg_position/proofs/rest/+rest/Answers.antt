-- What is gathered is the rest.
use Rattle.rbg_base.proofs.Common.{◌≡◌, ◌+◌, ap, arith}
use Rattle.rbg_position.specs.internal.RestParts.{parts_of}
use Rattle.rbg_position.proofs.RestFound.{found_item_of_sequence, found_item_of_sum, found_position, found_star, take_rest}
use Rattle.rbg_position.proofs.rest.+rest.Goals as goal

pub push_rest-returns-then-other-position-clause-found : goal.push_rest-returns-then-other-position-clause-found
push_rest-returns-then-other-position-clause-found t c = λ is.
    found_position c.args.actions.now c.args.rule.now c.in-Act.other c.args.position c.in-Act.is c.if-other-position.true (c.is_act.ensures is) _

pub push_rest-returns-in_ok-push-in-Star-clause-found : goal.push_rest-returns-in_ok-push-in-Star-clause-found
push_rest-returns-in_ok-push-in-Star-clause-found t c = λ _.
    found_star c.args.actions.now c.args.rule c.in-Star.inner c.in-Star.is _ c.deref-in-Star.ensures c.args.position _ _ _
    (c.in_ok-push_rest-in-Star.ensures.found c.if-not-branch.false) c.in_ok-push-in-Star.ensures.items

pub push_rest_of_sum-returns-then-branch-clause-found : goal.push_rest_of_sum-returns-then-branch-clause-found
push_rest_of_sum-returns-then-branch-clause-found t c = λ _.
    found_item_of_sum c.args.actions.now c.args.inner.now c.loop-index.index c.index-inner-index.result (omega arith) c.index-inner-index.is c.args.position _ _ _
    (ap (λ parts. parts_of c.args.actions.now parts.items) c.loop-index.invariant) (c.in_ok-push_rest.ensures.found c.if-branch.true)

pub push_rest_of_sequence-returns-then-branch-clause-found : goal.push_rest_of_sequence-returns-then-branch-clause-found
push_rest_of_sequence-returns-then-branch-clause-found t c = λ _.
    found_item_of_sequence c.args.actions.now c.args.inner.now c.loop-index.index c.index-inner-index.result (omega arith) c.index-inner-index.is c.args.position _ _ _ _
    (ap (λ parts. parts_of c.args.actions.now parts.items) c.loop-index.invariant) (c.in_ok-push_rest.ensures.found c.if-branch.true) _ (take_rest (c.loop-index.index + 1) c.args.inner.now) c.in_ok-push_all.ensures
