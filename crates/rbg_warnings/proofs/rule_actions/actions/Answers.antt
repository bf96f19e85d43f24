-- One part after the other.
use Rattle.std.proofs.Common.{map, refl, arith, length, sym, ◌≤◌, ◌+◌, [], append-nil, subst}
use Rattle.std.proofs.lemmas.List.{drop_all}
use Rattle.rbg_warnings.specs.Actions.{AreCut, nothing}
use Rattle.rbg_warnings.proofs.Parts.{grown, within_rest, step_at}
use Rattle.rbg_warnings.proofs.rule_actions.actions.Goals as goal

pub overflow_add-end-in-loop-at : goal.overflow_add-end-in-loop-at
overflow_add-end-in-loop-at c =
    let there : c.loop-at.at + 1 + c.part_of-part.result.further ≤ length c.args.rules.now = within_rest _ _ _ _ _ c.loop-at-test.true c.part_of-part.ensures in
    omega (arith, there)

pub slice_bounds-push_part-end : goal.slice_bounds-push_part-end
slice_bounds-push_part-end c =
    let there : c.loop-at.at + 1 + c.part_of-part.result.further ≤ length c.args.rules.now = within_rest _ _ _ _ _ c.loop-at-test.true c.part_of-part.ensures in
    omega (arith, there)

pub loop-at-preserved : goal.loop-at-preserved
loop-at-preserved c =
    step_at c.args.rules.now c.loop-at.at c.part_of-part.result.further c.part_of-part.result.is_action _ _
    (map (λ tokens. tokens.now) c.loop-at.found.items) _ c.loop-at-test.true refl c.part_of-part.ensures
    (grown (λ tokens. tokens.now) c.part_of-part.result.is_action c.loop-at.found.items c.push_part.new.found.items _ c.in_ok-push_part.ensures) c.loop-at.invariant

pub returns : goal.returns
returns c =
    let all : length c.args.rules.now ≤ c.loop-at.at = omega (arith, c.loop-at-test.false) in
    subst (AreCut c.args.rules.now) (append-nil _)
    (c.loop-at.invariant [] (subst (λ ts. AreCut ts []) (sym (drop_all c.loop-at.at c.args.rules.now all)) nothing))
