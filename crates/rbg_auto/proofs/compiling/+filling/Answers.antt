-- The proofs of `compiling::fill` and the two functions over parts.
use Rattle.rbg_base.proofs.Common.{rules, ◌≡◌, ◌<◌, [], length, List, ℕ, Bool, true, refl, sym, subst, arith, same_from_all_zip, IfOk-weaker}
use Rattle.rbg_rules.specs.declared.rule.Rule.{Rule}
use Rattle.rbg_rules.specs.declared.rule.Rule.TheVariants.{Star}
use Rattle.rbg_auto.specs.internal.Trees.{GivesFirsts, IsAgain}
use Rattle.rbg_auto.specs.internal.PlainNodes.{FillsTree, FillsSequence, FillsSum}
use Rattle.rbg_auto.proofs.PlainNodeLemmas.{fills_act, fills_pattern, fills_then, fills_or, fills_star, OwesNodes, filled_more, owes_nodes_all, part_filled, sequence_filled}
use Rattle.rbg_auto.proofs.compiling.+filling.Goals as goal

pub fill-returns-in_ok-clone-in-Act : goal.fill-returns-in_ok-clone-in-Act
fill-returns-in_ok-clone-in-Act t c =
    let next : c.in_ok-clone-in-Act.field-0.items ≡ c.args.rest.now.positions.items = same_from_all_zip _ _ _ c.in_ok-clone-in-Act.ensures.cases.0 (λ x y e. search rules) in
    rw c.in-Act.is (fills_act c.args.nodes.now c.set.new.nodes c.in-Act.position _ c.args.rest.now.positions.items c.args.rest.now.may_end next refl c.new.ensures.items refl c.set.ensures)

pub fill-returns-in_ok-clone-in-Pattern : goal.fill-returns-in_ok-clone-in-Pattern
fill-returns-in_ok-clone-in-Pattern t c =
    let old = c.args.nodes.now in
    let level = c.fill.new.nodes in
    let inside = c.in-Pattern.inside in
    let first = c.push_first.new.first.items in
    let empty = c.in_ok-may_be_empty-in-Pattern.may_be_empty in
    let next : c.in_ok-clone-in-Pattern.field-0.items ≡ c.args.rest.now.positions.items = same_from_all_zip _ _ _ c.in_ok-clone-in-Pattern.ensures.cases.0 (λ x y e. search rules) in
    let fills_at : FillsTree old level c.deref.result.now c.new-in-Pattern.result.items true = c.in_ok-fill-in-Pattern.ensures in
    let fills_rule : FillsTree old level inside.value c.new-in-Pattern.result.items true = subst (λ (r : Rule). FillsTree old level r c.new-in-Pattern.result.items true) c.deref.ensures fills_at in
    let fills : FillsTree old level inside.value [] true = subst (λ (xs : List ℕ). FillsTree old level inside.value xs true) c.new-in-Pattern.ensures.items fills_rule in
    let gives_at : GivesFirsts c.deref-in-Pattern.result.now c.new-first.result.items first empty = c.in_ok-may_be_empty-in-Pattern.ensures in
    let gives_rule : GivesFirsts inside.value c.new-first.result.items first empty = subst (λ (r : Rule). GivesFirsts r c.new-first.result.items first empty) c.deref-in-Pattern.ensures gives_at in
    let gives : GivesFirsts inside.value [] first empty = subst (λ (xs : List ℕ). GivesFirsts inside.value xs first empty) c.new-first.ensures.items gives_rule in
    rw c.in-Pattern.is (fills_pattern old level c.set-in-Pattern.new.nodes c.in-Pattern.position inside _ c.args.rest.now.positions.items c.args.rest.now.may_end fills gives next refl c.set-in-Pattern.ensures)

pub fill-returns-in-Then : goal.fill-returns-in-Then
fill-returns-in-Then t c =
    rw c.in-Then.is (IfOk-weaker c.fill_sequence.result _ _
    (λ _ one. fills_then _ _ _ _ c.in-Then.parts (subst (λ (rs : List Rule). FillsSequence c.args.nodes.now c.fill_sequence.new.nodes rs c.args.rest.now.positions.items c.args.rest.now.may_end) c.as_slice.ensures.value one)) c.fill_sequence.ensures)

pub fill-returns-in-Or : goal.fill-returns-in-Or
fill-returns-in-Or t c =
    rw c.in-Or.is (IfOk-weaker c.fill_sum.result _ _
    (λ _ one. fills_or _ _ _ _ c.in-Or.parts (subst (λ (rs : List Rule). FillsSum c.args.nodes.now c.fill_sum.new.nodes rs c.args.rest.now.positions.items c.args.rest.now.may_end) c.as_slice-in-Or.ensures.value one)) c.fill_sum.ensures)

pub fill-returns-in_ok-again-in-Star : goal.fill-returns-in_ok-again-in-Star
fill-returns-in_ok-again-in-Star t c =
    let old = c.args.nodes.now in
    let new = c.fill-in-Star.new.nodes in
    let k = c.args.rest.now.positions.items in
    let end = c.args.rest.now.may_end in
    let part = c.in-Star.part in
    let m = c.in_ok-again-in-Star.field-0.positions.items in
    let last = c.in_ok-again-in-Star.field-0.may_end in
    let again : IsAgain part.value k m = subst (λ (r : Rule). IsAgain r k m) c.deref-in-Star-2.ensures c.in_ok-again-in-Star.ensures.positions in
    rw c.in-Star.is (IfOk-weaker c.fill-in-Star.result (λ _. FillsTree old new c.deref-in-Star.result.now m last) (λ _. FillsTree old new (Star part) k end)
    (λ _ one. fills_star old new k end part m again (subst (λ (e : Bool). FillsTree old new part.value m e) c.in_ok-again-in-Star.ensures.may_end (subst (λ (r : Rule). FillsTree old new r m last) c.deref-in-Star.ensures one))) c.fill-in-Star.ensures)

pub fill_sequence-loop-left-init : goal.fill_sequence-loop-left-init
fill_sequence-loop-left-init t c =
    let old = c.args.nodes.now in
    let parts = c.args.parts.now in
    let k = c.args.rest.now.positions.items in
    let end = c.args.rest.now.may_end in
    let same : k ≡ c.in_ok-clone.field-0.items = sym (same_from_all_zip _ _ _ c.in_ok-clone.ensures.cases.0 (λ x y e. search rules)) in
    record {
      owes = subst (λ (m : List ℕ). OwesNodes old old parts (length parts) k end m end) same (owes_nodes_all old parts k end (length parts) (omega arith));
      below = omega arith;
    }

pub fill_sequence-loop-left-preserved : goal.fill_sequence-loop-left-preserved
fill_sequence-loop-left-preserved t c =
    let some : 0 < c.loop-left.left = c.loop-left-test.true in
    let was = c.loop-left.invariant.below in
    record {
      owes = part_filled some (omega (arith, some, was)) c.index-parts-left.is c.loop-left.invariant.owes c.in_ok-fill.ensures c.in_ok-later.ensures;
      below = omega (arith, was);
    }

pub fill_sequence-returns : goal.fill_sequence-returns
fill_sequence-returns t c =
    let test = c.loop-left-test.false in
    sequence_filled (omega (arith, test)) c.loop-left.invariant.owes

pub fill_sum-loop-part-preserved : goal.fill_sum-loop-part-preserved
fill_sum-loop-part-preserved t c = filled_more c.args.nodes.now c.args.parts.now c.args.rest.now.positions.items c.args.rest.now.may_end c.loop-part.nodes c.fill.new.nodes c.loop-part.part-index c.part-item.result (omega arith) c.part-item.is c.loop-part.invariant c.in_ok-fill.ensures
