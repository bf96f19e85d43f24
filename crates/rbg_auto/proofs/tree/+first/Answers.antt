-- The proofs of `tree::push_first` and the two functions over parts.
use Rattle.rbg_base.proofs.Common.{rules, ◌≡◌, ℕ, Bool, true, false, List, subst, arith, IfOk-weaker}
use Rattle.rbg_rules.specs.declared.rule.Rule.{Rule}
use Rattle.rbg_rules.specs.declared.rule.Rule.TheVariants.{Then, Or}
use Rattle.rbg_auto.specs.internal.Trees.{GivesFirsts, GivesFirstsOfSequence, GivesFirstsOfSum}
use Rattle.rbg_auto.proofs.TreeLemmas.{firsts_act, firsts_pattern, firsts_then, firsts_or, firsts_star, sequence_goes_on, sequence_stops, sum_with_empty, sum_without_empty}
use Rattle.rbg_auto.proofs.tree.+first.Goals.{push_first_of_sum-then-branch, push_first_of_sum-else-branch}
use Rattle.rbg_auto.proofs.tree.+first.Goals as goal

-- Whether a part may be empty is known.
told : (part : Rule) {old new : List ℕ} {a b : Bool} → a ≡ b → GivesFirsts part old new a → GivesFirsts part old new b
told part {old} {new} = subst (λ (b : Bool). GivesFirsts part old new b)

pub push_first-returns-in_ok-push-in-Act : goal.push_first-returns-in_ok-push-in-Act
push_first-returns-in_ok-push-in-Act t c = rw c.in-Act.is (firsts_act c.in-Act.position c.args.first.now.items c.push.new.self.items c.in_ok-push-in-Act.ensures.items)

pub push_first-returns-in_ok-push-in-Pattern : goal.push_first-returns-in_ok-push-in-Pattern
push_first-returns-in_ok-push-in-Pattern t c = rw c.in-Pattern.is (firsts_pattern c.in-Pattern.position c.in-Pattern.inside c.args.first.now.items c.push-in-Pattern.new.self.items c.in_ok-push-in-Pattern.ensures.items)

pub push_first-returns-in-Then : goal.push_first-returns-in-Then
push_first-returns-in-Then t c =
    let old = c.args.first.now.items in
    let new = c.push_first_of_sequence.new.first.items in
    let parts = c.in-Then.parts in
    rw c.in-Then.is (IfOk-weaker c.push_first_of_sequence.result (λ empty. GivesFirstsOfSequence c.as_slice.result.now old new empty) (λ empty. GivesFirsts (Then parts) old new empty)
    (λ empty one. firsts_then parts old new empty (subst (λ (rs : List Rule). GivesFirstsOfSequence rs old new empty) c.as_slice.ensures.value one)) c.push_first_of_sequence.ensures)

pub push_first-returns-in-Or : goal.push_first-returns-in-Or
push_first-returns-in-Or t c =
    let old = c.args.first.now.items in
    let new = c.push_first_of_sum.new.first.items in
    let parts = c.in-Or.parts in
    rw c.in-Or.is (IfOk-weaker c.push_first_of_sum.result (λ empty. GivesFirstsOfSum c.as_slice-in-Or.result.now old new empty) (λ empty. GivesFirsts (Or parts) old new empty)
    (λ empty one. firsts_or parts old new empty (subst (λ (rs : List Rule). GivesFirstsOfSum rs old new empty) c.as_slice-in-Or.ensures.value one)) c.push_first_of_sum.ensures)

pub push_first-returns-in_ok-push_first-in-Star : goal.push_first-returns-in_ok-push_first-in-Star
push_first-returns-in_ok-push_first-in-Star t c =
    let old = c.args.first.now.items in
    let new = c.push_first.new.first.items in
    rw c.in-Star.is (firsts_star c.in-Star.part old new c.in_ok-push_first-in-Star.field-0 (subst (λ (r : Rule). GivesFirsts r old new c.in_ok-push_first-in-Star.field-0) c.deref.ensures c.in_ok-push_first-in-Star.ensures))

pub push_first_of_sequence-returns-then-not-branch :
    goal.push_first_of_sequence-returns-then-not-branch
push_first_of_sequence-returns-then-not-branch t c =
    let none : c.in_ok-push_first.field-0 ≡ false = search rules in
    sequence_stops c.args.parts.now c.loop-part.part-index c.part-item.result c.args.first.now.items c.loop-part.first.items c.push_first.new.first.items (omega arith) c.part-item.is c.loop-part.invariant (told c.part-item.result none c.in_ok-push_first.ensures)

pub push_first_of_sequence-loop-part-preserved : goal.push_first_of_sequence-loop-part-preserved
push_first_of_sequence-loop-part-preserved t c =
    let some : c.in_ok-push_first.field-0 ≡ true = search rules in
    sequence_goes_on c.args.parts.now c.loop-part.part-index c.part-item.result c.args.first.now.items c.loop-part.first.items c.push_first.new.first.items (omega arith) c.part-item.is c.loop-part.invariant (told c.part-item.result some c.in_ok-push_first.ensures)

pub push_first_of_sum-loop-part-preserved : goal.push_first_of_sum-loop-part-preserved
push_first_of_sum-loop-part-preserved t c =
    let new = c.push_first.new.first.items in
    elim c.if-branch.branch [
      | push_first_of_sum-then-branch w ↦
          let some : c.in_ok-push_first.field-0 ≡ true = search rules in
          rw w.may_be_empty-is
          (sum_with_empty c.args.parts.now c.loop-part.part-index c.part-item.result c.args.first.now.items c.loop-part.first.items new c.loop-part.may_be_empty (omega arith) c.part-item.is c.loop-part.invariant
          (told c.part-item.result some c.in_ok-push_first.ensures))
      | push_first_of_sum-else-branch w ↦
          let none : c.in_ok-push_first.field-0 ≡ false = search rules in
          rw w.may_be_empty-is
          (sum_without_empty c.args.parts.now c.loop-part.part-index c.part-item.result c.args.first.now.items c.loop-part.first.items new c.loop-part.may_be_empty (omega arith) c.part-item.is c.loop-part.invariant
          (told c.part-item.result none c.in_ok-push_first.ensures))
    ]
