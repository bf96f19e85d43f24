-- The proof of `compiling::compile_tree`.
use Rattle.rbg_base.proofs.Common.{◌≡◌, List, [], length, ℕ, true, ◌∙◌, subst, with_items_is}
use Rattle.rbg_auto.specs.declared.plain.PlainNode.{PlainNode}
use Rattle.rbg_auto.specs.internal.Trees.{GivesFirsts}
use Rattle.rbg_auto.specs.internal.PlainNodes.{FillsTree}
use Rattle.rbg_auto.proofs.PlainNodeLemmas.{plain_steps}
use Rattle.rbg_auto.proofs.compiling.compile_tree.Goals as goal

pub returns : goal.returns
returns c = λ actions numbered none count.
    let tree = c.args.tree.now in
    let old = c.in_ok-nodes.nodes.items in
    let new = c.fill.new.nodes in
    let first = c.push_first.new.first.items in
    let empty = c.in_ok-may_be_empty.may_be_empty in
    let fills_at : FillsTree c.as_mut_slice.result.now new tree c.new.result.items true = c.in_ok-fill.ensures in
    let fills_old : FillsTree old new tree c.new.result.items true = subst (λ (ps : List PlainNode). FillsTree ps new tree c.new.result.items true) c.as_mut_slice.ensures.value fills_at in
    let fills : FillsTree old new tree [] true = subst (λ (xs : List ℕ). FillsTree old new tree xs true) c.new.ensures.items fills_old in
    let gives_at : GivesFirsts tree c.new-first.result.items first empty = c.in_ok-may_be_empty.ensures in
    let gives : GivesFirsts tree [] first empty = subst (λ (xs : List ℕ). GivesFirsts tree xs first empty) c.new-first.ensures.items gives_at in
    let size : length new ≡ c.in_ok-nodes.nodes.len = fills_at.size ∙ c.as_mut_slice.ensures.len in
    record { steps = rw (with_items_is c.in_ok-nodes.nodes new size) (plain_steps actions tree c.args.positions numbered none count old new first empty c.in_ok-nodes.ensures fills gives) }
