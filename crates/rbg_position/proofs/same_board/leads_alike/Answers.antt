-- Boards lead to the same vertices if their ways are the same.
use Rattle.std.proofs.Common.{◌≡◌, ℕ, sym, subst, ◌∙◌, arith}
use Rattle.rbg_board.specs.Graph.{Graph, HasWidth}
use Rattle.rbg_position.proofs.SameBoards.{same_ways, lead_alike}
use Rattle.rbg_position.proofs.same_board.leads_alike.Goals as goal

carried : (width : ℕ) (lent g : Graph) → lent ≡ g → HasWidth width lent → HasWidth width g
carried width lent g is wide = subst (HasWidth width) is wide

pub returns-then-width-2-clause-whole : goal.returns-then-width-2-clause-whole
returns-then-width-2-clause-whole c = λ narrow same.
    let few = narrow _ (carried _ _ _ c.lend.ensures c.width-width.ensures.width) in
    absurd (omega (arith, few, c.if-width-2.true))

pub returns-then-not-leads_alike_from-clause-whole : goal.returns-then-not-leads_alike_from-clause-whole
returns-then-not-leads_alike_from-clause-whole c = λ narrow same.
    c.if-not-leads_alike_from.ensures.1 (λ d within. lead_alike c.args.new.now c.args.old.now c.loop-vertex.vertex d same)

pub returns-clause-same : goal.returns-clause-same
returns-clause-same c = λ _.
    same_ways c.args.new.now c.args.old.now c.width-width.result
    (subst (λ w. HasWidth w c.args.new.now) (sym c.if-width.false) (carried _ _ _ c.lend-2.ensures c.width.ensures.width))
    (carried _ _ _ c.lend.ensures c.width-width.ensures.width)
    (sym c.len.ensures.count ∙ (sym c.if-count-len.false ∙ c.len-count.ensures.count))
    (λ v d within here. c.loop-vertex.invariant v d (omega (arith, within, c.loop-vertex-test.false, c.len.ensures.count, c.if-count-len.false)) here)
