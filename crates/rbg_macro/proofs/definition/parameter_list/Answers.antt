-- The list ends at a `)`, and continues after a `;`.
use Rattle.rbg_base.proofs.Common.{◌∙◌, sym, ◌+◌, take_rest}
use Rattle.rbg_macro.proofs.Heads.{list_ends, list_goes_on, two_more}
use Rattle.rbg_macro.proofs.definition.parameter_list.Goals as goal

pub returns-then-is : goal.returns-then-is
returns-then-is c =
    let rest = take_rest c.args.tokens.now c.loop-next.at in
    let adds = c.in_ok-next.ensures.ok in
    let within = two_more _ _ c.args.tokens.now c.loop-next.at _ c.loop-next.invariant.within (rw rest at adds) in
    rw (take_rest c.args.tokens.now (c.loop-next.at + 2))
    (list_ends c.args.end c.args.tokens.now c.loop-next.at c.loop-next.names.keys _ _ _ c.loop-next.invariant rest adds
    (sym c.is.ensures ∙ c.if-is.true))

pub loop-next-preserved : goal.loop-next-preserved
loop-next-preserved c =
    list_goes_on c.args.end c.args.tokens.now c.loop-next.at c.loop-next.names.keys _ _ _ c.loop-next.invariant
    (take_rest c.args.tokens.now c.loop-next.at) c.in_ok-next.ensures.ok
    (sym c.is.ensures ∙ c.if-is.false)
    (sym c.is-in-loop-next.ensures ∙ c.if-not-is.false)
