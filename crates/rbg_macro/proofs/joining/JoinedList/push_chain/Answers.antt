-- The chain's token is added after the earlier ones, with its mark.
use Rattle.std.proofs.Common.{◌∙◌}
use Rattle.rbg_macro.proofs.JoinedLists.{adds_chain, adds_mark}
use Rattle.rbg_macro.proofs.joining.JoinedList.push_chain.Goals as goal

pub returns-clause-ok : goal.returns-clause-ok
returns-clause-ok c =
    rw (← c.self.view_is) (adds_chain c.self.inside.texts.items _ c.self.inside.tokens.items _ c.args.tokens.now _ c.in_ok-kind.kind c.in_ok-kind.count
    c.len-start.result c.len-end.result _ c.self.invariant c.in_ok-kind.ensures.front c.in_ok-kind.ensures.ok
    (c.len-start.ensures ∙ c.self.inside.texts.ok.0) (c.len-end.ensures ∙ c.join_chain.new.texts.ok.0) c.in_ok-push.ensures.items)

pub returns-clause-marks : goal.returns-clause-marks
returns-clause-marks c =
    let is = rw c.deref.ensures.value at c.token_at.ensures in
    rw (← c.self.view_is) (adds_mark c.args.macros.now c.self.inside.texts.items c.join_chain.new.texts.items c.self.inside.tokens.items c.push.new.self.items _ c.mark-token.result c.token_at.result
    c.self.invariant c.in_ok-kind.ensures.front c.in_ok-push.ensures.items c.mark-token.ensures.token is c.mark-token.ensures.marked)
