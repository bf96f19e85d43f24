-- A chain continues as long as a `~` follows.
use Rattle.rbg_base.proofs.Common.{◌∙◌, sym, take_rest}
use Rattle.rbg_macro.proofs.Chains.{first_word, one_more_joined, chain_joined}
use Rattle.rbg_macro.proofs.joining.join_chain.Goals as goal

pub loop-texts-init : goal.loop-texts-init
loop-texts-init c =
    first_word c.args.tokens.now _ c.args.texts.now.items _ c.len-start.result c.requires (c.len-start.ensures ∙ c.args.texts.now.ok.0)
    (rw c.text.ensures at c.in_ok-extend_from_slice.ensures.items)

pub loop-texts-preserved : goal.loop-texts-preserved
loop-texts-preserved c =
    one_more_joined c.args.tokens.now _ c.args.texts.now.items c.loop-texts.texts.items _ c.len-start.result c.loop-texts.count c.loop-texts.kind c.in_ok-kind.kind
    c.loop-texts.invariant (take_rest c.args.tokens.now c.loop-texts.count) c.in_ok-kind.ensures.ok
    c.in_ok-kind.ensures.front

pub returns-clause-ok : goal.returns-clause-ok
returns-clause-ok c =
    chain_joined c.args.tokens.now _ c.args.texts.now.items c.loop-texts.texts.items c.len-start.result c.loop-texts.count c.loop-texts.kind
    c.loop-texts.invariant (take_rest c.args.tokens.now c.loop-texts.count)
    (sym c.begins_with_tilde.ensures ∙ c.loop-texts-test.false)
