-- The first token is a new parameter.
use Rattle.rbg_base.proofs.Common.{◌∙◌, sym, arith, nat_tests}
use Rattle.rbg_macro.proofs.Heads.{repeated, unfinished, adds}
use Rattle.rbg_macro.proofs.definition.parameter.Goals as goal

pub returns-then-contains-clause-err : goal.returns-then-contains-clause-err
returns-then-contains-clause-err c =
    repeated c.args.end c.args.names.now.keys c.args.tokens.now _ (grind (arith, nat_tests)) (sym c.contains.ensures ∙ c.if-contains.true)

pub returns-then-tokens-eq1-clause-err : goal.returns-then-tokens-eq1-clause-err
returns-then-tokens-eq1-clause-err c =
    unfinished c.args.end c.args.names.now.keys c.args.tokens.now _ c.if-tokens-eq1.true
    (sym c.is_name.ensures ∙ c.if-not-is_name.false) (sym c.contains.ensures ∙ c.if-contains.false)

pub returns-clause-ok : goal.returns-clause-ok
returns-clause-ok c =
    adds c.args.names.now.keys _ c.args.tokens.now _ (grind (arith, nat_tests)) c.if-tokens-eq1.false
    (sym c.is_name.ensures ∙ c.if-not-is_name.false) (sym c.contains.ensures ∙ c.if-contains.false) c.in_ok-insert.ensures.keys
