-- A text's tokens are found one by one.
use Rattle.rbg_base.proofs.Common.{refl, arith, map, take_rest}
use Rattle.rbg_macro.proofs.Scan.{read_token, has_tokens, has_fault}
use Rattle.rbg_macro.proofs.SpeltTokens.{tokens_are_lexemes}
use Rattle.rbg_macro.specs.Token.{lexeme_of}
use Rattle.rbg_macro.proofs.lexer.tokens.Goals as goal

pub loop-at-preserved : goal.loop-at-preserved
loop-at-preserved c =
    read_token c.args.text.now c.loop-at.at c.in-Token.len _ c.in-Token.kind _ c.loop-at.tokens.items _
    c.loop-at.invariant (take_rest c.args.text.now c.loop-at.at) c.in-Token.ensures refl
    c.in_ok-push-in-Token.ensures.items

pub returns-in-ZeroByte-clause-fault : goal.returns-in-ZeroByte-clause-fault
returns-in-ZeroByte-clause-fault c =
    has_fault c.args.text.now c.loop-at.at _ c.loop-at.tokens.items _ c.loop-at.invariant
    (take_rest c.args.text.now c.loop-at.at) (c.in-ZeroByte.ensures c.loop-at.at) (omega arith)

pub returns-in-BadByte-clause-fault : goal.returns-in-BadByte-clause-fault
returns-in-BadByte-clause-fault c =
    has_fault c.args.text.now c.loop-at.at _ c.loop-at.tokens.items _ c.loop-at.invariant
    (take_rest c.args.text.now c.loop-at.at) (c.in-BadByte.ensures c.loop-at.at) (omega arith)

pub returns-clause-tokens : goal.returns-clause-tokens
returns-clause-tokens c =
    rw c.new.ensures (has_tokens c.args.text.now c.loop-at.at c.loop-at.tokens.items c.loop-at.invariant (omega arith) (omega arith))

pub new-requires : goal.new-requires
new-requires c =
    tokens_are_lexemes c.args.text.now (map lexeme_of c.loop-at.tokens.items)
    (has_tokens c.args.text.now c.loop-at.at c.loop-at.tokens.items c.loop-at.invariant (omega arith) (omega arith))
