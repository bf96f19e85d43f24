-- The next `#` is found, or there is none.
use Rattle.rbg_base.proofs.Common.{sym, ◌∙◌, arith, length, length-map}
use Rattle.rbg_macro.specs.Token.{lexeme_of}
use Rattle.rbg_position.proofs.Tokens.{no_hash_more, token_within}
use Rattle.rbg_position.proofs.new_text.find_end.Goals as goal

pub loop-end-preserved : goal.loop-end-preserved
loop-end-preserved c =
    no_hash_more c.args.tokens.now c.args.start c.loop-end.end _ (omega (arith, c.loop-end-test.true)) (sym c.is.ensures ∙ c.if-is.false) c.loop-end.invariant

pub returns : goal.returns
returns c = record {
  begins = c.requires.begins;
  after = c.requires.within;
  within = omega (arith, length-map c.args.tokens.now lexeme_of);
  inside = λ k token after below at. c.loop-end.invariant k token after (omega (arith, below, c.loop-end-test.false)) at;
  ends = λ token at. absurd (let no = token_within c.args.tokens.now (length c.args.tokens.now) token at in omega (arith, no));
}
