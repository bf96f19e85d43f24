-- A parameter's name is the place of its argument.
use Rattle.std.proofs.Common.{◌∙◌, sym}
use Rattle.rbg_macro.specs.Token.{lexeme_of}
use Rattle.rbg_macro.proofs.Names.{place_of, word_of}
use Rattle.rbg_macro.proofs.macros.word_or_place.Goals as goal

pub returns-in-Some : goal.returns-in-Some
returns-in-Some c = place_of (lexeme_of c.args.token.now) c.args.parameters.now.keys c.in-Some.index (sym c.is_name.ensures ∙ c.if-not-is_name.false) c.in-Some.ensures.index

pub returns-in-None : goal.returns-in-None
returns-in-None c = rw c.of_text-in-None.ensures (word_of (lexeme_of c.args.token.now) c.args.parameters.now.keys (sym c.is_name.ensures ∙ c.if-not-is_name.false) c.in-None.ensures.index)
