-- The body so far is that of the tokens so far.
use Rattle.std.proofs.Common.{◌≡◌, map, take}
use Rattle.rbg_macro.proofs.Common.{body_of, item_in, texts_in}
use Rattle.rbg_macro.specs.Token.{lexeme_of}
use Rattle.rbg_macro.proofs.macros.Template.new.Given as goal

abbrev pub invariant-loop-token : goal.invariant-loop-token
invariant-loop-token l = map item_in l.body.items ≡ body_of (texts_in l.parameters.keys) (map lexeme_of (take l.token-index l.tokens))
