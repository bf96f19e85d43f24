-- The earlier tokens stay, and the new one is the last.
use Rattle.std.proofs.Common.{◌∷◌, [], ◌++◌, List, ◌∙◌, ap}
use Rattle.rbg_macro.specs.internal.ReadTokens.{read_lexeme}
use Rattle.rbg_macro.specs.Token.{Lexeme}
use Rattle.rbg_macro.proofs.Spans.{kept_more}
use Rattle.rbg_macro.proofs.buffer.TokenBuffer.push.Goals as goal

pub returns : goal.returns
returns c =
    kept_more c.self.inside.joined.items _ c.self.inside.tokens.items _ (read_lexeme c.args.token.now) c.in_ok-kept.kept c.self.invariant
    c.keep.ensures.front c.in_ok-kept.ensures.ok c.in_ok-push.ensures.items
    ∙ ap (λ (ts : List Lexeme). ts ++ read_lexeme c.args.token.now ∷ []) c.self.view_is
