-- What of a text stays the same when its layout is changed.
use Rattle.std.specs.Prelude.{ℕ, List, map, ◌≡◌}
use Rattle.rbg_macro.specs.Text.{HasTokens}
use Rattle.rbg_macro.specs.Token.{Lexeme}
use Rattle.rbg_macro.specs.declared.token.Token.{Token}
use Rattle.rbg_macro.specs.declared.token.TokenKind.{TokenKind}

-- a token's kind and its bytes
abbrev pub spelling_of : Lexeme → TokenKind × List ℕ
spelling_of t = (t.kind, t.text)

-- the same of a token of the code
abbrev pub spelled_as : Token → TokenKind × List ℕ
spelled_as t = (t.kind, t.text.now)

-- Both texts can be cut into tokens, and these are the same but for their offsets.
pub record HasSameTokens (old new : List ℕ) : Type 0 where
  pub old_tokens : List Lexeme
  pub new_tokens : List Lexeme
  pub of_old : HasTokens old old_tokens
  pub of_new : HasTokens new new_tokens
  pub same : map spelling_of old_tokens ≡ map spelling_of new_tokens
