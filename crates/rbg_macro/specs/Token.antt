-- A token as contracts see it.
use Rattle.std.specs.Prelude.{ℕ, List}
use Rattle.rbg_macro.specs.declared.token.TokenKind.{TokenKind}
use Rattle.rbg_macro.specs.declared.token.Token.{Token}

-- a token: its kind, its bytes, and its offset in the text
pub record Lexeme : Type 0 where
  pub kind : TokenKind
  pub text : List ℕ
  pub at : ℕ

-- a token, apart from where its bytes are in memory
abbrev pub lexeme_of : Token → Lexeme
lexeme_of t = record { kind = t.kind; text = t.text.now; at = t.at }
