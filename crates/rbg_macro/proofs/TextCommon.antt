-- The definitions of this crate that most proofs cite, passed on from one place. Declares nothing.
pub use Rattle.rbg_macro.specs.Kinds.{closes, is_name_kind, is_number_kind, is_symbol, opens}
pub use Rattle.rbg_macro.specs.Spelling.{IsLexeme, Spells, is_number, spelling}
pub use Rattle.rbg_macro.specs.Text.{BeginsNoToken, HasFirstFault, HasTextFault, HasTokens, IsComment, IsLineEnd, IsToken, Lexes, bad_byte, after_token, blank, comment, end, is_blank, is_comment_byte, token, zero_byte, zero_in_comment}
pub use Rattle.rbg_macro.specs.Token.{Lexeme, lexeme_of}
pub use Rattle.rbg_macro.specs.declared.text_error.TextError.{TextError}
pub use Rattle.rbg_macro.specs.declared.text_error.TextError.TheVariants.{BadByte, Memory, TooLong, ZeroByte}
pub use Rattle.rbg_macro.specs.declared.text_limits.TheConstants.{MAX_TEXT}
pub use Rattle.rbg_macro.specs.declared.token.Symbol.{Symbol}
pub use Rattle.rbg_macro.specs.declared.token.Symbol.TheVariants.{Arrow, CloseBrace, CloseBracket, CloseParenthesis, Colon, Comma, Dollar, DoubleArrow, DoubleEquals, Equals, Exclamation, GreaterOrEqual, GreaterThan, Hash, LessOrEqual, LessThan, Minus, NotEquals, OpenBrace, OpenBracket, OpenParenthesis, Plus, Question, Semicolon, Slash, Star, Tilde}
pub use Rattle.rbg_macro.specs.declared.token.Token.{Token}
pub use Rattle.rbg_macro.specs.declared.token.TokenKind.{TokenKind}
pub use Rattle.rbg_macro.specs.internal.Part.{BeginsComment, BeginsNoSymbol, IsLongestSymbol, Skips, Takes}
