-- Tests on the kinds of tokens.
use Rattle.std.specs.Prelude.{Bool, true, false}
use denote.Enum.Bare.{sameb}
use Rattle.rbg_macro.specs.contracts.token.Symbol.{the_type}
use Rattle.rbg_macro.specs.declared.token.Symbol.{Symbol}
use Rattle.rbg_macro.specs.declared.token.Symbol.TheVariants.{OpenParenthesis, CloseParenthesis, OpenBracket}
use Rattle.rbg_macro.specs.declared.token.Symbol.TheVariants.{CloseBracket, OpenBrace, CloseBrace}
use Rattle.rbg_macro.specs.declared.token.TokenKind.{TokenKind}
use Rattle.rbg_macro.specs.declared.token.TokenKind.TheVariants.{Name, Number, Symbol as A_Symbol}

abbrev pub is_name_kind : TokenKind → Bool
is_name_kind Name = true
is_name_kind Number = false
is_name_kind (A_Symbol s) = false

abbrev pub is_number_kind : TokenKind → Bool
is_number_kind Name = false
is_number_kind Number = true
is_number_kind (A_Symbol s) = false

abbrev pub is_symbol : Symbol → TokenKind → Bool
is_symbol s Name = false
is_symbol s Number = false
is_symbol s (A_Symbol own) = sameb the_type own s

-- `(`, `[` and `{`
abbrev pub opens : TokenKind → Bool
opens (A_Symbol OpenParenthesis) = true
opens (A_Symbol OpenBracket) = true
opens (A_Symbol OpenBrace) = true
opens _ = false

-- `)`, `]` and `}`
abbrev pub closes : TokenKind → Bool
closes (A_Symbol CloseParenthesis) = true
closes (A_Symbol CloseBracket) = true
closes (A_Symbol CloseBrace) = true
closes _ = false
