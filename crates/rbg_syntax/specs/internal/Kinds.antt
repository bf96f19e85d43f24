-- Whether a token is of a kind.
use Rattle.std.specs.Prelude.{Bool}
use Rattle.rbg_macro.specs.Kinds.{is_name_kind, is_number_kind, is_symbol}
use Rattle.rbg_macro.specs.declared.token.TokenKind.{TokenKind}
use Rattle.rbg_macro.specs.declared.token.TokenKind.TheVariants.{Name, Number, Symbol}

abbrev pub is_kind : TokenKind → TokenKind → Bool
is_kind Name = is_name_kind
is_kind Number = is_number_kind
is_kind (Symbol s) = is_symbol s
