-- How the section of a board is written from its first token to its last.
use Rattle.std.specs.Prelude.{◌≡◌, ℕ, ◌&&◌, ◌||◌, Bool, true, false, List, Some, slice_get}
use Rattle.rbg_macro.specs.Sections.{SectionTokens}
use Rattle.rbg_macro.specs.Kinds.{is_name_kind, is_symbol}
use Rattle.rbg_macro.specs.Token.{Lexeme}
use Rattle.rbg_macro.specs.declared.token.Symbol.TheVariants.{OpenBracket, CloseBracket, CloseBrace, Comma, Colon}
use Rattle.rbg_macro.specs.declared.token.TokenKind.{TokenKind}
use Rattle.rbg_macro.specs.declared.token.TokenKind.TheVariants.{Symbol}

-- whether the token after this one is in brackets, if this one is or isn't
abbrev pub is_inside_after : (inside : Bool) → TokenKind → Bool
is_inside_after inside (Symbol OpenBracket) = true
is_inside_after inside (Symbol CloseBracket) = false
is_inside_after inside _ = inside

-- what comes before a row: the end of another one, or the comma after it
abbrev pub ends_row : TokenKind → Bool
ends_row kind = is_symbol Comma kind || is_symbol CloseBracket kind

-- what has a space after it
abbrev pub is_spaced : TokenKind → Bool
is_spaced kind = is_symbol Comma kind || is_symbol Colon kind

-- whether a row or a vertex of a graph begins between two tokens
abbrev pub begins_line : (last next : TokenKind) → Bool
begins_line last next = (ends_row last && is_symbol OpenBracket next) || (is_symbol CloseBrace last && is_name_kind next)

-- A section with these tokens has this index.
pub record IsSectionAt (sections : List SectionTokens) (ts : List Lexeme) (index : ℕ) : Type 0 where
  pub section : SectionTokens
  pub at : slice_get sections index ≡ Some section
  pub tokens : section.tokens ≡ ts
