-- The spelling of a token of each kind.
use Rattle.std.specs.Prelude.{ℕ, ◌≡◌, Bool, false, ◌&&◌, List, [], ◌∷◌, IsTrue, codes}
use Rattle.std.specs.List.{list_all}
use Rattle.std.specs.Char.{is_ascii_digit}
use Rattle.rbg_base.specs.Names.{is_name}
use Rattle.rbg_macro.specs.declared.token.Symbol.{Symbol}
use Rattle.rbg_macro.specs.declared.token.Symbol.TheVariants.{DoubleArrow, Arrow, DoubleEquals, NotEquals, LessOrEqual}
use Rattle.rbg_macro.specs.declared.token.Symbol.TheVariants.{GreaterOrEqual, Equals, LessThan, GreaterThan, Plus}
use Rattle.rbg_macro.specs.declared.token.Symbol.TheVariants.{Minus, Star, Slash, OpenParenthesis, CloseParenthesis}
use Rattle.rbg_macro.specs.declared.token.Symbol.TheVariants.{OpenBracket, CloseBracket, OpenBrace, CloseBrace, Comma}
use Rattle.rbg_macro.specs.declared.token.Symbol.TheVariants.{Colon, Semicolon, Tilde, Hash, Dollar, Question}
use Rattle.rbg_macro.specs.declared.token.Symbol.TheVariants.{Exclamation}
use Rattle.rbg_macro.specs.declared.token.TokenKind.{TokenKind}
use Rattle.rbg_macro.specs.declared.token.TokenKind.TheVariants.{Name, Number, Symbol as A_Symbol}
use Rattle.rbg_macro.specs.Token.{Lexeme}

-- a number is one or more digits
abbrev pub is_number : List ℕ → Bool
is_number [] = false
is_number (b ∷ bs) = is_ascii_digit b && list_all is_ascii_digit bs

-- the bytes of each symbol
abbrev pub spelling : Symbol → List ℕ
spelling DoubleArrow = codes "->>"
spelling Arrow = codes "->"
spelling DoubleEquals = codes "=="
spelling NotEquals = codes "!="
spelling LessOrEqual = codes "<="
spelling GreaterOrEqual = codes ">="
spelling Equals = codes "="
spelling LessThan = codes "<"
spelling GreaterThan = codes ">"
spelling Plus = codes "+"
spelling Minus = codes "-"
spelling Star = codes "*"
spelling Slash = codes "/"
spelling OpenParenthesis = codes "("
spelling CloseParenthesis = codes ")"
spelling OpenBracket = codes "["
spelling CloseBracket = codes "]"
spelling OpenBrace = codes "{"
spelling CloseBrace = codes "}"
spelling Comma = codes ","
spelling Semicolon = codes ";"
spelling Colon = codes ":"
spelling Tilde = codes "~"
spelling Hash = codes "#"
spelling Dollar = codes "$"
spelling Question = codes "?"
spelling Exclamation = codes "!"

-- the word is a token of this kind
abbrev pub Spells : TokenKind → List ℕ → Type 0
Spells Name word = IsTrue (is_name word)
Spells Number word = IsTrue (is_number word)
Spells (A_Symbol s) word = word ≡ spelling s

-- the token's text spells a token of its kind: a name token's text is a name, a number token's is digits
abbrev pub IsLexeme : Lexeme → Type 0
IsLexeme t = Spells t.kind t.text
