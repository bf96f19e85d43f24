-- Examples of sections of boards as they are written.
use Rattle.std.specs.Prelude.{◌≡◌, ℕ, List, [], ◌∷◌, ◌++◌, codes}
use Rattle.rbg_rules.specs.Meaning.{AbstractGame}
use Rattle.rbg_macro.specs.Token.{Lexeme}
use Rattle.rbg_macro.specs.declared.token.Symbol.{Symbol}
use Rattle.rbg_macro.specs.declared.token.Symbol.TheVariants as symbols
use Rattle.rbg_macro.specs.declared.token.TokenKind.TheVariants as kinds
use Rattle.rbg_position.specs.Sections.{section_text}

-- a name and a symbol, with no real offset
abbrev pub word : List ℕ → Lexeme
word text = record { kind = kinds.Name; text = text; at = 0 }

abbrev pub sign : Symbol → List ℕ → Lexeme
sign symbol text = record { kind = kinds.Symbol symbol; text = text; at = 0 }

abbrev pub comma : Lexeme
comma = sign symbols.Comma (codes ",")

-- a piece in brackets, or two
abbrev pub single : List ℕ → List Lexeme
single piece = sign symbols.OpenBracket (codes "[") ∷ word piece ∷ sign symbols.CloseBracket (codes "]") ∷ []

abbrev pub double : List ℕ → List ℕ → List Lexeme
double left right =
    sign symbols.OpenBracket (codes "[") ∷ word left ∷ comma ∷ word right ∷ sign symbols.CloseBracket (codes "]") ∷ []

-- in parentheses after a name
abbrev pub generated : List ℕ → List Lexeme → List Lexeme
generated name ts =
    word name ∷ sign symbols.OpenParenthesis (codes "(") ∷ ts
    ++ sign symbols.CloseParenthesis (codes ")") ∷ []

-- the game has the pieces e and w, by these numbers
abbrev pub HasStones : AbstractGame → Type 0
HasStones game = game.pieces ≡ codes "e" ∷ codes "w" ∷ []

-- Of rectangle(up,down,left,right,[e,e][e,w]) with other stones each row has a line.
abbrev pub RectangleWithStones : Type 0
RectangleWithStones =
    (game : AbstractGame)
    → HasStones game
    → section_text game (1 ∷ 0 ∷ 0 ∷ 0 ∷ [])
    (generated (codes "rectangle")
    (word (codes "up") ∷ comma ∷ word (codes "down") ∷ comma ∷ word (codes "left") ∷ comma ∷ word (codes "right") ∷ comma
    ∷ double (codes "e") (codes "e") ++ double (codes "e") (codes "w")))
    ≡ codes "rectangle(up, down, left, right,\n    [w, e]\n    [e, e])"

-- Of graph(a[e]{on:w}w[w]{}) with other stones each vertex has a line, and only names in brackets are replaced.
abbrev pub GraphWithStones : Type 0
GraphWithStones =
    (game : AbstractGame)
    → HasStones game
    → section_text game (1 ∷ 0 ∷ [])
    (generated (codes "graph")
    (word (codes "a") ∷ single (codes "e")
    ++ sign symbols.OpenBrace (codes "{") ∷ word (codes "on") ∷ sign symbols.Colon (codes ":") ∷ word (codes "w")
    ∷ sign symbols.CloseBrace (codes "}") ∷ word (codes "w") ∷ single (codes "w")
    ++ sign symbols.OpenBrace (codes "{") ∷ sign symbols.CloseBrace (codes "}") ∷ []))
    ≡ codes "graph(a[w]{on: w}\n    w[e]{})"
