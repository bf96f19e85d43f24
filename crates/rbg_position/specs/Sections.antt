-- The section of a board with other pieces on the vertices, as it is written: `#board = `, and then the tokens of the
-- text's own section, macros expanded, with the names of these pieces in place of the names in brackets.
use Rattle.std.specs.Prelude.{◌≡◌, ℕ, ◌&&◌, Bool, true, false, List, [], ◌++◌, map, take, filter, flat_map, count_by, slice_get, slice_index_or, Option, Some, None, codes, if◌then◌else◌}
use Rattle.std.specs.List.{enumerate_from, last_or}
use Rattle.rbg_grammar.specs.Spells.{HasSection}
use Rattle.rbg_macro.specs.Expansion.{HasSections}
use Rattle.rbg_macro.specs.Sections.{SectionTokens}
use Rattle.rbg_macro.specs.declared.source.SectionKind.TheVariants.{Board}
use Rattle.rbg_rules.specs.Meaning.{AbstractGame}
use Rattle.rbg_macro.specs.Kinds.{is_name_kind}
use Rattle.rbg_macro.specs.Text.{HasTokens}
use Rattle.rbg_macro.specs.Token.{Lexeme}
use Rattle.rbg_macro.specs.declared.token.Symbol.TheVariants.{OpenBracket, CloseBracket, CloseBrace, Comma, Colon}
use Rattle.rbg_macro.specs.declared.token.TokenKind.{TokenKind}
use Rattle.rbg_macro.specs.declared.token.TokenKind.TheVariants.{Name, Symbol}

-- a token with its index
abbrev pub Indexed : Type 0
Indexed = ℕ × Lexeme

-- the kinds of the tokens before an index
abbrev pub kinds_before : List Lexeme → ℕ → List TokenKind
kinds_before ts k = map (λ t. t.kind) (take k ts)

-- `[` and `]`
abbrev pub is_bracket : TokenKind → Bool
is_bracket (Symbol OpenBracket) = true
is_bracket (Symbol CloseBracket) = true
is_bracket _ = false

-- whether this is `[`
abbrev pub is_opening : Option TokenKind → Bool
is_opening (Some (Symbol OpenBracket)) = true
is_opening _ = false

-- whether the token after these ones is in brackets: the last bracket among them is `[`
abbrev pub leave_open : List TokenKind → Bool
leave_open kinds = is_opening (last_or None (filter is_bracket kinds))

-- whether a token is the name of a piece: a name in brackets
abbrev pub names_piece : List Lexeme → Indexed → Bool
names_piece ts p = leave_open (kinds_before ts p.0) && is_name_kind p.1.kind

-- how many tokens before an index are names of pieces; so it is the vertex of the piece that is named next
abbrev pub vertex_at : List Lexeme → ℕ → ℕ
vertex_at ts k = count_by (names_piece ts) (enumerate_from 0 (take k ts))

-- the name of a piece; nothing, if there is none
abbrev pub name_of : AbstractGame → Option ℕ → List ℕ
name_of game None = []
name_of game (Some piece) = slice_index_or game.pieces piece []

-- the word that is written for a token: the name of the piece on its vertex, or the token itself
abbrev pub word_of : AbstractGame → (pieces : List ℕ) → List Lexeme → Indexed → List ℕ
word_of game pieces ts p =
    if names_piece ts p then name_of game (slice_get pieces (vertex_at ts p.0)) else p.1.text

-- What is written between two tokens: a new line before a row and between two vertices of a graph, and a space after `,`
-- and `:`. Before the first token nothing is written.
unfoldable pub space_between : (last : Option TokenKind) → (next : TokenKind) → List ℕ
space_between (Some (Symbol Comma)) (Symbol OpenBracket) = codes "\n    "
space_between (Some (Symbol CloseBracket)) (Symbol OpenBracket) = codes "\n    "
space_between (Some (Symbol CloseBrace)) Name = codes "\n    "
space_between (Some (Symbol Comma)) _ = codes " "
space_between (Some (Symbol Colon)) _ = codes " "
space_between _ _ = []

-- what is written for a token, and before it
abbrev pub written_of : AbstractGame → (pieces : List ℕ) → List Lexeme → Indexed → List ℕ
written_of game pieces ts p =
    space_between (last_or None (kinds_before ts p.0)) p.1.kind ++ word_of game pieces ts p

-- what is written for all tokens of a section
abbrev pub section_text : AbstractGame → (pieces : List ℕ) → List Lexeme → List ℕ
section_text game pieces ts = flat_map (written_of game pieces ts) (enumerate_from 0 ts)

-- The one section of a board among the tokens of a text expands to these tokens.
pub record ExpandsBoard (tokens ts : List Lexeme) : Type 0 where
  pub sections : List SectionTokens
  pub expanded : HasSections tokens sections
  pub has : HasSection sections Board ts

-- The section of the board of this text, with these pieces on the vertices.
pub record IsSectionOf (text : List ℕ) (game : AbstractGame) (pieces section : List ℕ) : Type 0 where
  pub tokens : List Lexeme
  pub cut : HasTokens text tokens
  pub ts : List Lexeme
  pub board : ExpandsBoard tokens ts
  pub is : section ≡ codes "#board = " ++ section_text game pieces ts
