-- The names in brackets of a game's text.
use Rattle.rbg_base.proofs.Common.{◌≡◌, ℕ, List, [], ◌∷◌, ◌++◌, slice_get, slice_index_or, Some, refl, sym, ap, ◌∙◌, subst, AllZip, concat, get_or_from_slice_get}
use Rattle.std.proofs.lemmas.List.{append-nil, map-append}
use Rattle.rbg_board.specs.Written.{Written, pieces_of}
use Rattle.rbg_game.specs.Descriptions.{BoardIs, VertexIs, board_in}
use Rattle.rbg_grammar.proofs.Common.{IsBoard, HasSection, SpeltName, SpeltVertex, SpeltBoard, rectangle, hexagon, graph}
use Rattle.rbg_macro.specs.declared.source.SectionKind.TheVariants.{Board}
use Rattle.rbg_macro.proofs.Common.{HasSections, SectionTokens}
use Rattle.rbg_macro.proofs.OneExpansion.{sections_once}
use Rattle.rbg_rules.specs.Meaning.{AbstractGame}
use Rattle.rbg_macro.specs.Token.{Lexeme}
use Rattle.rbg_macro.proofs.OneReading.{tokens_once}
use Rattle.rbg_position.specs.Laws.{NamesAreOfVerticesLaw, names_of_pieces}
use Rattle.rbg_position.proofs.BracketedNames.{board_names, names_from_first, piece_texts, row_texts, spelt_pieces, texts_of}

-- a name that is spelt, by its number
abbrev IsNumberOf : List (List ℕ) → SpeltName → ℕ → Type 0
IsNumberOf names n number = slice_get names number ≡ Some n.text

name_numbered : (game : AbstractGame) (n : SpeltName) (piece : ℕ) → IsNumberOf game.pieces n piece → n.text ≡ slice_index_or game.pieces piece []
name_numbered game n piece is = sym (get_or_from_slice_get game.pieces piece n.text [] is)

cells_named : (game : AbstractGame) (row : List SpeltName) (cells : List ℕ) → AllZip (IsNumberOf game.pieces) row cells → texts_of row ≡ names_of_pieces game cells
cells_named game [] [] are = refl
cells_named game [] (c ∷ cells) are = absurd are
cells_named game (n ∷ row) [] are = absurd are
cells_named game (n ∷ row) (c ∷ cells) (is, are) = λ i. name_numbered game n c is i ∷ cells_named game row cells are i

rows_named : (game : AbstractGame) (rows : List (List SpeltName)) (cells : List (List ℕ)) → AllZip (AllZip (IsNumberOf game.pieces)) rows cells → row_texts rows ≡ names_of_pieces game (concat cells)
rows_named game [] [] are = refl
rows_named game [] (c ∷ cells) are = absurd are
rows_named game (row ∷ rows) [] are = absurd are
rows_named game (row ∷ rows) (c ∷ cells) (is, are) =
    (λ i. cells_named game row c is i ++ rows_named game rows cells are i) ∙ sym (map-append (λ piece. slice_index_or game.pieces piece []) c (concat cells))

vertices_named : (game : AbstractGame) (names : List (List ℕ)) (vs : List SpeltVertex) (ws : List Written) → AllZip (VertexIs (board_in game) names) vs ws → piece_texts vs ≡ names_of_pieces game (pieces_of ws)
vertices_named game names [] [] are = refl
vertices_named game names [] (w ∷ ws) are = absurd are
vertices_named game names (v ∷ vs) [] are = absurd are
vertices_named game names (v ∷ vs) (w ∷ ws) (is, are) = λ i. name_numbered game v.piece w.piece is.piece i ∷ vertices_named game names vs ws are i

pieces_named : (game : AbstractGame) (b : SpeltBoard) → BoardIs (board_in game) b → spelt_pieces b ≡ names_of_pieces game game.board.first
pieces_named game (rectangle names rows) is = rows_named game rows is.cells is.named ∙ ap (names_of_pieces game) (sym is.board.first_pieces)
pieces_named game (hexagon names rows) is = rows_named game rows is.cells is.named ∙ ap (names_of_pieces game) (sym is.board.first_pieces)
pieces_named game (graph vs) is = vertices_named game _ vs is.written is.named ∙ ap (names_of_pieces game) (sym is.board.first_pieces)

-- the section of a board is the one that spells it
same_section : (sections : List SectionTokens) (ts us : List Lexeme) → HasSection sections Board ts → HasSection sections Board us → ts ≡ us
same_section sections ts us a b = sym a.tokens ∙ ap first_tokens (sym a.only ∙ b.only) ∙ b.tokens
  where
    first_tokens : List SectionTokens → List Lexeme
    first_tokens [] = []
    first_tokens (s ∷ ss) = s.tokens

pub names_are_of_vertices : NamesAreOfVerticesLaw
names_are_of_vertices text game tokens ts loads cut board =
    let spelt = loads.describes.spells.board in
    let source : loads.describes.sections ≡ board.sections =
    sections_once tokens loads.describes.sections board.sections (subst (λ us. HasSections us loads.describes.sections) (tokens_once text loads.describes.has.tokens tokens loads.describes.has.cut cut) loads.describes.has.expanded) board.expanded in
    let same : spelt.ts ≡ ts = same_section board.sections spelt.ts ts (subst (λ ss. HasSection ss Board spelt.ts) source spelt.has) board.has in
    let is : IsBoard ts loads.description.board [] = subst (λ us. IsBoard us loads.description.board []) same spelt.spells in
    names_from_first ts ∙ board_names ts loads.description.board [] is ∙ append-nil (spelt_pieces loads.description.board) ∙ pieces_named game loads.description.board loads.game_of.board
