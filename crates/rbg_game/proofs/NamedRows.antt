-- Boards of rows by the numbers of their names: the board, and what is wrong with it.
use Rattle.rbg_base.proofs.Common.{◌≡◌, ◌≢◌, ◌↔◌, ℕ, ◌<◌, ◌≤◌, List, [], Some, length, get_or, slice_get, slice_index, All, Result, Ok, Err, sym, ap, ◌∙◌, subst, arith, IfOk, IfErr, OnOk, AllZip, concat, range_with_len, length-map, get_or-map, slice_get-get_or}
use Rattle.std.proofs.lemmas.Slice.Zip.{AllZip-long}
use Rattle.rbg_grammar.specs.Tree.{SpeltName, SpeltBoard}
use Rattle.rbg_board.proofs.Common.{Graph, HasWidth, IsGraphOf, Rows, width_of, MakesRows}
use Rattle.rbg_board.specs.declared.error.BoardError.{BoardError}
use Rattle.rbg_board.specs.declared.error.BoardError.TheVariants as board_errors
use Rattle.rbg_rules.specs.Meaning.{most_directions, AreDifferentNames}
use Rattle.rbg_game.specs.declared.game_error.GameError.{GameError}
use Rattle.rbg_game.specs.Descriptions.{IsRowsBoard, BoardIs, NamedBoard as DescribedBoard}
use Rattle.rbg_game.proofs.Common.{board_pieces, HasRowsFault, HasBoardFault, unknown_piece, board_memory, MakesBoard, NumbersDirections, IsNamed, IsRefusedFor, refusal_of}
use Rattle.rbg_game.specs.declared.checking.boards.NamedBoard.{NamedBoard}
use Rattle.rbg_game.specs.declared.game_error.GameError.TheVariants as errors
use Rattle.rbg_game.specs.NameNumbers.{IsNumberOf, texts_of}
use Rattle.rbg_game.specs.NameTables.{HasLookUpFault, not_there, no_memory as look_up_memory}
use Rattle.rbg_game.proofs.Lists.{AllZip-at}
use Rattle.rbg_game.proofs.BoardNames.{rows_below}

-- Directions.

-- the text of the name at a place
text_at : (names : List SpeltName) (i : ℕ) (d : SpeltName) → i < length names → slice_get (texts_of names) i ≡ Some (get_or names i d).text
text_at names i d within = slice_get-get_or (texts_of names) i d.text (omega (arith, length-map names (λ (name : SpeltName). name.text))) ∙ ap Some (get_or-map (λ (name : SpeltName). name.text) names i d d.text within)

-- numbers are equal exactly if the names are
numbers_agree : (table : List (List ℕ)) (names : List SpeltName) (numbers : List ℕ) → AreDifferentNames table → AllZip (IsNumberOf table) names numbers → (i j : ℕ) → i < length names → j < length names → (slice_index numbers i ≡ slice_index numbers j) ↔ (slice_get (texts_of names) i ≡ slice_get (texts_of names) j)
numbers_agree table names numbers differ named i j i_within j_within =
    let none : SpeltName = record { text = []; at = 0 } in
    let at_i : slice_get table (get_or numbers i 0) ≡ Some (get_or names i none).text = AllZip-at (IsNumberOf table) names numbers i none 0 named i_within in
    let at_j : slice_get table (get_or numbers j 0) ≡ Some (get_or names j none).text = AllZip-at (IsNumberOf table) names numbers j none 0 named j_within in
    let text_i = text_at names i none i_within in
    let text_j = text_at names j none j_within in (
      λ same. text_i ∙ sym at_i ∙ ap (slice_get table) same ∙ at_j ∙ sym text_j,
      λ same. differ.one_number (get_or numbers i 0) (get_or numbers j 0) (get_or names i none).text at_i (at_j ∙ sym text_j ∙ sym same ∙ text_i),
    )

-- numbers that differ are the first numbers in turn
in_turn : (names : List SpeltName) (numbers : List ℕ) (count : ℕ) → length names ≡ count → numbers ≡ range_with_len 0 (length names) → numbers ≡ range_with_len 0 count
in_turn names numbers count long is = is ∙ ap (range_with_len 0) long

-- what is so of each thing that is made, or of each error, is so of this one
pub of_ok : {A E : Type 0} {made : Result A E} {x : A} (P : A → Type 0) → made ≡ Ok x → IfOk made P → P x
of_ok P same all = subst (λ r. IfOk r P) same all

pub of_err : {A E : Type 0} {made : Result A E} {e : E} (P : E → Type 0) → made ≡ Err e → IfErr made P → P e
of_err P same all = subst (λ r. IfErr r P) same all

-- Faults.

-- an unknown piece is a fault of the board
pub cells_fault : (pieces : List (List ℕ)) (board : SpeltBoard) (error : GameError) → HasLookUpFault pieces (board_pieces board) error → HasBoardFault pieces board error
cells_fault pieces board _ (not_there h) = unknown_piece h
cells_fault pieces board _ look_up_memory = board_memory

-- what a generator refuses is a fault of the board, unless memory ran out
pub by_refusal : (pieces : List (List ℕ)) (board : SpeltBoard) (error : BoardError) → (error ≢ board_errors.Memory → HasBoardFault pieces board (errors.Board error)) → HasBoardFault pieces board (refusal_of error)
by_refusal pieces board board_errors.NoCell fault = fault (λ memory. cc)
by_refusal pieces board (board_errors.RowLength row) fault = fault (λ memory. cc)
by_refusal pieces board board_errors.TooManyVertices fault = fault (λ memory. cc)
by_refusal pieces board board_errors.SameDirection fault = fault (λ memory. cc)
by_refusal pieces board board_errors.UnknownVertex fault = fault (λ memory. cc)
by_refusal pieces board board_errors.SameVertex fault = fault (λ memory. cc)
by_refusal pieces board board_errors.Memory fault = board_memory

-- The board.

module _ (pieces : List (List ℕ)) (names : List SpeltName) (rows : List (List SpeltName)) (cells : List (List ℕ)) (numbers : List ℕ) (table : List (List ℕ))
    (named : AllZip (AllZip (IsNumberOf pieces)) rows cells) (numbered : NumbersDirections names numbers table) (spelt : SpeltBoard) where
  abbrev described : Graph → DescribedBoard
  described board = record { directions = table; pieces = pieces; board = board }

  -- by the generator, whose cells are the same
  pub rows_made : (Cells Lawful : Rows → Type 0) (Edge : List ℕ → Rows → ℕ → ℕ → ℕ → Type 0) (count : ℕ)
      → ((board : Graph) → IsRowsBoard (MakesRows Cells Lawful) Edge (range_with_len 0 count) (described board) names rows → BoardIs (described board) spelt)
      → length names ≡ count → count ≤ most_directions → (given : Rows) → given ≡ cells
      → (made : Result Graph BoardError) → OnOk made (MakesRows Cells Lawful numbers given) → IfOk made (λ board. IsGraphOf board (concat given) (Edge numbers given)) → IfOk made (HasWidth (width_of numbers))
      → (b : NamedBoard) → IsNamed table made b → MakesBoard pieces spelt b.directions b.board
  rows_made Cells Lawful Edge count is_spelt long few given same made lawful graph wide b it =
      let makes : MakesRows Cells Lawful numbers given = subst (λ (r : Result Graph BoardError). OnOk r (MakesRows Cells Lawful numbers given)) it.is lawful in
      let is = of_ok (λ board. IsGraphOf board (concat given) (Edge numbers given)) it.is graph in
      let in_order = numbered.in_order makes.different in
      let first : numbers ≡ range_with_len 0 count = in_turn names numbers count long in_order.0 in
      rw it.directions (record {
        is_board = is_spelt b.board (record {
          cells = given;
          named = subst (AllZip (AllZip (IsNumberOf pieces)) rows) (sym same) named;
          directions = in_order.1;
          differ = it.names.differ;
          makes = subst (λ ds. MakesRows Cells Lawful ds given) first makes;
          board = subst (λ ds. IsGraphOf b.board (concat given) (Edge ds given)) first is;
          width = subst (λ ds. HasWidth (width_of ds) b.board) first (of_ok (HasWidth (width_of numbers)) it.is wide);
        });
        names = it.names;
        few = omega (arith, numbered.few, long);
        vertices = it.vertices;
        first_pieces = subst (All (λ x. x < length pieces)) (sym (is.first_pieces ∙ ap concat same)) (rows_below pieces rows cells named);
      })

  -- what it refuses is a fault of the board, unless memory ran out
  pub rows_refused : (Refusal : List ℕ → Rows → BoardError → Type 0) → ((cause : BoardError) → HasRowsFault Refusal pieces names rows cause → HasBoardFault pieces spelt (errors.Board cause))
      → (given : Rows) → given ≡ cells → (made : Result Graph BoardError) → IfErr made (Refusal numbers given) → (e : GameError) → IsRefusedFor made e → HasBoardFault pieces spelt e
  rows_refused Refusal is_fault given same made refusal e it =
      rw it.refusal (by_refusal pieces spelt it.cause (λ unless. is_fault it.cause (record {
        directions = numbers;
        cells = cells;
        one_each = AllZip-long (IsNumberOf table) names numbers numbered.named;
        numbered = numbers_agree table names numbers numbered.differ numbered.named;
        named = named;
        refused = subst (λ (rs : Rows). Refusal numbers rs it.cause) same (of_err (Refusal numbers given) it.is refusal);
        is_fault = unless;
      })))
