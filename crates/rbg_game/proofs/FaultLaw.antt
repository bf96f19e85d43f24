-- A description with a fault is no game.
use Rattle.rbg_base.proofs.Common.{◌≡◌, ◌≢◌, ◌↔◌, ℕ, ◌<◌, ◌≤◌, inl, inr, List, [], ◌∷◌, ◌++◌, Some, length, get_or, map, refl, sym, ap, ◌∙◌, subst, arith, slice_get, slice_index, Contains, All, length-map, map-append, slice_get-get_or, All-contains}
use Rattle.rbg_board.proofs.Common.{Rows, HasTwice, MakesRows, RowsRefusal, RectangleEdge, HasFirstCell, LacksFirstCell, IsEven, IsFirstUneven, RectangleRefusal, HexagonEdge, HasCells, LacksCell, GrowsThenShrinks, IsFirstMisfit, HexagonRefusal}
use Rattle.rbg_board.specs.declared.error.BoardError.{BoardError}
use Rattle.rbg_board.specs.declared.error.BoardError.TheVariants as board_errors
use Rattle.rbg_grammar.proofs.Common.{SpeltName, SpeltBounded, SpeltEdge, SpeltVertex, SpeltBoard, rectangle, hexagon, graph, SpeltDescription}
use Rattle.rbg_rules.specs.Meaning.{AbstractGame, max_bound, most_directions, AreDifferentNames, AreLawfulNames}
use Rattle.rbg_game.proofs.Common.{GameError, Memory, names_in, NamedBoard, board_in, IsRowsBoard, IsRectangleBoard, IsHexagonBoard, IsGraphBoard, VertexIs, BoardIs, directions_named, holder_names, holders_of, AreBounds, IsGameOf, OccursAgain, HasGreatBound, HaveOneName, HasRowsFault, HasBoardFault, unknown_piece, many_directions, no_rectangle, no_hexagon, no_graph, board_memory, board_directions, board_pieces, names_of_holders, names_spelt, same_holder, same_piece, great_bound, many_players, many_pieces, many_variables, in_board, in_rules, memory, NoGameWithFaultLaw}
use Rattle.rbg_game.proofs.NumberingCommon.{texts_of, Purpose, as_direction, as_piece, as_player, as_variable, names_for}
use Rattle.rbg_base.proofs.CallerLemmas.{Contains-from_get, get_from-Contains, slice_get-map_at}
use Rattle.rbg_game.proofs.Lists.{map_entry, fellow}
use Rattle.rbg_game.proofs.NameFaults.{texts_of-names}
use Rattle.rbg_game.proofs.OneGameLists.{first_use_once}
use Rattle.rbg_game.proofs.GraphFaults.{graph_fault_fails}
use Rattle.rbg_game.proofs.RuleFaults.{rule_fault_fails, IsAmong, among_same, rule_fault_by}
use Rattle.rbg_game.proofs.BoardNames.{unnumbered_rows, rows_once}

-- Names and bounds.

-- Lawful names differ.
again_unlawful : (names : List SpeltName) (at : ℕ) → OccursAgain names at → AreDifferentNames (texts_of names) → ⊥
again_unlawful names at h differ =
    let second : slice_get (texts_of names) h.j ≡ Some h.earlier.text = slice_get-map_at (λ (m : SpeltName). m.text) names h.j h.later h.second ∙ ap (λ (text : List ℕ). Some text) (sym h.same) in
    let one : h.i ≡ h.j = differ.one_number h.i h.j h.earlier.text (slice_get-map_at (λ (m : SpeltName). m.text) names h.i h.earlier h.first) second in
    absurd (omega (arith, h.before))

-- Bounds of a game are within the limit.
bound_unlawful : (holders : List SpeltBounded) (bounds : List ℕ) (at : ℕ) → HasGreatBound holders at → AreBounds holders bounds → All (λ bound. bound ≤ max_bound) bounds → ⊥
bound_unlawful holders bounds at h are within =
    let bound = fellow (λ (holder : SpeltBounded) (bound : ℕ). holder.bound.value ≡ Some bound) holders bounds h.holder are h.stands in
    let small : bound.0 ≤ max_bound = All-contains (λ b. b ≤ max_bound) bounds bound.0 within bound.1 in
    absurd (omega (arith, h.too_great bound.0 bound.2))

lawful_holders : (d : SpeltDescription) (game : AbstractGame) → IsGameOf d game → AreLawfulNames (texts_of (names_of_holders d))
lawful_holders d game is = subst AreLawfulNames (is.variables ∙ sym (texts_of-names (holders_of d))) is.lawful.variable_names

lawful_piece_names : (d : SpeltDescription) (game : AbstractGame) → IsGameOf d game → AreLawfulNames (texts_of d.pieces)
lawful_piece_names d game is = subst AreLawfulNames is.pieces is.lawful.piece_names

-- Boards.

-- a vertex of an unknown piece has no number
unnumbered_vertex : (b : NamedBoard) (vertices : List SpeltVertex) (name : SpeltName) → Contains (map (λ vertex. vertex.piece) vertices) name → ¬ Contains b.pieces name.text → ¬ IsGraphBoard b vertices
unnumbered_vertex b vertices name stands unknown is =
    let there = get_from-Contains (map (λ (vertex : SpeltVertex). vertex.piece) vertices) name stands in
    let entry = map_entry (λ (vertex : SpeltVertex). vertex.piece) vertices there.0 name there.1 in
    let names : List (List ℕ) = map (λ (vertex : SpeltVertex). vertex.name.text) vertices in
    let written = fellow (VertexIs b names) vertices is.written entry.0 is.named (Contains-from_get vertices there.0 entry.0 entry.1) in
    let number : slice_get b.pieces written.0.piece ≡ Some entry.0.piece.text = written.2.piece in
    unknown (Contains-from_get b.pieces written.0.piece name.text (number ∙ ap (λ (n : SpeltName). Some n.text) entry.2))

unknown_piece_fails : (b : NamedBoard) (board : SpeltBoard) (name : SpeltName) → Contains (board_pieces board) name → ¬ Contains b.pieces name.text → ¬ BoardIs b board
unknown_piece_fails b (rectangle names rows) name stands unknown is = unnumbered_rows b.pieces rows name is.cells stands unknown is.named
unknown_piece_fails b (hexagon names rows) name stands unknown is = unnumbered_rows b.pieces rows name is.cells stands unknown is.named
unknown_piece_fails b (graph vertices) name stands unknown is = unnumbered_vertex b vertices name stands unknown is

-- if two numbers are equal, the names are not different
twice_fails : (names : List SpeltName) (numbers : List ℕ) → length numbers ≡ length names
    → ((i j : ℕ) → i < length names → j < length names → (slice_index numbers i ≡ slice_index numbers j) ↔ HaveOneName names i j)
    → HasTwice numbers → ¬ AreDifferentNames (texts_of names)
twice_fails names numbers long numbered t differ =
    let none : SpeltName = record { text = []; at = 0 } in
    let later : t.later < length names = omega (arith, t.within) in
    let earlier : t.earlier < length names = omega (arith, t.apart) in
    let same : HaveOneName names t.earlier t.later = (numbered t.earlier t.later earlier later).0 t.same in
    let at : slice_get (texts_of names) t.later ≡ Some (get_or names t.later none).text = slice_get-map_at (λ (m : SpeltName). m.text) names t.later (get_or names t.later none) (slice_get-get_or names t.later none later) in
    let one = differ.one_number t.earlier t.later (get_or names t.later none).text (same ∙ at) at in
    omega (arith, one, t.apart)

-- If rows by numbers are refused, there is no board by these names: rows that lack cells don't have them all, and rows
-- of which one doesn't fit aren't lawful.
rows_fail : (Cells Lacks Lawful : Rows → Type 0) (IsMisfit : Rows → ℕ → Type 0) → ((cells : Rows) → Lacks cells → ¬ Cells cells) → ((cells : Rows) (row : ℕ) → IsMisfit cells row → ¬ Lawful cells)
    → (Edge : List ℕ → Rows → ℕ → ℕ → ℕ → Type 0) (numbers : List ℕ) (b : NamedBoard) (names : List SpeltName) (rows : List (List SpeltName)) (error : BoardError) → AreDifferentNames b.pieces
    → HasRowsFault (RowsRefusal Cells Lacks Lawful IsMisfit) b.pieces names rows error → ¬ IsRowsBoard (MakesRows Cells Lawful) Edge numbers b names rows
unfolding RowsRefusal
rows_fail Cells Lacks Lawful IsMisfit no_cells unlawful Edge numbers b names rows error differ h is =
    let same : is.cells ≡ h.cells = rows_once b.pieces differ rows is.cells h.cells is.named h.named in
    fails error h.refused h.is_fault (subst (MakesRows Cells Lawful numbers) same is.makes)
  where
    fails : (e : BoardError) → RowsRefusal Cells Lacks Lawful IsMisfit h.directions h.cells e → e ≢ board_errors.Memory → ¬ MakesRows Cells Lawful numbers h.cells
    fails board_errors.NoCell lacks is_fault makes = no_cells h.cells lacks makes.cells
    fails (board_errors.RowLength row) misfit is_fault makes = unlawful h.cells row misfit.1 makes.lawful
    fails board_errors.TooManyVertices many is_fault makes = omega (arith, many.2, makes.fits)
    fails board_errors.SameDirection twice is_fault makes = twice_fails names h.directions h.one_each h.numbered twice.3 (subst AreDifferentNames is.directions is.differ)
    fails board_errors.UnknownVertex none is_fault makes = none
    fails board_errors.SameVertex none is_fault makes = none
    fails board_errors.Memory refused is_fault makes = is_fault refl

rectangle_fails : (b : NamedBoard) (names : List SpeltName) (rows : List (List SpeltName)) (error : BoardError) → AreDifferentNames b.pieces → HasRowsFault RectangleRefusal b.pieces names rows error → ¬ IsRectangleBoard b names rows
rectangle_fails =
    rows_fail HasFirstCell LacksFirstCell IsEven IsFirstUneven (λ cells lacks has. omega (arith, lacks, has)) (λ cells row uneven even. uneven.uneven (even row uneven.is_row)) RectangleEdge (0 ∷ 1 ∷ 2 ∷ 3 ∷ [])

no_cells : (cells : Rows) → LacksCell cells → ¬ HasCells cells
no_cells cells (inl no_row) has = omega (arith, no_row, has.some_row)
no_cells cells (inr (row, is_row, empty)) has = omega (arith, empty, has.each_row row is_row)

hexagon_fails : (b : NamedBoard) (names : List SpeltName) (rows : List (List SpeltName)) (error : BoardError) → AreDifferentNames b.pieces → HasRowsFault HexagonRefusal b.pieces names rows error → ¬ IsHexagonBoard b names rows
hexagon_fails = rows_fail HasCells LacksCell GrowsThenShrinks IsFirstMisfit no_cells (λ cells row misfit lawful. misfit.misfits (lawful row misfit.is_row)) HexagonEdge (0 ∷ 1 ∷ 2 ∷ 3 ∷ 4 ∷ 5 ∷ [])

board_fault_fails : (b : NamedBoard) (board : SpeltBoard) (error : GameError) → HasBoardFault b.pieces board error → error ≢ Memory → AreDifferentNames b.pieces → length b.directions ≤ most_directions → ¬ BoardIs b board
board_fault_fails b board _ (unknown_piece h) other differ few is = unknown_piece_fails b board h.name h.stands h.unknown is
board_fault_fails b _ _ (many_directions {vertices = vertices} {names = names} order many) other differ few is =
    let same : names ≡ b.directions = first_use_once (directions_named vertices) names b.directions order is.directions in
    absurd (omega (arith, many, few, ap length same))
board_fault_fails b _ _ (no_rectangle {names = names} {rows = rows} {error = error} h) other differ few is = rectangle_fails b names rows error differ h is
board_fault_fails b _ _ (no_hexagon {names = names} {rows = rows} {error = error} h) other differ few is = hexagon_fails b names rows error differ h is
board_fault_fails b _ _ (no_graph {vertices = vertices} {error = error} h) other differ few is = graph_fault_fails b vertices error h is
board_fault_fails b board _ board_memory other differ few is = other refl

-- Descriptions.

edge_texts : (edges : List SpeltEdge) → map (λ edge. edge.direction.text) edges ≡ texts_of (map (λ edge. edge.direction) edges)
edge_texts [] = refl
edge_texts (edge ∷ edges) = ap (λ l. edge.direction.text ∷ l) (edge_texts edges)

pub texts_named : (vertices : List SpeltVertex) → directions_named vertices ≡ texts_of (board_directions (graph vertices))
texts_named [] = refl
texts_named (vertex ∷ vertices) =
    ap (λ l. l ++ directions_named vertices) (edge_texts vertex.edges)
    ∙ ap (λ l. texts_of (map (λ (edge : SpeltEdge). edge.direction) vertex.edges) ++ l) (texts_named vertices)
    ∙ sym (map-append (λ (n : SpeltName). n.text) (map (λ (edge : SpeltEdge). edge.direction) vertex.edges) (board_directions (graph vertices)))

-- the directions of a board are the names that are spelt
directions_spelt : (b : NamedBoard) (board : SpeltBoard) → BoardIs b board → IsAmong b.directions (texts_of (board_directions board))
directions_spelt b (rectangle names rows) is = among_same b.directions (texts_of names) is.directions
directions_spelt b (hexagon names rows) is = among_same b.directions (texts_of names) is.directions
directions_spelt b (graph vertices) is = λ name has. among_same (directions_named vertices) (texts_of (board_directions (graph vertices))) (texts_named vertices) name (is.directions.only name has)

names_among : (d : SpeltDescription) (game : AbstractGame) → IsGameOf d game → (purpose : Purpose) → IsAmong (names_for (names_in game) purpose) (names_for (names_spelt d) purpose)
names_among d game is as_direction = directions_spelt (board_in game) d.board is.board
names_among d game is as_piece = among_same game.pieces (texts_of d.pieces) is.pieces
names_among d game is as_player = among_same game.players (holder_names d.players) is.players
names_among d game is as_variable = among_same game.variables (holder_names (holders_of d)) is.variables

pub no_game_with_fault : NoGameWithFaultLaw
no_game_with_fault d _ (same_holder {at = at} h) other game is = again_unlawful (names_of_holders d) at h (lawful_holders d game is).differ
no_game_with_fault d _ (same_piece {at = at} h) other game is = again_unlawful d.pieces at h (lawful_piece_names d game is).differ
no_game_with_fault d _ (great_bound {at = at} h) other game is = bound_unlawful (holders_of d) game.bounds at h is.bounds is.lawful.limits.bounds
no_game_with_fault d _ (many_players many) other game is = absurd (omega (arith, length-map d.players (λ (h : SpeltBounded). h.name.text), ap length is.players, is.lawful.limits.players))
no_game_with_fault d _ (many_pieces many) other game is = absurd (omega (arith, length-map d.pieces (λ (n : SpeltName). n.text), ap length is.pieces, is.lawful.limits.pieces))
no_game_with_fault d _ (many_variables many) other game is = absurd (omega (arith, length-map (holders_of d) (λ (h : SpeltBounded). h.name.text), ap length is.variables, is.lawful.limits.variables))
no_game_with_fault d error (in_board h) other game is =
    board_fault_fails (board_in game) d.board error (subst (λ pieces. HasBoardFault pieces d.board error) (sym is.pieces) h) other is.lawful.piece_names.differ is.lawful.limits.directions is.board
no_game_with_fault d _ (in_rules {error = error} h) other game is =
    rule_fault_fails (names_in game) d.rules error game.rules (rule_fault_by (names_in game) (names_spelt d) d.rules error (names_among d game is) h) (λ memory. other memory) is.lawful.limits.positions is.lawful.limits.nesting is.lawful.switches is.rules
no_game_with_fault d _ memory other game is = other refl
