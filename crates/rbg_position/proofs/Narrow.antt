-- The board of a game has few directions.
use Rattle.rbg_base.proofs.Common.{ℕ, ◌<◌, ◌≤◌, List, [], ◌∷◌, ◌++◌, length, refl, arith, AllZip, slice_get_within}
use Rattle.rbg_board.proofs.Common.{width_of, Written, directions_in, directions_of}
use Rattle.rbg_grammar.specs.Tree.{SpeltEdge, SpeltVertex, SpeltBoard, rectangle, hexagon, graph}
use Rattle.rbg_game.proofs.Common.{NamedBoard, BoardIs, EdgeIs, VertexIs, board_in, Loads}
use Rattle.rbg_rules.specs.Meaning.{AbstractGame}
use Rattle.rbg_position.specs.Same.{IsNarrow}
use Rattle.rbg_position.proofs.SameBoards.{as_wide}

few_in : (n : ℕ) (b : NamedBoard) (vertices : List (List ℕ)) (es : List SpeltEdge) (ws : List (ℕ × ℕ)) → length b.directions ≤ n → AllZip (EdgeIs b vertices) es ws → width_of (directions_in ws) ≤ n
few_in n b vertices [] [] few are = omega arith
few_in n b vertices [] (w ∷ ws) few are = absurd are
few_in n b vertices (e ∷ es) [] few are = absurd are
few_in n b vertices (e ∷ es) (w ∷ ws) few (is, are) =
    let here : w.0 < length b.directions = slice_get_within b.directions w.0 e.direction.text is.0 in
    let rest : width_of (directions_in ws) ≤ n = few_in n b vertices es ws few are in
    omega (arith, here, rest, few)

few_both : (n : ℕ) (xs ys : List ℕ) → width_of xs ≤ n → width_of ys ≤ n → width_of (xs ++ ys) ≤ n
few_both n [] ys left right = right
few_both n (x ∷ xs) ys left right =
    let more : width_of (xs ++ ys) ≤ n = few_both n xs ys (omega (arith, left)) right in
    omega (arith, left, more)

few_of : (n : ℕ) (b : NamedBoard) (names : List (List ℕ)) (vs : List SpeltVertex) (ws : List Written) → length b.directions ≤ n → AllZip (VertexIs b names) vs ws → width_of (directions_of ws) ≤ n
few_of n b names [] [] few are = omega arith
few_of n b names [] (w ∷ ws) few are = absurd are
few_of n b names (v ∷ vs) [] few are = absurd are
few_of n b names (v ∷ vs) (w ∷ ws) few (is, are) =
    few_both n (directions_in w.edges) (directions_of ws) (few_in n b names v.edges w.edges few is.edges) (few_of n b names vs ws few are)

narrow_board : (b : NamedBoard) (spelt : SpeltBoard) → BoardIs b spelt → 0 < length b.board.first → length b.directions ≤ 64 → IsNarrow b.board
narrow_board b (rectangle names rows) is some few width wide = omega (arith, as_wide b.board b.board width 4 wide is.width some refl)
narrow_board b (hexagon names rows) is some few width wide = omega (arith, as_wide b.board b.board width 6 wide is.width some refl)
narrow_board b (graph vertices) is some few width wide =
    let within : width_of (directions_of is.written) ≤ 64 = few_of 64 b _ vertices is.written few is.named in
    omega (arith, within, as_wide b.board b.board width (width_of (directions_of is.written)) wide is.width some refl)

pub narrow : (text : List ℕ) (game : AbstractGame) → Loads text game → IsNarrow game.board
narrow text game loads =
    narrow_board (board_in game) loads.description.board loads.game_of.board loads.game_of.lawful.some_vertex loads.game_of.lawful.limits.directions
