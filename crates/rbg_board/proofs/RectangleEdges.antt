-- That the code leads from each cell of a rectangle as the definition of its edges does.
use Rattle.rbg_base.proofs.Common.{◌≡◌, ℕ, zero, suc, ◌+◌, ◌*◌, ◌<◌, ◌≤◌, List, Some, All, length, refl, sym, ap, ◌∙◌, arith, concat}
use Rattle.rbg_board.proofs.Common.{Graph, IsGraphOf, UsesOnly, Rows, cells_in, IsCell, number_along, RectangleSide, Up, Down, Left, Right, sides, SideStep, RectangleEdge, IsEven, MakesRectangle, site_at, vertex_above, vertex_below, IsLaidOut, first_four, side_vertex, rectangle_leads}
use Rattle.rbg_board.proofs.Numbering.{start_of, start-suc, row_of_cell}
use Rattle.rbg_board.proofs.Layouts.{IsLed}
use Rattle.rbg_board.proofs.Choices.{is_first_four}
use Rattle.rbg_board.proofs.Neighbours.{below_some, above_some, at_above, at_below, at_left, at_right}
use Rattle.rbg_board.proofs.Ways.{IsStepped, step_left, step_right}
use Rattle.rbg_board.proofs.Ways as edges

-- a vertex on a side is that of the cell on the side
side_cell : (rows : Rows) (side : RectangleSide) (r c u : ℕ) → side_vertex (site_at rows r c) side ≡ Some u → IsStepped rows (SideStep side r c) u
side_cell rows Up r c u some =
    let found = above_some rows r c c u some in
    record { to_row = found.0; to_cell = c; step = (found.1, refl); is_to_cell = found.2; to_number = found.3 }
side_cell rows Down r c u some =
    let found = below_some rows r c c u some in
    record { to_row = r + 1; to_cell = c; step = (refl, refl); is_to_cell = found.0; to_number = found.1 }
side_cell rows Left r c u some = step_left rows r c u some
side_cell rows Right r c u some = step_right rows r c u some

-- and the cell on a side is the vertex on the side
cell_side : (rows : Rows) (side : RectangleSide) (r c r' c' : ℕ) → SideStep side r c r' c' → IsCell rows r' c' → side_vertex (site_at rows r c) side ≡ Some (number_along rows r' c')
cell_side rows Up r c r' c' step is_cell = ap (vertex_above (site_at rows r c)) (sym step.1) ∙ at_above rows r c r' c' is_cell step.0
cell_side rows Down r c r' c' step is_cell = ap (vertex_below (site_at rows r c)) (sym step.1) ∙ at_below rows r c r' c' is_cell step.0
cell_side rows Left r c r' c' step is_cell = at_left rows r c r' c' is_cell step.0 step.1
cell_side rows Right r c r' c' step is_cell = at_right rows r c r' c' is_cell step.0 step.1

-- in even rows the rows begin at the multiples of their length
pub even_start : (rows : Rows) (r : ℕ) → IsEven rows → r ≤ length rows → start_of rows r ≡ r * cells_in rows 0
even_start rows zero even within = omega arith
even_start rows (suc r) even within = omega (arith, start-suc rows r, even r (omega arith), even_start rows r even (omega arith))

even_number : (rows : Rows) (r c : ℕ) → IsEven rows → IsCell rows r c → number_along rows r c ≡ r * cells_in rows 0 + c
even_number rows r c even is_cell = ap (λ n. n + c) (even_start rows r even (omega (arith, row_of_cell rows r c is_cell)))

module _ (directions : List ℕ) (rows : Rows) (makes : MakesRectangle directions rows) (four : length directions ≡ 4) where
  pub leads_of_edge : (v d u : ℕ) → RectangleEdge directions rows v d u → IsLed (rectangle_leads directions) rows v d u
  unfolding rectangle_leads
  leads_of_edge =
      edges.leads_of_edge sides SideStep (λ r c. r * cells_in rows 0 + c) directions rows four makes.different (first_four directions) (is_first_four directions four) side_vertex
      (λ r c is_cell. even_number rows r c makes.lawful is_cell) (λ side r c u is_cell some. side_cell rows side r c u some) (cell_side rows)

  module _ (width : ℕ) (board : Graph) (covers : All (λ d. d < width) directions) (laid_out : IsLaidOut (rectangle_leads directions) width rows board) where
    pub rectangle_board : IsGraphOf board (concat rows) (RectangleEdge directions rows)
    unfolding rectangle_leads
    rectangle_board =
        edges.edges_board sides SideStep (λ r c. r * cells_in rows 0 + c) directions rows four makes.different (first_four directions) (is_first_four directions four) side_vertex
        (λ r c is_cell. even_number rows r c makes.lawful is_cell) (λ side r c u is_cell some. side_cell rows side r c u some) (cell_side rows) width board laid_out covers

    pub rectangle_uses : UsesOnly directions board
    unfolding rectangle_leads
    rectangle_uses =
        edges.edges_use sides SideStep (λ r c. r * cells_in rows 0 + c) directions rows four makes.different (first_four directions) (is_first_four directions four) side_vertex
        (λ r c is_cell. even_number rows r c makes.lawful is_cell) (λ side r c u is_cell some. side_cell rows side r c u some) (cell_side rows) width board laid_out covers
