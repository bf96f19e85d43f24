-- Laws of the edges: one way for each vertex and direction, and a way back.
use Rattle.rbg_base.proofs.Common.{◌≡◌, ℕ, ◌+◌, ◌*◌, ◌<◌, List, Contains, length, get_or, map, sym, ap, ◌∙◌, subst, arith, get_or-map, get_or_default, length-map, same_Some, slice_get_within, get_or_from_slice_get}
use Rattle.rbg_board.proofs.Common.{Rows, cells_in, number_along, AreDifferent, RectangleSide, Up, Down, Left, Right, sides, side_opposite, SideStep, Compass, NorthWest, NorthEast, East, SouthEast, SouthWest, West, compass, compass_opposite, CompassStep, Written, names_of, directions_in, rectangle_leads, hexagon_leads, RectanglesLeadOneWay, HexagonsLeadOneWay, GraphsLeadOneWay, RectanglesLeadBack, HexagonsLeadBack}
use Rattle.rbg_board.proofs.Choices.{same_place}
use Rattle.rbg_board.proofs.Layouts.{led_one_way}
use Rattle.rbg_board.proofs.Ways.{edges_lead_back}
use Rattle.rbg_board.proofs.RectangleEdges as rectangles
use Rattle.rbg_board.proofs.HexagonEdges as hexagons

pub rectangles_lead_one_way : RectanglesLeadOneWay
rectangles_lead_one_way directions rows four makes v d u w edge edge' =
    led_one_way (rectangle_leads directions) rows v d u w (rectangles.leads_of_edge directions rows makes four v d u edge) (rectangles.leads_of_edge directions rows makes four v d w edge')

pub hexagons_lead_one_way : HexagonsLeadOneWay
hexagons_lead_one_way directions rows six makes v d u w edge edge' =
    led_one_way (hexagon_leads directions) rows v d u w (hexagons.leads_of_edge directions rows makes six v d u edge) (hexagons.leads_of_edge directions rows makes six v d w edge')

-- two edges of one vertex with one direction are one edge
same_target : (edges : List (ℕ × ℕ)) (d n m : ℕ) → AreDifferent (map (λ edge. edge.0) edges) → Contains edges (d, n) → Contains edges (d, m) → n ≡ m
same_target edges d n m different first second =
    let direction : ℕ × ℕ → ℕ = λ edge. edge.0 in
    let at_first : get_or (map direction edges) first.0 0 ≡ d = get_or-map direction edges first.0 (d, n) 0 first.1 ∙ ap direction first.2 in
    let at_second : get_or (map direction edges) second.0 0 ≡ d = get_or-map direction edges second.0 (d, m) 0 second.1 ∙ ap direction second.2 in
    let place : first.0 ≡ second.0 =
    same_place (map direction edges) first.0 second.0 different (omega (arith, first.1, length-map edges direction)) (omega (arith, second.1, length-map edges direction)) (at_first ∙ sym at_second) in
    let there : get_or edges second.0 (d, n) ≡ (d, m) = get_or_default edges second.0 (d, n) (d, m) second.1 ∙ second.2 in
    ap (λ (edge : ℕ × ℕ). edge.1) (sym first.2 ∙ ap (λ k. get_or edges k (d, n)) place ∙ there)

-- one edge of a vertex has the direction, and one vertex the name to which it leads
pub graphs_lead_one_way : GraphsLeadOneWay
graphs_lead_one_way vertices makes v d u w edge edge' =
    let source : edge'.source ≡ edge.source = same_Some edge'.source edge.source (sym edge'.is_source ∙ edge.is_source) in
    let is_vertex : v < length vertices = slice_get_within vertices v edge.source edge.is_source in
    let different : AreDifferent (directions_in edge.source.edges) =
    subst (λ (x : Written). AreDifferent (directions_in x.edges)) (get_or_from_slice_get vertices v edge.source edge.source edge.is_source) (makes.directions_differ v edge.source is_vertex) in
    let name : edge.target.name ≡ edge'.target.name =
    same_target edge.source.edges d edge.target.name edge'.target.name different edge.edge (subst (λ (x : Written). Contains x.edges (d, edge'.target.name)) source edge'.edge) in
    let is_u : u < length vertices = slice_get_within vertices u edge.target edge.is_target in
    let is_w : w < length vertices = slice_get_within vertices w edge'.target edge'.is_target in
    let name_of : Written → ℕ = λ x. x.name in
    let at_u : get_or (names_of vertices) u 0 ≡ edge.target.name = get_or-map name_of vertices u edge.target 0 is_u ∙ ap name_of (get_or_from_slice_get vertices u edge.target edge.target edge.is_target) in
    let at_w : get_or (names_of vertices) w 0 ≡ edge'.target.name = get_or-map name_of vertices w edge'.target 0 is_w ∙ ap name_of (get_or_from_slice_get vertices w edge'.target edge'.target edge'.is_target) in
    same_place (names_of vertices) u w makes.names_differ (omega (arith, length-map vertices name_of)) (omega (arith, length-map vertices name_of)) (at_u ∙ name ∙ sym at_w)

-- a step back is one out of the opposite side
side_step_back : (side : RectangleSide) (r c r' c' : ℕ) → SideStep side r c r' c' → SideStep (side_opposite side) r' c' r c
side_step_back Up r c r' c' step = (step.0, sym step.1)
side_step_back Down r c r' c' step = (step.0, sym step.1)
side_step_back Left r c r' c' step = (sym step.0, step.1)
side_step_back Right r c r' c' step = (sym step.0, step.1)

pub rectangles_lead_back : RectanglesLeadBack
rectangles_lead_back = edges_lead_back sides side_opposite (λ rows. SideStep) (λ rows r c. r * cells_in rows 0 + c) (λ rows. side_step_back)

-- a step back is one in the opposite direction
compass_step_back : (rows : Rows) (way : Compass) (r c r' c' : ℕ) → CompassStep rows way r c r' c' → CompassStep rows (compass_opposite way) r' c' r c
compass_step_back rows NorthWest r c r' c' step = step
compass_step_back rows NorthEast r c r' c' step = step
compass_step_back rows East r c r' c' step = (sym step.0, step.1)
compass_step_back rows SouthEast r c r' c' step = step
compass_step_back rows SouthWest r c r' c' step = step
compass_step_back rows West r c r' c' step = (sym step.0, step.1)

pub hexagons_lead_back : HexagonsLeadBack
hexagons_lead_back = edges_lead_back compass compass_opposite CompassStep number_along compass_step_back
