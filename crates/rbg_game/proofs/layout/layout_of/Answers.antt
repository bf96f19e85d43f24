use Rattle.std.proofs.Common.{List, Vec, length, map, subst, sym, ap, ◌∙◌, Global}
use Rattle.rbg_grammar.specs.Views.{names_of, vertex_of, board_of}
use Rattle.rbg_grammar.specs.declared.names.Name.{Name}
use Rattle.rbg_grammar.specs.declared.description.ParsedBoard.{ParsedBoard}
use Rattle.rbg_grammar.specs.declared.description.Vertex.{Vertex}
use Rattle.rbg_game.proofs.Common.{vertex_names, IsLayoutOf, of_rectangle, of_hexagon, of_graph, Rectangle, Hexagon, Graph}
use Rattle.rbg_game.proofs.layout.layout_of.Goals as goal

pub returns-in_ok-row_lengths-in-Rectangle : goal.returns-in_ok-row_lengths-in-Rectangle
returns-in_ok-row_lengths-in-Rectangle c =
    let lengths = c.in_ok-row_lengths-in-Rectangle.field-0 in
    let same = ap (λ (rows : List (Vec Name Global)). map length (map names_of rows)) c.deref.ensures.value in
    subst (λ (b : ParsedBoard). IsLayoutOf (board_of b) (Rectangle lengths)) (sym c.in-Rectangle.is) (of_rectangle (c.in_ok-row_lengths-in-Rectangle.ensures ∙ same))

pub returns-in_ok-row_lengths-in-Hexagon : goal.returns-in_ok-row_lengths-in-Hexagon
returns-in_ok-row_lengths-in-Hexagon c =
    let lengths = c.in_ok-row_lengths-in-Hexagon.field-0 in
    let same = ap (λ (rows : List (Vec Name Global)). map length (map names_of rows)) c.deref-in-Hexagon.ensures.value in
    subst (λ (b : ParsedBoard). IsLayoutOf (board_of b) (Hexagon lengths)) (sym c.in-Hexagon.is) (of_hexagon (c.in_ok-row_lengths-in-Hexagon.ensures ∙ same))

pub returns-in_ok-copy_names-in-Graph : goal.returns-in_ok-copy_names-in-Graph
returns-in_ok-copy_names-in-Graph c =
    let names = c.in_ok-copy_names-in-Graph.field-0 in
    let same = ap (λ (vertices : List Vertex). vertex_names (map vertex_of vertices)) c.deref-in-Graph.ensures.value in
    subst (λ (b : ParsedBoard). IsLayoutOf (board_of b) (Graph names)) (sym c.in-Graph.is) (of_graph (c.in_ok-copy_names-in-Graph.ensures ∙ same))
