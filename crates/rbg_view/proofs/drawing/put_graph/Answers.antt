-- The parts of the text, one after the other.
use Rattle.std.proofs.Common.{[], ◌∷◌, length, codes}
use Rattle.rbg_view.specs.Boards.{frame_text, labels_text, vertices_text}
use Rattle.rbg_game.specs.NameTables.{bytes_of}
use Rattle.rbg_view.proofs.Parts.{graph_is}
use Rattle.rbg_view.proofs.Writing.{joined3}
use Rattle.rbg_view.proofs.drawing.put_graph.Goals as goal

pub returns : goal.returns
returns c = rw (graph_is c.args.drawn.now.game.now.pieces c.args.names.now c.args.drawn.now.marked.now c.args.drawn.now.standing.now) (joined3 c.args.out.now.items _ _ _ (frame_text (codes "graph") (length c.args.names.now) (length c.args.names.now) (codes "<circle id='cell' r='5'/>")) (vertices_text c.args.drawn.now.game.now.pieces (length c.args.names.now ∷ []) c.args.drawn.now.marked.now c.args.drawn.now.standing.now) (labels_text (bytes_of c.args.names.now)) c.in_ok-put_frame.ensures c.in_ok-put_vertices.ensures c.in_ok-put_labels.ensures)
