-- The text so far is that of the edges so far.
use Rattle.std.proofs.Common.{◌≡◌, ◌++◌, codes, take, flat_map}
use Rattle.rbg_import.specs.Graphs.{edge_text}
use Rattle.rbg_import.proofs.graph.push_more_edges.Given as goal

abbrev pub invariant-loop-edge : goal.invariant-loop-edge
invariant-loop-edge l = l.output.items ≡ l.fn.output.items ++ flat_map (λ e. codes ", " ++ edge_text l.is_flat e) (take l.edge-index l.edges)
