-- The text so far is that of the names so far.
use Rattle.std.proofs.Common.{◌≡◌, ◌++◌, take}
use Rattle.rbg_game.specs.NameTables.{bytes_of}
use Rattle.rbg_view.specs.Boards.{labels_text}
use Rattle.rbg_view.proofs.drawing.put_labels.Given as goal

abbrev pub invariant-loop-vertex : goal.invariant-loop-vertex
invariant-loop-vertex l = l.out.items ≡ l.fn.out.items ++ labels_text (take l.vertex (bytes_of l.names))
