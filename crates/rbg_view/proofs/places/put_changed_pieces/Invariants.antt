-- The text so far is that of the changes so far.
use Rattle.std.proofs.Common.{◌≡◌, ◌++◌, take}
use Rattle.rbg_view.specs.Places.{changes_text}
use Rattle.rbg_view.proofs.places.put_changed_pieces.Given as goal

abbrev pub invariant-loop-index : goal.invariant-loop-index
invariant-loop-index l = l.out.items ≡ l.fn.out.items ++ changes_text (take l.index l.before) (take l.index l.after)
