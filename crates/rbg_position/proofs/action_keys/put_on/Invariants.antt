-- The marks of the pieces so far.
use Rattle.std.proofs.Common.{◌≡◌, ◌++◌, take}
use Rattle.rbg_position.specs.internal.Marks.{on_key}
use Rattle.rbg_position.proofs.action_keys.put_on.Given as goal

abbrev pub invariant-loop-piece : goal.invariant-loop-piece
invariant-loop-piece l = l.key.items ≡ l.fn.key.items ++ on_key (take l.piece-index l.pieces)
