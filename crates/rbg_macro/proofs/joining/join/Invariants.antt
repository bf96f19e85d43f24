-- The joined list is what was joined so far, followed by what the rest gives.
use Rattle.std.proofs.Common.{length, map, ◌-◌, All}
use Rattle.rbg_macro.specs.internal.Marks.{IsMarkedWord, lexeme_in_word}
use Rattle.rbg_macro.proofs.JoinedLists.{HasJoinedTo}
use Rattle.rbg_macro.proofs.joining.join.Given as goal

abbrev pub invariant-loop-at : goal.invariant-loop-at
invariant-loop-at l = HasJoinedTo l.list l.at (map lexeme_in_word l.joined) × All (IsMarkedWord l.macros) l.joined

abbrev pub decreases-loop-at : goal.decreases-loop-at
decreases-loop-at l = length l.list - l.at
