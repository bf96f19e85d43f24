-- The lines before what is left are read and told.
use Rattle.std.proofs.Common.{length, [], unwrap_or}
use Rattle.rbg_rules.specs.Meaning.{IsPlaceOf}
use Rattle.rbg_record.proofs.Stopping.{IsReadSoFar}
use Rattle.rbg_record.specs.ByLine.{IsReachedIn, reached_of}
use Rattle.rbg_view.proofs.PageReading.{AreTold}
use Rattle.rbg_view.proofs.followed_record.follow_record.Given as goal

abbrev pub invariant-loop-reached : goal.invariant-loop-reached
invariant-loop-reached l =
    IsReadSoFar (AreTold l.game) l.bytes (reached_of l.reached, record { lines = l.lines.items; place = l.place; marked = unwrap_or l.last [] }) l.reader
    × IsReachedIn l.game (reached_of l.reached)
    × IsPlaceOf l.game l.place

abbrev pub decreases-loop-reached : goal.decreases-loop-reached
decreases-loop-reached l = length l.reader.rest
