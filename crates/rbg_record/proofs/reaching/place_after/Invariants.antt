use Rattle.std.proofs.Common.{length}
use Rattle.rbg_rules.specs.Meaning.{IsPlaceOf}
use Rattle.rbg_record.proofs.Stopping.{IsReadSoFar}
use Rattle.rbg_record.proofs.Common.{IsReachedIn, reached_of}
use Rattle.rbg_record.proofs.Following.{AreFollowed}
use Rattle.rbg_record.proofs.reaching.place_after.Given as goal

abbrev pub invariant-loop-reached : goal.invariant-loop-reached
invariant-loop-reached l =
    IsReadSoFar (AreFollowed l.game) l.bytes (reached_of l.reached, l.place) l.reader
    × IsReachedIn l.game (reached_of l.reached)
    × IsPlaceOf l.game l.place

abbrev pub decreases-loop-reached : goal.decreases-loop-reached
decreases-loop-reached l = length l.reader.rest
