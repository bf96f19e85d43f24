use Rattle.std.proofs.Common.{length}
use Rattle.rbg_record.proofs.Common.{IsReachedIn, reached_of}
use Rattle.rbg_record.proofs.SoFarLemmas.{IsJudgedSoFar}
use Rattle.rbg_record.proofs.checking.judge_lines.Given as goal

abbrev pub invariant-loop-reached : goal.invariant-loop-reached
invariant-loop-reached l = IsJudgedSoFar l.game l.bytes (reached_of l.reached) l.reader × IsReachedIn l.game (reached_of l.reached)

abbrev pub decreases-loop-reached : goal.decreases-loop-reached
decreases-loop-reached l = length l.reader.rest
