use Rattle.std.proofs.Common.{length}
use Rattle.rbg_player.specs.internal.Stages.{stage_of}
use Rattle.rbg_player.proofs.StreamLemmas.{HasHeard}
use Rattle.rbg_player.proofs.player.hear_piece.Given as goal

abbrev pub invariant-loop-took : goal.invariant-loop-took
invariant-loop-took g l = HasHeard (stage_of l.initial.stage) l.initial.inbox l.initial.out.items (stage_of l.stage) l.inbox l.out.items

abbrev pub decreases-loop-took : goal.decreases-loop-took
decreases-loop-took g l = length l.inbox.items
