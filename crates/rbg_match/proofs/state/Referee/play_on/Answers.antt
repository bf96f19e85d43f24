use Rattle.rbg_match.proofs.GoingOn.{not_yet_come, come_further, come_to_rest}
use Rattle.rbg_match.proofs.Replying.{refused_then}
use Rattle.rbg_match.proofs.state.Referee.play_on.Goals as goal

pub loop-in_a_row-init : goal.loop-in_a_row-init
loop-in_a_row-init c = not_yet_come c.args.self.now

pub returns-in_err-play_on_once : goal.returns-in_err-play_on_once
returns-in_err-play_on_once c =
    let come = c.loop-in_a_row.invariant in
    refused_then come.play come.outgoing come.becomes c.play_on_once.ensures c.from_residual.result c.from_residual.ensures.0 _

pub loop-in_a_row-preserved : goal.loop-in_a_row-preserved
loop-in_a_row-preserved c = come_further c.loop-in_a_row.invariant (rw c.in-KeeperMoved.is at c.in_ok-play_on_once.ensures)

pub returns-in-Settled : goal.returns-in-Settled
returns-in-Settled c = come_to_rest c.loop-in_a_row.invariant (rw c.in-Settled.is at c.in_ok-play_on_once.ensures)
