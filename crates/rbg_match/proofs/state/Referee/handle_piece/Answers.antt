use Rattle.std.proofs.Common.{sym}
use Rattle.rbg_wire.specs.Inboxes.{item_of}
use Rattle.rbg_match.proofs.Replying.{replies_err, refused_then}
use Rattle.rbg_match.proofs.Taking.{none_taken, one_taken}
use Rattle.rbg_match.proofs.state.Referee.handle_piece.Goals as goal

pub returns-in_err-feed-clause-replies : goal.returns-in_err-feed-clause-replies
returns-in_err-feed-clause-replies c = replies_err _ c.from_residual.result c.from_residual.ensures.0 _

pub loop-took-init : goal.loop-took-init
loop-took-init c = none_taken c.args.self.now c.args.seat c.feed.new.self

pub loop-took-preserved : goal.loop-took-preserved
loop-took-preserved c = one_taken c.take.follows.lender-at-none (item_of c.in-Some.took) c.loop-took.invariant (sym c.in-Some.ensures.item) c.take.follows.holds-at-none c.in_ok-handle.ensures.replies

pub returns-in_err-handle-clause-replies : goal.returns-in_err-handle-clause-replies
returns-in_err-handle-clause-replies c =
    let has = c.loop-took.invariant in
    refused_then has.play has.outgoing has.becomes c.handle.ensures.replies c.from_residual-in_err-handle.result c.from_residual-in_err-handle.ensures.0 _
