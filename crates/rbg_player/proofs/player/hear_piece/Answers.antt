use Rattle.std.proofs.Common.{refl, sym}
use Rattle.rbg_wire.specs.Inboxes.{item_of}
use Rattle.rbg_player.specs.declared.error.PlayerError.TheVariants.{Memory}
use Rattle.rbg_player.specs.Streams.{no_memory, here}
use Rattle.rbg_player.specs.internal.Stages.{stage_of, player_of}
use Rattle.rbg_base.proofs.Errors.{passed_on}
use Rattle.rbg_player.proofs.StreamLemmas.{nothing_heard, one_heard, fails_here}
use Rattle.rbg_player.proofs.player.hear_piece.Goals as goal

pub returns-in_err-feed-clause-fails : goal.returns-in_err-feed-clause-fails
returns-in_err-feed-clause-fails g c = passed_on c.from_residual.result Memory _ c.from_residual.ensures.1 no_memory

pub loop-took-init : goal.loop-took-init
loop-took-init g c = nothing_heard _ _ _

pub loop-took-preserved : goal.loop-took-preserved
loop-took-preserved g c =
    one_heard (stage_of c.args.stage.now) c.feed.new.self c.args.out.now.items (stage_of c.loop-took.stage) (stage_of c.hear_item.new.stage) c.loop-took.inbox c.take.follows.lender-at-none c.loop-took.out.items c.hear_item.new.out.items (item_of c.in-Some.took) c.loop-took.invariant (sym c.in-Some.ensures.item) c.take.follows.holds-at-none c.in_ok-hear_item.ensures.hears

pub returns-in_err-hear_item-clause-fails : goal.returns-in_err-hear_item-clause-fails
returns-in_err-hear_item-clause-fails g c =
    let error = c.in_err-hear_item.field-0.0 in
    passed_on c.from_residual-in_err-hear_item.result error _ c.from_residual-in_err-hear_item.ensures.1
    (here (fails_here (player_of c.args.stage.now c.args.inbox.now) c.args.out.now.items c.args.inbox.now c.loop-took.inbox c.feed.new.self c.args.piece.now (stage_of c.loop-took.stage) c.loop-took.out.items (item_of c.in-Some.took) error c.requires.ready refl c.in_ok-feed.ensures.ok c.loop-took.invariant (sym c.in-Some.ensures.item) c.in_err-hear_item.ensures.fault))
