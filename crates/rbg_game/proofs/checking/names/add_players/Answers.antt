use Rattle.std.proofs.Common.{map}
use Rattle.rbg_grammar.specs.Views.{bounded_of}
use Rattle.rbg_game.proofs.Common.{HasHolderFault, by_name}
use Rattle.rbg_base.proofs.Errors.{passed_on}
use Rattle.rbg_game.proofs.NameFaults.{holder_fault_in_loop}
use Rattle.rbg_game.proofs.checking.names.add_players.Goals as goal

pub returns-in_err-insert-clause-fault : goal.returns-in_err-insert-clause-fault
returns-in_err-insert-clause-fault c =
    let error = c.in_err-insert.field-0.0 in
    passed_on c.from_residual.result error (HasHolderFault c.args.table.now (map bounded_of c.args.players.now)) c.from_residual.ensures.1
    (holder_fault_in_loop c.args.table.now c.loop-player.table c.args.players.now c.loop-player.player-index c.player-item.result error c.loop-player-test.true c.player-item.is c.loop-player.invariant (by_name c.in_err-insert.ensures.fault))
