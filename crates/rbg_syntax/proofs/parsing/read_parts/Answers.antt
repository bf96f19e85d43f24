use Rattle.std.proofs.Common.{Ok, Err}
use Rattle.rbg_grammar.specs.Views.{board_of, bounded_list_of, names_of, rule_of}
use Rattle.rbg_syntax.proofs.Descriptions.{players_spelt, pieces_spelt, board_spelt, rules_spelt, variables_spelt, players_fault, pieces_fault, board_fault, rules_fault, variables_fault}
use Rattle.rbg_syntax.proofs.Faults.{fault_err}
use Rattle.rbg_syntax.proofs.Places.{placed_there}
use Rattle.rbg_syntax.proofs.parsing.read_parts.Goals as goal

pub returns-in_err-players-2-clause-fault : goal.returns-in_err-players-2-clause-fault
returns-in_err-players-2-clause-fault c =
    let all = c.args.source.now in
    fault_err all _ c.in_err-players-2.field-0.0 c.from_residual-in_err-players-2.ensures.1
    (players_fault all bounded_list_of c.in_ok-players.players c.read_players.result c.in_err-players-2.field-0.0 c.in_ok-refuse_twice.ensures.once c.in_ok-players.ensures.found c.read_players.ensures (placed_there c.at.result c.in_ok-players.players.at c.read_players.result (Err c.in_err-players-2.field-0.0) c.at.ensures c.in_err-players-2.ensures))

pub returns-in_err-pieces-2-clause-fault : goal.returns-in_err-pieces-2-clause-fault
returns-in_err-pieces-2-clause-fault c =
    let all = c.args.source.now in
    fault_err all _ c.in_err-pieces-2.field-0.0 c.from_residual-in_err-pieces-2.ensures.1
    (pieces_fault all names_of c.in_ok-pieces.pieces c.read_pieces.result c.in_err-pieces-2.field-0.0 c.in_ok-refuse_twice.ensures.once c.in_ok-pieces.ensures.found c.read_pieces.ensures (placed_there c.at-2.result c.in_ok-pieces.pieces.at c.read_pieces.result (Err c.in_err-pieces-2.field-0.0) c.at-2.ensures c.in_err-pieces-2.ensures))

pub returns-in_err-variables-clause-fault : goal.returns-in_err-variables-clause-fault
returns-in_err-variables-clause-fault c =
    let all = c.args.source.now in
    fault_err all _ c.in_err-variables.field-0.0 c.from_residual-in_err-variables.ensures.1 (variables_fault all bounded_list_of c.in_err-variables.field-0.0 c.in_ok-refuse_twice.ensures.once c.in_err-variables.ensures)

pub returns-in_err-board-2-clause-fault : goal.returns-in_err-board-2-clause-fault
returns-in_err-board-2-clause-fault c =
    let all = c.args.source.now in
    fault_err all _ c.in_err-board-2.field-0.0 c.from_residual-in_err-board-2.ensures.1
    (board_fault all board_of c.in_ok-board.board c.read_board.result c.in_err-board-2.field-0.0 c.in_ok-refuse_twice.ensures.once c.in_ok-board.ensures.found c.read_board.ensures (placed_there c.at-3.result c.in_ok-board.board.at c.read_board.result (Err c.in_err-board-2.field-0.0) c.at-3.ensures c.in_err-board-2.ensures))

pub returns-in_err-rules-2-clause-fault : goal.returns-in_err-rules-2-clause-fault
returns-in_err-rules-2-clause-fault c =
    let all = c.args.source.now in
    fault_err all _ c.in_err-rules-2.field-0.0 c.from_residual-in_err-rules-2.ensures.1
    (rules_fault all rule_of c.in_ok-rules.rules c.read_rules.result c.in_err-rules-2.field-0.0 c.in_ok-refuse_twice.ensures.once c.in_ok-rules.ensures.found c.read_rules.ensures (placed_there c.at-4.result c.in_ok-rules.rules.at c.read_rules.result (Err c.in_err-rules-2.field-0.0) c.at-4.ensures c.in_err-rules-2.ensures))

pub returns-clause-found : goal.returns-clause-found
returns-clause-found c =
    let all = c.args.source.now in
    let different = c.in_ok-refuse_twice.ensures.once in
    record {
      players = players_spelt all bounded_list_of c.in_ok-players.players c.read_players.result c.in_ok-players-2.players different c.in_ok-players.ensures.found (placed_there c.at.result c.in_ok-players.players.at c.read_players.result (Ok c.in_ok-players-2.players) c.at.ensures c.in_ok-players-2.ensures) c.read_players.ensures;
      variables = variables_spelt all bounded_list_of c.in_ok-variables.variables different c.in_ok-variables.ensures;
      pieces = pieces_spelt all names_of c.in_ok-pieces.pieces c.read_pieces.result c.in_ok-pieces-2.pieces different c.in_ok-pieces.ensures.found (placed_there c.at-2.result c.in_ok-pieces.pieces.at c.read_pieces.result (Ok c.in_ok-pieces-2.pieces) c.at-2.ensures c.in_ok-pieces-2.ensures) c.read_pieces.ensures;
      board = board_spelt all board_of c.in_ok-board.board c.read_board.result c.in_ok-board-2.board different c.in_ok-board.ensures.found (placed_there c.at-3.result c.in_ok-board.board.at c.read_board.result (Ok c.in_ok-board-2.board) c.at-3.ensures c.in_ok-board-2.ensures) c.read_board.ensures;
      rules = rules_spelt all rule_of c.in_ok-rules.rules c.read_rules.result c.in_ok-rules-2.rules different c.in_ok-rules.ensures.found (placed_there c.at-4.result c.in_ok-rules.rules.at c.read_rules.result (Ok c.in_ok-rules-2.rules) c.at-4.ensures c.in_ok-rules-2.ensures) c.read_rules.ensures;
    }
