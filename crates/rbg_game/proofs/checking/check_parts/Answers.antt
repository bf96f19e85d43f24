use Rattle.std.proofs.Common.{sym, subst}
use Rattle.rbg_grammar.specs.Descriptions.{description_of_parts}
use Rattle.rbg_rules.specs.Meaning.{AbstractGame, rules_of}
use Rattle.rbg_game.proofs.Common.{Memory, IsGameOf, HasFault, memory}
use Rattle.rbg_base.proofs.Errors.{passed_on}
use Rattle.rbg_game.proofs.Assembly.{board_unlawful, rules_unlawful, game_made}
use Rattle.rbg_game.proofs.checking.check_parts.Goals as goal

pub returns-in_err-board-clause-fault : goal.returns-in_err-board-clause-fault
returns-in_err-board-clause-fault c =
    let d = description_of_parts c.args.parts.now in
    let error = c.in_err-board.field-0.0 in
    passed_on c.from_residual-in_err-board.result error (HasFault d) c.from_residual-in_err-board.ensures.1
    (board_unlawful d c.in_ok-things.things c.in_ok-things.ensures.things error c.in_err-board.ensures.fault)

pub returns-in_err-rules-clause-fault : goal.returns-in_err-rules-clause-fault
returns-in_err-rules-clause-fault c =
    let d = description_of_parts c.args.parts.now in
    let error = c.in_err-rules.field-0.0 in
    passed_on c.from_residual-in_err-rules.result error (HasFault d) c.from_residual-in_err-rules.ensures.1
    (rules_unlawful d c.in_ok-things.things c.in_ok-board.board c.requires c.in_ok-things.ensures.things c.in_ok-board.ensures.board error c.in_err-rules.ensures.fault)

pub assemble-requires-clause-lawful : goal.assemble-requires-clause-lawful
assemble-requires-clause-lawful c =
    let d = description_of_parts c.args.parts.now in
    let is = game_made d c.in_ok-things.things c.in_ok-board.board (rules_of c.in_ok-rules.rules) c.requires c.in_ok-things.ensures.things c.in_ok-board.ensures.board c.in_ok-rules.ensures.rules.by_numbers in
    is.lawful

pub returns-in_err-assemble-clause-fault : goal.returns-in_err-assemble-clause-fault
returns-in_err-assemble-clause-fault c =
    let d = description_of_parts c.args.parts.now in
    passed_on c.from_residual-in_err-assemble.result Memory (HasFault d) c.from_residual-in_err-assemble.ensures.1 memory

pub returns-clause-game : goal.returns-clause-game
returns-clause-game c =
    let d = description_of_parts c.args.parts.now in
    let is = game_made d c.in_ok-things.things c.in_ok-board.board (rules_of c.in_ok-rules.rules) c.requires c.in_ok-things.ensures.things c.in_ok-board.ensures.board c.in_ok-rules.ensures.rules.by_numbers in
    let P : AbstractGame → Type 0 = λ game. IsGameOf d game in
    subst P (sym c.in_ok-assemble.ensures) is

pub assemble-requires-clause-actions : goal.assemble-requires-clause-actions
assemble-requires-clause-actions c = c.in_ok-rules.ensures.rules.count
