use Rattle.std.proofs.Common.{sym, subst, map, flat_map}
use Rattle.rbg_grammar.specs.Views.{names_of}
use Rattle.rbg_game.specs.declared.game_error.GameError.{GameError}
use Rattle.rbg_game.specs.NameTables.{HasLookUpFault, no_memory}
use Rattle.rbg_base.proofs.Errors.{passed_on}
use Rattle.rbg_game.proofs.checking.boards.number_parts.Goals as goal

pub returns-in_err-directions-clause-fault : goal.returns-in_err-directions-clause-fault
returns-in_err-directions-clause-fault c =
    let P : GameError → Type 0 = HasLookUpFault c.args.pieces.now (flat_map (λ row. row) (map names_of c.args.rows.now)) in
    passed_on c.from_residual-in_err-directions.result c.in_err-directions.field-0.0 P c.from_residual-in_err-directions.ensures.1 (subst P (sym c.in_err-directions.ensures.memory) no_memory)
