use Rattle.rbg_base.proofs.Common.{subst, ◌≢◌, IfOk, IfErr, IfErr-weaker}
use Rattle.rbg_grammar.proofs.Common.{SpeltDescription, description_of}
use Rattle.rbg_rules.specs.Meaning.{AbstractGame}
use Rattle.rbg_game.proofs.Common.{Memory, IsGameOf, HasFault}
use Rattle.rbg_game.proofs.FaultLaw.{no_game_with_fault}
use Rattle.rbg_game.proofs.checking.check.Goals as goal

pub returns-clause-game : goal.returns-clause-game
returns-clause-game c =
    let P : SpeltDescription → Type 0 = λ d. IfOk c.check_parts.result (IsGameOf d) in
    subst P c.into_parts.ensures.same c.check_parts.ensures.game

pub returns-clause-fault : goal.returns-clause-fault
returns-clause-fault c =
    let P : SpeltDescription → Type 0 = λ d. IfErr c.check_parts.result (HasFault d) in
    subst P c.into_parts.ensures.same c.check_parts.ensures.fault

pub returns-clause-refused : goal.returns-clause-refused
returns-clause-refused c =
    let d = description_of c.args.description in
    let P : SpeltDescription → Type 0 = λ d. IfErr c.check_parts.result (HasFault d) in
    IfErr-weaker c.check_parts.result (HasFault d) (λ e. e ≢ Memory → (game : AbstractGame) → ¬ IsGameOf d game) (no_game_with_fault d)
    (subst P c.into_parts.ensures.same c.check_parts.ensures.fault)
