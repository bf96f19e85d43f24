use Rattle.rbg_grammar.specs.Descriptions.{description_of}
use Rattle.rbg_base.proofs.Errors.{passed_on}
use Rattle.rbg_game.proofs.Common.{Memory, HasFault, memory}
use Rattle.rbg_game.proofs.loading.check_with_layout.Goals as goal

pub returns-in_err-layout-clause-fault : goal.returns-in_err-layout-clause-fault
returns-in_err-layout-clause-fault c =
    passed_on c.from_residual.result Memory (HasFault (description_of c.args.description)) c.from_residual.ensures.1 memory
