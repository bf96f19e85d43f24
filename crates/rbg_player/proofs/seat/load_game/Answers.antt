use Rattle.std.proofs.Common.{◌≡◌, true, sym, ◌∙◌}
use Rattle.std.proofs.lemmas.Bool.{true≢false}
use Rattle.rbg_player.specs.declared.error.PlayerError.TheVariants.{Memory}
use Rattle.rbg_player.specs.Hearing.{no_game, memory}
use Rattle.rbg_base.proofs.Errors.{passed_on}
use Rattle.rbg_player.proofs.seat.load_game.Goals as goal

pub returns-then-is_memory-clause-fault : goal.returns-then-is_memory-clause-fault
returns-then-is_memory-clause-fault c player = memory

pub returns-else-is_memory-clause-fault : goal.returns-else-is_memory-clause-fault
returns-else-is_memory-clause-fault c player =
    no_game (λ game loads. c.in-Err.ensures.refused.no_game (λ is. let there : c.is_memory.result ≡ true = c.is_memory.ensures.1 is in true≢false (sym there ∙ c.if-is_memory.false)) game loads)

pub returns-in_err-new-in-Ok-clause-fault : goal.returns-in_err-new-in-Ok-clause-fault
returns-in_err-new-in-Ok-clause-fault c player = passed_on c.from_residual.result Memory _ c.from_residual.ensures.1 memory
