-- Moves are made on a copy, or one isn't made, or there was no memory.
use Rattle.std.proofs.Common.{ap, subst}
use Rattle.rbg_questions.specs.declared.question_error.QuestionError.TheVariants.{Memory}
use Rattle.rbg_base.proofs.Errors.{passed_on}
use Rattle.rbg_c.specs.States.{AbstractState}
use Rattle.rbg_c.specs.Playouts.{no_memory}
use Rattle.rbg_c.specs.internal.ByChance.{IsPlayedOn}
use Rattle.rbg_c.proofs.ByChance.{copy_stuck}
use Rattle.rbg_c.proofs.playouts.played_on.Goals as goal

pub play_on-requires : goal.play_on-requires
play_on-requires c = ap (λ (s : AbstractState). s.found) c.in_ok-copy.ensures

pub returns-in_err-copy-clause-stuck : goal.returns-in_err-copy-clause-stuck
returns-in_err-copy-clause-stuck c = passed_on c.from_residual.result Memory _ c.from_residual.ensures.1 no_memory

pub returns-in_err-play_on-clause-stuck : goal.returns-in_err-play_on-clause-stuck
returns-in_err-play_on-clause-stuck c =
    passed_on c.from_residual-in_err-play_on.result c.in_err-play_on.field-0.0 _ c.from_residual-in_err-play_on.ensures.1 (copy_stuck c.args.state.now _ _ _ c.in_ok-copy.ensures c.in_err-play_on.ensures.stuck)

pub returns-clause-played : goal.returns-clause-played
returns-clause-played c =
    subst (λ (s : AbstractState). IsPlayedOn s c.args.draw.count c.play_on.new.state) c.in_ok-copy.ensures c.in_ok-play_on.ensures.plays
