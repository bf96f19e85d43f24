-- Moves are made on a copy, or one isn't made, or there was no memory.
use Rattle.std.proofs.Common.{ap, subst}
use Rattle.rbg_questions.specs.declared.question_error.QuestionError.TheVariants.{Memory}
use Rattle.rbg_base.proofs.Errors.{passed_on}
use Rattle.rbg_c.specs.States.{AbstractState}
use Rattle.rbg_c.specs.Playouts.{no_memory}
use Rattle.rbg_c.specs.internal.ByChance.{TellsOn}
use Rattle.rbg_c.proofs.ByChance.{copy_stuck}
use Rattle.rbg_c.proofs.playouts.sampled_on.Goals as goal

pub sample_on-requires : goal.sample_on-requires
sample_on-requires c = ap (λ (s : AbstractState). s.found) c.in_ok-copy.ensures

pub returns-in_err-copy-clause-stuck : goal.returns-in_err-copy-clause-stuck
returns-in_err-copy-clause-stuck c = passed_on c.from_residual.result Memory _ c.from_residual.ensures.1 no_memory

pub returns-in_err-sample_on-clause-stuck : goal.returns-in_err-sample_on-clause-stuck
returns-in_err-sample_on-clause-stuck c =
    passed_on c.from_residual-in_err-sample_on.result c.in_err-sample_on.field-0.0 _ c.from_residual-in_err-sample_on.ensures.1 (copy_stuck c.args.state.now _ _ _ c.in_ok-copy.ensures c.in_err-sample_on.ensures.stuck)

pub returns-clause-played : goal.returns-clause-played
returns-clause-played c =
    subst (λ (s : AbstractState). TellsOn s c.args.draw.count c.sample_on.new.state c.args.numbers.now.items c.sample_on.new.numbers.items) c.in_ok-copy.ensures c.in_ok-sample_on.ensures.plays
