-- The match is told, or it isn't played, or how play stands after it isn't told.
use Rattle.rbg_base.proofs.Errors.{passed_on}
use Rattle.rbg_questions.specs.declared.question_error.QuestionError.TheVariants.{Memory}
use Rattle.rbg_questions.specs.Searching.{no_memory}
use Rattle.rbg_questions.proofs.Sampled.{untold_at, writes_sample}
use Rattle.rbg_questions.proofs.sampling.write_sample.Goals as goal

pub make_moves-requires-clause-place : goal.make_moves-requires-clause-place
make_moves-requires-clause-place c = rw (c.played-game.ensures, c.in_ok-to.ensures.copy, c.place.ensures.place) c.place.ensures.in_game

pub returns-in_err-to-clause-unsampled : goal.returns-in_err-to-clause-unsampled
returns-in_err-to-clause-unsampled c = passed_on c.from_residual.result Memory _ c.from_residual.ensures.1 no_memory

pub returns-in_err-made-clause-unsampled : goal.returns-in_err-made-clause-unsampled
returns-in_err-made-clause-unsampled c =
    passed_on c.from_residual-in_err-made.result c.in_err-made.field-0.0 _ c.from_residual-in_err-made.ensures.1
    (rw (c.played-game.ensures, c.in_ok-to.ensures.copy, c.place.ensures.place) at c.in_err-made.ensures.unsampled)

pub returns-in_err-standing-clause-unsampled : goal.returns-in_err-standing-clause-unsampled
returns-in_err-standing-clause-unsampled c =
    passed_on c.from_residual-in_err-standing.result c.in_err-standing.field-0.0 _ c.from_residual-in_err-standing.ensures.1
    (untold_at _ _ _ _ _ _ _ (rw (c.played-game.ensures, c.in_ok-to.ensures.copy, c.place.ensures.place) at c.in_ok-made.ensures.made) (rw (c.new-there.ensures, c.played-game.ensures) at c.in_err-standing.ensures.untold))

pub returns-in_err-write_sampled-clause-unsampled : goal.returns-in_err-write_sampled-clause-unsampled
returns-in_err-write_sampled-clause-unsampled c =
    passed_on c.from_residual-in_err-write_sampled.result Memory _ c.from_residual-in_err-write_sampled.ensures.1 no_memory

pub returns-clause-sampled : goal.returns-clause-sampled
returns-clause-sampled c =
    writes_sample _ _ _ _ _ _ _ _ _ _ (rw (c.played-game.ensures, c.in_ok-to.ensures.copy, c.place.ensures.place) at c.in_ok-made.ensures.made)
    (rw (c.new-there.ensures, c.played-game.ensures) at c.in_ok-standing.ensures.stands) c.as_slice.ensures.value c.in_ok-write_sampled.ensures.ok
