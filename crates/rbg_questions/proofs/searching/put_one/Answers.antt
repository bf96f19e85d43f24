-- The line is that of the matches after the move, or they aren't played.
use Rattle.rbg_base.proofs.Errors.{passed_on}
use Rattle.rbg_questions.specs.declared.question_error.QuestionError.TheVariants.{Memory}
use Rattle.rbg_questions.specs.Chance.{stopped_at}
use Rattle.rbg_questions.specs.Searching.{unmoved, unplayed}
use Rattle.rbg_questions.proofs.Searched.{few_after, kept_same, search_memory, writes_one}
use Rattle.rbg_questions.proofs.searching.put_one.Goals as goal

pub put_line-requires : goal.put_line-requires
put_line-requires c = rw c.as_slice.ensures.value (few_after _ _ _ _ c.requires.count c.in_ok-tallies.ensures.tallied)

pub returns-in_err-to-clause-unsearched : goal.returns-in_err-to-clause-unsearched
returns-in_err-to-clause-unsearched c = passed_on c.from_residual.result c.in_err-to.field-0.0 _ c.from_residual.ensures.1 (unmoved (stopped_at c.in_err-to.ensures.stopped))

pub returns-in_err-to-clause-kept : goal.returns-in_err-to-clause-kept
returns-in_err-to-clause-kept c = kept_same c.args.out.now.items

pub returns-in_err-tallies-clause-unsearched : goal.returns-in_err-tallies-clause-unsearched
returns-in_err-tallies-clause-unsearched c =
    passed_on c.from_residual-in_err-tallies.result c.in_err-tallies.field-0.0 _ c.from_residual-in_err-tallies.ensures.1 (unplayed c.in_ok-to.ensures.leads (rw (c.new-there.ensures, c.played.ensures) at c.in_err-tallies.ensures.unplayed))

pub returns-in_err-tallies-clause-kept : goal.returns-in_err-tallies-clause-kept
returns-in_err-tallies-clause-kept c = kept_same c.args.out.now.items

pub returns-in_err-put_line-clause-unsearched : goal.returns-in_err-put_line-clause-unsearched
returns-in_err-put_line-clause-unsearched c =
    passed_on c.from_residual-in_err-put_line.result Memory _ c.from_residual-in_err-put_line.ensures.1 (search_memory _ _)

pub returns-clause-searched : goal.returns-clause-searched
returns-clause-searched c =
    writes_one _ _ _ _ _ _ _ _ _ c.in_ok-to.ensures.leads (rw (c.new-there.ensures, c.played.ensures) at c.in_ok-tallies.ensures.tallied) c.game.ensures.game (rw c.as_slice.ensures.value at c.in_ok-put_line.ensures.written)
