-- The matches are counted, or the keeper's first moves or a match isn't played to its end, or there was no memory.
use Rattle.rbg_questions.specs.declared.question_error.QuestionError.TheVariants.{Memory}
use Rattle.rbg_questions.specs.internal.Refusing.{refusal_of_unsettled}
use Rattle.rbg_base.proofs.Errors.{passed_on}
use Rattle.rbg_questions.specs.Playing.{no_summary}
use Rattle.rbg_questions.proofs.PlayoutBeginning.{played_after, unplayed_after, unsettled_first}
use Rattle.rbg_questions.proofs.Faults.{not_settled}
use Rattle.rbg_questions.proofs.playing.play_on.Goals as goal

pub returns-in_err-place-clause-unplayed : goal.returns-in_err-place-clause-unplayed
returns-in_err-place-clause-unplayed c =
    passed_on c.from_residual.result Memory _ c.from_residual.ensures.1 no_summary

pub returns-in_err-settle-clause-unplayed : goal.returns-in_err-settle-clause-unplayed
returns-in_err-settle-clause-unplayed c =
    passed_on c.from_residual-in_err-settle.result (refusal_of_unsettled c.in_err-settle.field-0.0) _ c.from_residual-in_err-settle.ensures.1
    (unsettled_first _ _ _ c.in_ok-place.ensures.start (not_settled _ _ _ c.in_err-settle.field-0.0 c.in_err-settle.ensures.heavy c.in_err-settle.ensures.endless))

pub returns-in_err-tallies-clause-unplayed : goal.returns-in_err-tallies-clause-unplayed
returns-in_err-tallies-clause-unplayed c =
    passed_on c.from_residual-in_err-tallies.result c.in_err-tallies.field-0.0 _ c.from_residual-in_err-tallies.ensures.1
    (unplayed_after _ _ _ _ c.in_ok-place.ensures.start c.in_ok-settle.ensures.settles (rw c.new-from.ensures at c.in_err-tallies.ensures.unplayed))

pub returns-clause-played : goal.returns-clause-played
returns-clause-played c =
    played_after _ _ _ _ _ c.in_ok-place.ensures.start c.in_ok-settle.ensures.settles (rw c.new-from.ensures at c.in_ok-tallies.ensures.tallied)
