-- The lines tell of the matches, or none were played, or there was no memory.
use Rattle.rbg_questions.specs.declared.question_error.QuestionError.TheVariants.{Memory}
use Rattle.rbg_base.proofs.Errors.{passed_on}
use Rattle.rbg_questions.specs.Playing.{no_summary}
use Rattle.rbg_questions.proofs.PlayoutBeginning.{few_playouts, tells_so}
use Rattle.rbg_questions.proofs.playing.playouts.Goals as goal

pub put_summary-requires : goal.put_summary-requires
put_summary-requires c = rw c.as_slice.ensures.value (few_playouts _ _ _ c.requires c.in_ok-tallies.ensures.played)

pub returns-in_err-tallies-clause-unplayed : goal.returns-in_err-tallies-clause-unplayed
returns-in_err-tallies-clause-unplayed c =
    passed_on c.from_residual.result c.in_err-tallies.field-0.0 _ c.from_residual.ensures.1 c.in_err-tallies.ensures.unplayed

pub returns-in_err-put_summary-clause-unplayed : goal.returns-in_err-put_summary-clause-unplayed
returns-in_err-put_summary-clause-unplayed c =
    passed_on c.from_residual-in_err-put_summary.result Memory _ c.from_residual-in_err-put_summary.ensures.1 no_summary

pub returns-clause-told : goal.returns-clause-told
returns-clause-told c =
    tells_so _ _ _ _ _ _ c.in_ok-tallies.ensures.played c.as_game.ensures.game c.new-text.ensures.items (rw c.as_slice.ensures.value at c.in_ok-put_summary.ensures.written)
