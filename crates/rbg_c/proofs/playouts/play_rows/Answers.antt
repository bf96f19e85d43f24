-- The matches are told, or one wasn't played, or there was no memory.
use Rattle.std.proofs.Common.{map}
use Rattle.rbg_questions.specs.declared.question_error.QuestionError.TheVariants.{Memory}
use Rattle.rbg_questions.specs.Chance.{counted_by}
use Rattle.rbg_base.proofs.Errors.{passed_on}
use Rattle.rbg_c.proofs.ByChance.{unplayed_memory}
use Rattle.rbg_c.proofs.playouts.play_rows.Goals as goal

pub returns-in_err-rows-clause-unplayed : goal.returns-in_err-rows-clause-unplayed
returns-in_err-rows-clause-unplayed c =
    passed_on c.from_residual-in_err-rows.result Memory _ c.from_residual-in_err-rows.ensures.1 (unplayed_memory _ _)

pub returns-clause-played : goal.returns-clause-played
returns-clause-played c = record {
  counted = map counted_by c.in_ok-tallies.tallies.items;
  tallied = c.in_ok-tallies.ensures.tallied;
  told = rw c.as_slice.ensures.value at c.in_ok-rows.ensures;
}
