-- No place of the game is packed so, or there was no memory.
use Rattle.rbg_base.proofs.Errors.{passed_on}
use Rattle.rbg_questions.specs.declared.question_error.QuestionError.TheVariants.{Memory}
use Rattle.rbg_questions.specs.internal.Places.{no_bytes}
use Rattle.rbg_questions.proofs.Faults.{not_unpacked_in}
use Rattle.rbg_questions.proofs.Packed.{none_there}
use Rattle.rbg_questions.proofs.packing.place_in.Goals as goal

pub returns-in_err-place-clause-refused : goal.returns-in_err-place-clause-refused
returns-in_err-place-clause-refused c = passed_on c.from_residual.result Memory _ c.from_residual.ensures.1 no_bytes

pub returns-in-None-clause-refused : goal.returns-in-None-clause-refused
returns-in-None-clause-refused c = not_unpacked_in _ _ _ c.as_game.ensures.game (none_there _ _ c.in-None.is c.in_ok-place.ensures.none)
