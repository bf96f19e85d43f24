-- What the file has is answered.
use Rattle.rbg_base.proofs.Common.{subst, IfOk-weaker}
use Rattle.rbg_console.specs.Files.{IsFileReading}
use Rattle.rbg_game.specs.declared.error.LoadError.TheVariants.{Text}
use Rattle.rbg_macro.specs.TextLimits.{longest_text}
use Rattle.rbg_macro.specs.declared.text_error.TextError.TheVariants.{TooLong}
use Rattle.rbg_operations.specs.ListingAnswers.{IsMovesAnswer}
use Rattle.rbg_operations.specs.ListingAnswers.IsMovesAnswer.{refused}
use Rattle.rbg_operations.specs.ListingRuns.IsFilesMoves.{of_file}
use Rattle.rbg_referee.proofs.RunCallerLemmas.{long_refused}
use Rattle.rbg_operations.proofs.run.answer_file.Goals as goal

pub returns-in-Whole : goal.returns-in-Whole
returns-in-Whole g c =
    IfOk-weaker c.answer_moves.result _ _
    (λ answer is. of_file c.in-Whole.text.items (subst (IsFileReading longest_text _) c.in-Whole.is c.in_ok-text.ensures.read).1 (subst (λ text. IsMovesAnswer text answer.text.items answer.status) c.as_slice.ensures.value is)) c.answer_moves.ensures

pub returns-in-TooLong : goal.returns-in-TooLong
returns-in-TooLong g c =
    let reading = subst (IsFileReading longest_text _) c.in-TooLong.is c.in_ok-text.ensures.read in
    IfOk-weaker c.answer_unloaded.result _ _
    (λ answer says. of_file reading.0 reading.2 (refused (Text TooLong) (long_refused reading.0 reading.1) says.0 says.1 says.2)) c.answer_unloaded.ensures
