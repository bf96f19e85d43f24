-- Lemmas on what is answered to a game and a record.
use Rattle.std.proofs.Common.{◌≡◌, ℕ, List, refl, sym, subst, ◌↔◌, Result, Ok, Err, IfOk}
use Rattle.rbg_console.specs.declared.status.Status.{Status}
use Rattle.rbg_console.specs.declared.status.Status.TheVariants.{Success, BadInput}
use Rattle.rbg_record.proofs.Common.{IsBadLine, IsFormFault, IsHeavyLine, IsJudged, IsPlainFault, IsRightRecord, verdict_at}
use Rattle.rbg_record.specs.declared.checked.Checked.{Checked}
use Rattle.rbg_record.specs.declared.checked.Checked.TheVariants.{Good, Bad}
use Rattle.rbg_record.specs.declared.error.RecordError.{RecordError}
use Rattle.rbg_record.specs.declared.error.RecordError.TheVariants.{Form, Over, Memory}
use Rattle.rbg_record.specs.declared.fault.LineFault.{LineFault}
use Rattle.rbg_record.specs.declared.fault.LineFault.TheVariants as faults
use Rattle.rbg_rules.specs.Meaning.{AbstractGame}
use Rattle.rbg_operations.specs.Tasks.{FileCommand}
use Rattle.rbg_operations.specs.Tasks.FileCommand.{Replay, Migrate, Moves}
use Rattle.rbg_operations.specs.Answers.{IsGamesAnswer, good_line, bad_line, form_line, over_line}
use Rattle.rbg_operations.specs.Answers.IsGamesAnswer.{good, wrong, not_plain, no_moves}
use Rattle.rbg_operations.specs.Answers.NamesFault.{bad, not_of_form, over}
use Rattle.rbg_operations.specs.internal.Parts.{AnswersChecked, AnswersRecordError}

-- the answer with this text and this status
pub games_answer_is : (game : AbstractGame) (description told : List ℕ) (command : FileCommand) (text said : List ℕ) (status ended : Status) → text ≡ said → status ≡ ended → IsGamesAnswer game description told command said ended → IsGamesAnswer game description told command text status
games_answer_is game description told command text said status ended is was answer =
    subst (λ t. IsGamesAnswer game description told command t status) (sym is) (subst (IsGamesAnswer game description told command said) (sym was) answer)

-- The verdict on a record is true.
pub record Judges (game : AbstractGame) (told : List ℕ) (checked : Result Checked RecordError) : Type 0 where
  pub right : IfOk checked (λ is. (is ≡ Good) ↔ IsRightRecord game told)
  pub wrong : (line : ℕ) → checked ≡ Ok (Bad line) → IsBadLine game told line
  pub form : (line : ℕ) → checked ≡ Err (Form line) → IsFormFault game told line
  pub heavy : (line : ℕ) → checked ≡ Err (Over line) → IsHeavyLine game told line

-- its line is the answer
pub checked_answer : (game : AbstractGame) (told : List ℕ) (checked : Result Checked RecordError) (text : List ℕ) (status : Status) → Judges game told checked → AnswersChecked checked text status → (description : List ℕ) → IsGamesAnswer game description told Replay text status
checked_answer game told (Ok Good) text status is says description =
    games_answer_is game description told Replay text good_line status Success says.0 says.1 (good (is.right.0 refl))
checked_answer game told (Ok (Bad line)) text status is says description =
    games_answer_is game description told Replay text (bad_line line) status BadInput says.0 says.1 (wrong (bad_line line) (bad line (is.wrong line refl)))
checked_answer game told (Err (Form line)) text status is says description =
    games_answer_is game description told Replay text (form_line line) status BadInput says.0 says.1 (wrong (form_line line) (not_of_form line (is.form line refl)))
checked_answer game told (Err (Over line)) text status is says description =
    games_answer_is game description told Replay text (over_line line) status BadInput says.0 says.1 (wrong (over_line line) (over line (is.heavy line refl)))
checked_answer game told (Err Memory) text status is says description = absurd says

-- the line of a fault is the answer if the moves of a record lead nowhere
pub misfit_answer : (game : AbstractGame) (told : List ℕ) (fault : LineFault) (line : ℕ) (text : List ℕ) (status : Status) → IsJudged game told (verdict_at fault line) → AnswersChecked (verdict_at fault line) text status → (description : List ℕ) → IsGamesAnswer game description told Moves text status
misfit_answer game told faults.Form line text status is says description =
    games_answer_is game description told Moves text (form_line line) status BadInput says.0 says.1 (no_moves (form_line line) (not_of_form line is))
misfit_answer game told faults.Bad line text status is says description =
    games_answer_is game description told Moves text (bad_line line) status BadInput says.0 says.1 (no_moves (bad_line line) (bad line is))
misfit_answer game told faults.Over line text status is says description =
    games_answer_is game description told Moves text (over_line line) status BadInput says.0 says.1 (no_moves (over_line line) (over line is))
misfit_answer game told faults.Memory line text status is says description = absurd says

-- the line of a record's fault is the answer if the record can't be migrated
pub plain_fault_answer : (game : AbstractGame) (told : List ℕ) (error : RecordError) (text : List ℕ) (status : Status) → ((line : ℕ) → error ≡ Form line → IsPlainFault told line) → ((line : ℕ) → ¬ (error ≡ Over line)) → AnswersRecordError error text status → (description : List ℕ) → IsGamesAnswer game description told Migrate text status
plain_fault_answer game told (Form line) text status form never says description =
    games_answer_is game description told Migrate text (form_line line) status BadInput says.0 says.1 (not_plain line (form line refl))
plain_fault_answer game told (Over line) text status form never says description = absurd (never line refl)
plain_fault_answer game told Memory text status form never says description = absurd says
