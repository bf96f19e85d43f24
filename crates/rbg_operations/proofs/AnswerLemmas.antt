-- Lemmas on answers.
use Rattle.std.proofs.Common.{◌≡◌, ◌≤◌, ℕ, List, length, refl, sym, subst, arith, Global, Option, Some, Vec}
use Rattle.rbg_console.specs.Inputs.{most_input}
use Rattle.rbg_console.specs.declared.status.Status.{Status}
use Rattle.rbg_console.specs.declared.status.Status.TheVariants.{Success, Refused, BadInput}
use Rattle.rbg_game.specs.Loading.{Loads, IsRefused, IsMemory}
use Rattle.rbg_game.specs.declared.error.LoadError.{LoadError}
use Rattle.rbg_game.specs.declared.error.LoadError.TheVariants.{Text}
use Rattle.rbg_referee.specs.Answers.{refused_line, script_line}
use Rattle.rbg_referee.specs.Faults.{AnswersFault}
use Rattle.rbg_referee.specs.Matches.{IsScriptsMatch, IsNoMatch}
use Rattle.rbg_referee.specs.declared.input_error.RefereeingError.{RefereeingError}
use Rattle.rbg_referee.specs.declared.input_error.RefereeingError.TheVariants.{Load, Script, Memory}
use Rattle.rbg_rules.specs.Meaning.{AbstractGame}
use Rattle.rbg_macro.specs.TextLimits.{longest_text}
use Rattle.rbg_macro.specs.declared.text_error.TextError.TheVariants.{TooLong, Memory as TextMemory}
use Rattle.rbg_operations.specs.Tasks.{FileCommand}
use Rattle.rbg_operations.specs.Tasks.FileCommand.{Referee}
use Rattle.rbg_operations.specs.Answers.{IsGamesAnswer, IsTaskAnswer, form_line}
use Rattle.rbg_operations.specs.Answers.IsGamesAnswer.{played, misfit}
use Rattle.rbg_operations.specs.Answers.IsTaskAnswer.{of_game, refused, long_script, long_record}
use Rattle.rbg_operations.specs.Tasks.{AbstractTask, IsReadOf}
use Rattle.rbg_operations.specs.internal.Parts.{task_of, AnswersWhole, AnswersLong, AnswersLongRecord, AnswersMatch, AnswersTexts, AnswersUnloaded}

-- the answer with this text and this status
pub answer_is : (task : AbstractTask) (text said : List ℕ) (status ended : Status) → text ≡ said → status ≡ ended → IsTaskAnswer task said ended → IsTaskAnswer task text status
answer_is task text said status ended is was answer =
    subst (λ t. IsTaskAnswer task t status) (sym is) (subst (IsTaskAnswer task said) (sym was) answer)

pub long_known : ¬ IsMemory (Text TooLong)
long_known same = absurd (let e : TooLong ≡ TextMemory = same in cc)

-- what is answered about a game is the answer
pub game_answers : (command : FileCommand) (read : Option (Vec ℕ Global)) (told : List ℕ) (game : AbstractGame) (text : List ℕ) (status : Status) → ((d : List ℕ) → IsReadOf longest_text read d → Loads d game) → ((d : List ℕ) → IsGamesAnswer game d told command text status) → AnswersWhole command read told text status
game_answers command read told game text status loads says = λ d reads fits. of_game game text status (loads d reads) fits (says d)

-- the line of a refusal is the answer
pub refusal_answers : (command : FileCommand) (read : Option (Vec ℕ Global)) (told : List ℕ) (error : LoadError) (text : List ℕ) (status : Status) → ((d : List ℕ) → IsReadOf longest_text read d → IsRefused d error) → ¬ IsMemory error → text ≡ refused_line error → status ≡ Refused → AnswersWhole command read told text status
refusal_answers command read told error text status why known is was =
    λ d reads fits. answer_is (task_of command d told) text (refused_line error) status Refused is was
    (refused error (why d reads) known (λ same above. let no : ⊥ = omega (arith, fits, above) in no))

pub refusal_answers_long : (read : Option (Vec ℕ Global)) (error : LoadError) (text : List ℕ) (status : Status) → ((d : List ℕ) → IsReadOf longest_text read d → IsRefused d error) → ¬ IsMemory error → text ≡ refused_line error → status ≡ Refused → AnswersLongRecord read text status
refusal_answers_long read error text status why known is was =
    λ command other d told reads above. answer_is (task_of command d told) text (refused_line error) status Refused is was
    (refused error (why d reads) known (λ same. absurd (other same)))

-- the same of what is answered about a description that is not loaded
pub unloaded_answers : (command : FileCommand) (read : Option (Vec ℕ Global)) (told : List ℕ) (error : LoadError) (text : List ℕ) (status : Status) → ((d : List ℕ) → IsReadOf longest_text read d → IsRefused d error) → AnswersUnloaded error text status → AnswersWhole command read told text status
unloaded_answers command read told error text status why says = refusal_answers command read told error text status why says.0 says.1 says.2

pub unloaded_answers_long : (read : Option (Vec ℕ Global)) (error : LoadError) (text : List ℕ) (status : Status) → ((d : List ℕ) → IsReadOf longest_text read d → IsRefused d error) → AnswersUnloaded error text status → AnswersLongRecord read text status
unloaded_answers_long read error text status why says = refusal_answers_long read error text status why says.0 says.1 says.2

-- too long a record or a script is the answer
pub long_record_answers : (read : Option (Vec ℕ Global)) (game : AbstractGame) (text : List ℕ) (status : Status) → ((d : List ℕ) → IsReadOf longest_text read d → Loads d game) → text ≡ form_line 0 → status ≡ BadInput → AnswersLongRecord read text status
long_record_answers read game text status loads is was =
    λ command other d told reads above. answer_is (task_of command d told) text (form_line 0) status BadInput is was
    (long_record game (loads d reads) other above)

pub long_script_answers : (read : Option (Vec ℕ Global)) (text : List ℕ) (status : Status) → text ≡ script_line 0 → status ≡ BadInput → AnswersLong Referee read text status
long_script_answers read text status is was =
    λ d told reads above. answer_is (task_of Referee d told) text (script_line 0) status BadInput is was (long_script refl above)

-- the lines of a match are the answer
pub match_answers : (description script lines : List ℕ) → IsScriptsMatch description script lines → AnswersMatch description script lines Success
match_answers description script lines is =
    λ fits. of_game is.played.refereed.game lines Success is.played.refereed.loads fits (played lines is)

-- and so is what keeps it from being refereed
pub fault_answers : (description script : List ℕ) (error : RefereeingError) (text : List ℕ) (status : Status) → IsNoMatch description script error → AnswersFault error text status → AnswersMatch description script text status
fault_answers description script (Load error) text status why says =
    λ fits. answer_is (task_of Referee description script) text (refused_line error) status Refused says.0 says.1
    (refused error why.0 why.1 (λ same above. let no : ⊥ = omega (arith, fits, above) in no))
fault_answers description script (Script line) text status why says =
    λ fits. answer_is (task_of Referee description script) text (script_line line) status BadInput says.0 says.1
    (of_game why.0 (script_line line) BadInput why.1 fits (misfit line why.2))
fault_answers description script Memory text status why says = absurd says

-- the answer to a match is one to what was read of its description
pub read_match_answers : (bytes : Vec ℕ Global) (told text : List ℕ) (status : Status) → AnswersMatch bytes.items told text status → AnswersWhole Referee (Some bytes) told text status
read_match_answers bytes told text status answers =
    λ d reads fits. subst (λ description. IsTaskAnswer (task_of Referee description told) text status) reads.1 (answers fits)

-- the answer to the parts of a task is that to the task
pub whole_answer : (task : AbstractTask) (command : FileCommand) (told text : List ℕ) (status : Status) → task.command ≡ command → told ≡ task.told → IsTaskAnswer (task_of command task.description told) text status → IsTaskAnswer task text status
whole_answer task command told text status same is answer =
    subst (λ c. IsTaskAnswer (task_of c task.description task.told) text status) (sym same)
    (subst (λ t. IsTaskAnswer (task_of command task.description t) text status) is answer)

-- what is read whole is answered as a whole
pub whole_texts : (command : FileCommand) (read : Option (Vec ℕ Global)) (told : Vec ℕ Global) (text : List ℕ) (status : Status) → AnswersWhole command read told.items text status → AnswersTexts command read (Some told) text status
whole_texts command read told text status answers = λ d t reads is.
    subst (λ bytes. IsTaskAnswer (task_of command d bytes) text status) is.1
    (answers d reads (subst (λ bytes. length bytes ≤ most_input) (sym is.1) is.0))
