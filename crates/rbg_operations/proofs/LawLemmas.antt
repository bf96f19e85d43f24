-- Answers to one task are apart, and the only answer about a right record is that it is good.
use Rattle.std.proofs.Common.{◌≡◌, ◌∙◌, ℕ, ◌≤◌, List, length, inl, inr, ap, refl, sym, subst, arith, ◌⊎◌, Result, Ok, Err}
use Rattle.rbg_console.specs.Inputs.{most_input}
use Rattle.rbg_console.specs.declared.status.Status.{Status}
use Rattle.rbg_console.specs.declared.status.Status.TheVariants.{Success, Refused, BadInput}
use Rattle.rbg_game.specs.OneGame.{OneGameLaw}
use Rattle.rbg_record.proofs.Common.{IsHeavyLine, IsJudged, GoodByLines, IsUndecided, OneJudgement, OnePlainFault}
use Rattle.rbg_record.specs.declared.checked.Checked.{Checked}
use Rattle.rbg_record.specs.declared.checked.Checked.TheVariants.{Good, Bad}
use Rattle.rbg_record.specs.declared.error.RecordError.{RecordError}
use Rattle.rbg_record.specs.declared.error.RecordError.TheVariants.{Form, Over, Memory}
use Rattle.rbg_referee.specs.Answers.{script_line}
use Rattle.rbg_rules.specs.Meaning.{IsNumbered, AbstractGame}
use Rattle.rbg_script.specs.Laws.{ScriptsAreApart}
use Rattle.rbg_operations.specs.Tasks.{FileCommand}
use Rattle.rbg_operations.specs.Tasks.FileCommand.{Check, Referee, Replay, Migrate, Moves}
use Rattle.rbg_operations.specs.Answers.{IsGamesAnswer, NamesFault, IsLong, good_line, bad_line, form_line, over_line}
use Rattle.rbg_operations.specs.Answers.IsGamesAnswer.{counted, played, misfit, good, wrong, migrated, not_plain, goes_on, no_moves}
use Rattle.rbg_operations.specs.Answers.NamesFault.{bad, not_of_form, over}
use Rattle.rbg_operations.specs.Answers.IsTaskAnswer.{of_game, refused, long_script, long_record}
use Rattle.rbg_operations.specs.Laws.{RightRecordsAreGood, TaskAnswersAreApart}
use Rattle.rbg_operations.specs.Tasks.{AbstractTask}

-- the text of the verdict on a record
abbrev text_of : Result Checked RecordError → List ℕ
text_of (Ok Good) = good_line
text_of (Ok (Bad line)) = bad_line line
text_of (Err (Form line)) = form_line line
text_of (Err (Over line)) = over_line line
text_of (Err Memory) = good_line

abbrev status_of : Result Checked RecordError → Status
status_of (Ok Good) = Success
status_of (Ok (Bad line)) = BadInput
status_of (Err error) = BadInput

-- the answer is true of the record, and no question is above the limits
record Tells (game : AbstractGame) (told text : List ℕ) (status : Status) : Type 0 where
  pub result : Result Checked RecordError
  pub judged : IsJudged game told result
  pub decided : ¬ IsUndecided result
  pub says : text ≡ text_of result
  pub ends : status ≡ status_of result

-- the answer names a question above the limits
abbrev AnswersHeavy : (game : AbstractGame) → (told text : List ℕ) → Type 0
AnswersHeavy game told text = (line : ℕ) × IsHeavyLine game told line × (text ≡ over_line line)

tells_fault : (game : AbstractGame) (told text : List ℕ) → NamesFault game told text → Tells game told text BadInput ⊎ AnswersHeavy game told text
tells_fault game told _ (bad line is) =
    inl (record { result = Ok (Bad line); judged = is; decided = λ no. no; says = refl; ends = refl })
tells_fault game told _ (not_of_form line is) =
    inl (record { result = Err (Form line); judged = is; decided = λ no. no; says = refl; ends = refl })
tells_fault game told _ (over line is) = inr (line, is, refl)

tells : GoodByLines → (game : AbstractGame) (description told text : List ℕ) (status : Status) → IsGamesAnswer game description told Replay text status → Tells game told text status ⊎ AnswersHeavy game told text
tells lines game description told _ _ (good right) =
    inl (record { result = Ok Good; judged = (lines game told).1 right; decided = λ no. no; says = refl; ends = refl })
tells lines game description told _ _ (wrong text fault) = tells_fault game told text fault

-- answers of one status, and one line if a script or a record is at fault
abbrev AreOne : (text other : List ℕ) → (status ended : Status) → Type 0
AreOne text other status ended = (status ≡ ended) × (status ≡ BadInput → text ≡ other)

abbrev NamesOver : (text other : List ℕ) → Type 0
NamesOver text other = (line : ℕ) × ((text ≡ over_line line) ⊎ (other ≡ over_line line))

good_is_not_bad : Success ≡ BadInput → ⊥
good_is_not_bad same = absurd (let e : Success ≡ BadInput = same in cc)

refused_is_not_bad : Refused ≡ BadInput → ⊥
refused_is_not_bad same = absurd (let e : Refused ≡ BadInput = same in cc)

tell_one : OneJudgement → (game : AbstractGame) → IsNumbered game.rules → (told text other : List ℕ) (status ended : Status) → Tells game told text status → Tells game told other ended → AreOne text other status ended
tell_one judge game numbered told text other status ended a b =
    let same : a.result ≡ b.result = judge game numbered told a.result b.result a.judged b.judged a.decided b.decided in
    (a.ends ∙ (ap status_of same ∙ sym b.ends), λ _. a.says ∙ (ap text_of same ∙ sym b.says))

replays_apart : OneJudgement → (game : AbstractGame) → IsNumbered game.rules → (told text other : List ℕ) (status ended : Status) → Tells game told text status ⊎ AnswersHeavy game told text → Tells game told other ended ⊎ AnswersHeavy game told other → AreOne text other status ended ⊎ NamesOver text other
replays_apart judge game numbered told text other status ended (inl a) (inl b) = inl (tell_one judge game numbered told text other status ended a b)
replays_apart judge game numbered told text other status ended (inr heavy) b = inr (heavy.0, inl heavy.2)
replays_apart judge game numbered told text other status ended (inl a) (inr heavy) = inr (heavy.0, inr heavy.2)

-- the laws of the crates below
pub record Known : Type 0 where
  pub judge : OneJudgement
  pub lines : GoodByLines
  pub plain : OnePlainFault
  pub scripts : ScriptsAreApart

counts_apart : (game : AbstractGame) (description told text other : List ℕ) (status ended : Status) → IsGamesAnswer game description told Check text status → IsGamesAnswer game description told Check other ended → AreOne text other status ended
counts_apart game description told _ _ _ _ counted counted = (refl, λ _. refl)

matches_apart : ScriptsAreApart → (game : AbstractGame) (description told text other : List ℕ) (status ended : Status) → IsGamesAnswer game description told Referee text status → IsGamesAnswer game description told Referee other ended → AreOne text other status ended
matches_apart scripts game description told _ _ _ _ (played lines is) (played others was) = (refl, λ bad. absurd (good_is_not_bad bad))
matches_apart scripts game description told _ _ _ _ (played lines is) (misfit line has) = absurd (scripts.either told line is.script has is.spells)
matches_apart scripts game description told _ _ _ _ (misfit line has) (played lines is) = absurd (scripts.either told line is.script has is.spells)
matches_apart scripts game description told _ _ _ _ (misfit m has) (misfit n had) = (refl, λ _. ap script_line (scripts.misfits told m n has had))

records_apart : OnePlainFault → (game : AbstractGame) (description told text other : List ℕ) (status ended : Status) → IsGamesAnswer game description told Migrate text status → IsGamesAnswer game description told Migrate other ended → AreOne text other status ended
records_apart plain game description told _ _ _ _ (migrated new is) (migrated newer was) = (refl, λ bad. absurd (good_is_not_bad bad))
records_apart plain game description told _ _ _ _ (migrated new is) (not_plain line has) = absurd (plain.none told is.told line is.before has)
records_apart plain game description told _ _ _ _ (not_plain line has) (migrated new is) = absurd (plain.none told is.told line is.before has)
records_apart plain game description told _ _ _ _ (not_plain m has) (not_plain n had) = (refl, λ _. ap form_line (plain.one told m n has had))

-- a record that is right has no other fault than a question above the limits
right_or_over : OneJudgement → (game : AbstractGame) → IsNumbered game.rules → (told text : List ℕ) → IsJudged game told (Ok Good) → NamesFault game told text → (line : ℕ) × (text ≡ over_line line)
right_or_over judge game numbered told _ right (bad line is) =
    absurd (let same : Ok Good ≡ Ok (Bad line) = judge game numbered told (Ok Good) (Ok (Bad line)) right is (λ no. no) (λ no. no) in cc)
right_or_over judge game numbered told _ right (not_of_form line is) =
    absurd (let same : Ok Good ≡ Err (Form line) = judge game numbered told (Ok Good) (Err (Form line)) right is (λ no. no) (λ no. no) in cc)
right_or_over judge game numbered told _ right (over line is) = (line, refl)

moves_apart : Known → (game : AbstractGame) → IsNumbered game.rules → (description told text other : List ℕ) (status ended : Status) → IsGamesAnswer game description told Moves text status → IsGamesAnswer game description told Moves other ended → AreOne text other status ended ⊎ NamesOver text other
moves_apart known game numbered description told _ _ _ _ (goes_on text is) (goes_on other was) = inl (refl, λ bad. absurd (good_is_not_bad bad))
moves_apart known game numbered description told _ _ _ _ (goes_on text is) (no_moves other fault) =
    let names = right_or_over known.judge game numbered told other ((known.lines game told).1 is.after.right) fault in
    inr (names.0, inr names.1)
moves_apart known game numbered description told _ _ _ _ (no_moves text fault) (goes_on other is) =
    let names = right_or_over known.judge game numbered told text ((known.lines game told).1 is.after.right) fault in
    inr (names.0, inl names.1)
moves_apart known game numbered description told _ _ _ _ (no_moves text fault) (no_moves other fault') =
    replays_apart known.judge game numbered told text other BadInput BadInput (tells_fault game told text fault) (tells_fault game told other fault')

games_apart : Known → (game : AbstractGame) → IsNumbered game.rules → (description told : List ℕ) (command : FileCommand) (text other : List ℕ) (status ended : Status) → IsGamesAnswer game description told command text status → IsGamesAnswer game description told command other ended → AreOne text other status ended ⊎ NamesOver text other
games_apart known game numbered description told Check text other status ended a b = inl (counts_apart game description told text other status ended a b)
games_apart known game numbered description told Referee text other status ended a b = inl (matches_apart known.scripts game description told text other status ended a b)
games_apart known game numbered description told Replay text other status ended a b =
    replays_apart known.judge game numbered told text other status ended
    (tells known.lines game description told text status a) (tells known.lines game description told other ended b)
games_apart known game numbered description told Migrate text other status ended a b = inl (records_apart known.plain game description told text other status ended a b)
games_apart known game numbered description told Moves text other status ended a b = moves_apart known game numbered description told text other status ended a b

fits_or_long : (task : AbstractTask) → length task.told ≤ most_input → IsLong task → ⊥
fits_or_long task fits above = absurd (let no : ⊥ = omega (arith, fits, above) in no)

pub answers_apart : OneGameLaw → Known → TaskAnswersAreApart
answers_apart one known task _ _ _ _ (of_game game text status loads fits a) (of_game other also ended loaded fitted b) =
    let same : other ≡ game = one task.description other game loaded loads in
    games_apart known game loads.game_of.lawful.numbered task.description task.told task.command text also status ended a
    (subst (λ g. IsGamesAnswer g task.description task.told task.command also ended) same b)
answers_apart one known task _ _ _ _ (of_game game text status loads fits a) (refused error why memory early) = absurd (why.no_game memory game loads)
answers_apart one known task _ _ _ _ (of_game game text status loads fits a) (long_script is above) = absurd (fits_or_long task fits above)
answers_apart one known task _ _ _ _ (of_game game text status loads fits a) (long_record other loaded is above) = absurd (fits_or_long task fits above)
answers_apart one known task _ _ _ _ (refused error why memory early) (of_game game text status loads fits a) = absurd (why.no_game memory game loads)
answers_apart one known task _ _ _ _ (refused error why memory early) (refused fault also known_too late) = inl (refl, λ bad. absurd (refused_is_not_bad bad))
answers_apart one known task _ _ _ _ (refused error why memory early) (long_script is above) = absurd (early is above)
answers_apart one known task _ _ _ _ (refused error why memory early) (long_record game loads is above) = absurd (why.no_game memory game loads)
answers_apart one known task _ _ _ _ (long_script is above) (of_game game text status loads fits a) = absurd (fits_or_long task fits above)
answers_apart one known task _ _ _ _ (long_script is above) (refused error why memory early) = absurd (early is above)
answers_apart one known task _ _ _ _ (long_script is above) (long_script also too) = inl (refl, λ _. refl)
answers_apart one known task _ _ _ _ (long_script is above) (long_record game loads other too) = absurd (other is)
answers_apart one known task _ _ _ _ (long_record game loads is above) (of_game other text status loaded fits a) = absurd (fits_or_long task fits above)
answers_apart one known task _ _ _ _ (long_record game loads is above) (refused error why memory early) = absurd (why.no_game memory game loads)
answers_apart one known task _ _ _ _ (long_record game loads other above) (long_script is too) = absurd (other is)
answers_apart one known task _ _ _ _ (long_record game loads is above) (long_record also loaded was too) = inl (refl, λ _. refl)

-- a right record is reported as good
says_good : OneJudgement → (game : AbstractGame) → IsNumbered game.rules → (told text : List ℕ) (status : Status) → IsJudged game told (Ok Good) → Tells game told text status ⊎ AnswersHeavy game told text → ((text ≡ good_line) × (status ≡ Success)) ⊎ AnswersHeavy game told text
says_good judge game numbered told text status right (inl a) =
    let same : a.result ≡ Ok Good = judge game numbered told a.result (Ok Good) a.judged right a.decided (λ no. no) in
    inl (a.says ∙ ap text_of same, a.ends ∙ ap status_of same)
says_good judge game numbered told text status right (inr heavy) = inr heavy

other_command : Replay ≡ Referee → ⊥
other_command same = absurd (let e : Replay ≡ Referee = same in cc)

pub right_is_good : OneGameLaw → GoodByLines → OneJudgement → RightRecordsAreGood
right_is_good one lines judge game description told _ _ loads right fits (of_game other text status loaded within answer) =
    let same : other ≡ game = one description other game loaded loads in
    says_good judge game loads.game_of.lawful.numbered told text status ((lines game told).1 right)
    (tells lines game description told text status (subst (λ g. IsGamesAnswer g description told Replay text status) same answer))
right_is_good one lines judge game description told _ _ loads right fits (refused error why known early) = absurd (why.no_game known game loads)
right_is_good one lines judge game description told _ _ loads right fits (long_script is above) = absurd (other_command is)
right_is_good one lines judge game description told _ _ loads right fits (long_record other loaded is above) =
    absurd (let no : ⊥ = omega (arith, fits, above) in no)
