-- Each command has its own answer.
use Rattle.std.proofs.Common.{ℕ, List, IfOk, Result, sym, subst}
use Rattle.rbg_rules.specs.Meaning.{AbstractGame}
use Rattle.rbg_referee.specs.declared.answer.Answer.{Answer}
use Rattle.rbg_operations.specs.Answers.{IsGamesAnswer}
use Rattle.rbg_operations.specs.declared.on_record.RecordCommand.{RecordCommand}
use Rattle.rbg_operations.specs.internal.RecordCommands.{command_of}
use Rattle.rbg_operations.proofs.on_record.answer_opened.Goals as goal

abbrev answered_by : {E : Type 0} (game : AbstractGame) (told : List ℕ) (command : RecordCommand) (result : Result Answer E) → Type 0
answered_by game told command result = IfOk result (λ answer. (description : List ℕ) → IsGamesAnswer game description told (command_of command) answer.text.items answer.status)

pub returns-in-Replay : goal.returns-in-Replay
returns-in-Replay c = subst (λ command. answered_by c.args.game c.args.told.now command c.judge.result) (sym c.in-Replay.is) c.judge.ensures

pub returns-in-Migrate : goal.returns-in-Migrate
returns-in-Migrate c = subst (λ command. answered_by c.args.game c.args.told.now command c.rewrite.result) (sym c.in-Migrate.is) c.rewrite.ensures

pub returns-in-Moves : goal.returns-in-Moves
returns-in-Moves c = subst (λ command. answered_by c.args.game c.args.told.now command c.list_after.result) (sym c.in-Moves.is) c.list_after.ensures
