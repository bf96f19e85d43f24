-- What the program takes words to ask for.
use Rattle.std.specs.Prelude.{◌≡◌, Option, Some, None, option_map, Result, Ok, Err}
use Rattle.rbg_console.specs.declared.command_line.WordsError.{WordsError}
use Rattle.rbg_operations.specs.Tasks.{on_file, on_record, recorded_task}
use Rattle.rbg_operations.specs.Tasks.FileCommand.{Check as to_check, Referee as to_referee, Replay as to_replay, Migrate as to_migrate, Moves as to_move_on}
use Rattle.rbg_cli.specs.declared.command.Command.{Command}
use Rattle.rbg_cli.specs.declared.command.Command.TheVariants.{Check, Moves, MovesAfter, Ask, RefereeInput, Referee, Recorded, Cut, Replay, Migrate, Script, Demo, Serve, Play, Hall, HallScript}
use Rattle.rbg_cli.specs.Words.{Wish, match_of_input, on_files, recorded_match, cut_match, moves_of, script_of}

-- the wish that a command grants; none where words of its kind are judged by the command line
abbrev pub wish_of : Command → Option Wish
wish_of (Check file) = Some (on_files (on_file to_check file.now))
wish_of (Moves file) = Some (moves_of file.now)
wish_of (MovesAfter file other) = Some (on_files (on_record to_move_on file.now other.now))
wish_of (Ask file) = None
wish_of RefereeInput = Some match_of_input
wish_of (Referee file) = Some (on_files (on_file to_referee file.now))
wish_of (Recorded file target) = Some (recorded_match (recorded_task (option_map (λ name. name.now) file) target.now))
wish_of (Cut file) = Some (cut_match (option_map (λ name. name.now) file))
wish_of (Replay file other) = Some (on_files (on_record to_replay file.now other.now))
wish_of (Migrate file other) = Some (on_files (on_record to_migrate file.now other.now))
wish_of (Script file) = Some (script_of file.now)
wish_of (Demo file service) = None
wish_of (Serve served) = None
wish_of (Play seat) = None
wish_of (Hall served) = None
wish_of (HallScript names) = None

-- the same, where a command is found
abbrev pub wish_asked : Option Command → Option Wish
wish_asked (Some command) = wish_of command
wish_asked None = None

-- the words were read as a command that grants the wish
abbrev pub IsReadAs : Wish → Result Command WordsError → Type 0
IsReadAs wish (Ok command) = wish_of command ≡ Some wish
IsReadAs wish (Err error) = ⊥
