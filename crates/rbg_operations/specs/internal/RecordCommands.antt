-- The commands on a record among those on files.
use Rattle.rbg_operations.specs.Tasks.{FileCommand}
use Rattle.rbg_operations.specs.Tasks.FileCommand.{Replay, Migrate, Moves}
use Rattle.rbg_operations.specs.declared.on_record.RecordCommand.{RecordCommand}
use Rattle.rbg_operations.specs.declared.on_record.RecordCommand.TheVariants as commands

abbrev pub command_of : RecordCommand → FileCommand
command_of commands.Replay = Replay
command_of commands.Migrate = Migrate
command_of commands.Moves = Moves
