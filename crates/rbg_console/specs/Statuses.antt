-- The number of each status.
use Rattle.std.specs.Prelude.{ℕ}
use Rattle.rbg_console.specs.declared.status.Status.{Status}
use Rattle.rbg_console.specs.declared.status.Status.TheVariants.{Success, Refused, BadInput, Device, Memory, CommandLine}

-- As docs/COMMANDS.md has them.
unfoldable pub status_code : Status → ℕ
status_code Success = 0
status_code Refused = 1
status_code BadInput = 2
status_code Device = 3
status_code Memory = 4
status_code CommandLine = 64
