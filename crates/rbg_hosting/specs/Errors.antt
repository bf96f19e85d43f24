-- Which error an error of a lower crate becomes.
use Rattle.std.specs.Prelude.{◌≡◌}
use Rattle.rbg_hall.specs.declared.error.HallError.{HallError}
use Rattle.rbg_hall.specs.declared.error.HallError.TheVariants.{Tables as WrongTables, Config, Memory as NoMoreMemory}
use Rattle.rbg_referee.specs.declared.input_error.RefereeingError.{RefereeingError}
use Rattle.rbg_referee.specs.declared.input_error.RefereeingError.TheVariants.{Script, Memory}
use Rattle.rbg_hosting.specs.declared.error.HostingError.{HostingError}
use Rattle.rbg_hosting.specs.declared.error.HostingError.TheVariants.{Tables, Input}

-- the error of descriptions and a script
abbrev pub IsOfInput : RefereeingError → HostingError → Type 0
IsOfInput input error = error ≡ Input input

-- the error of a hall that isn't made, or doesn't go on
abbrev pub IsOfHall : HallError → HostingError → Type 0
IsOfHall WrongTables error = error ≡ Tables
IsOfHall (Config _) error = error ≡ Input (Script 1)
IsOfHall NoMoreMemory error = error ≡ Input Memory
