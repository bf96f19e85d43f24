-- Which error an error of a lower crate becomes.
use Rattle.std.specs.Prelude.{◌≡◌}
use Rattle.rbg_game.specs.Loading.{IsMemory}
use Rattle.rbg_game.specs.declared.error.LoadError.{LoadError}
use Rattle.rbg_referee.specs.declared.error.RefereeError.{RefereeError}
use Rattle.rbg_referee.specs.declared.error.RefereeError.TheVariants.{Load as NotLoaded, Config, Memory as NoMoreMemory}
use Rattle.rbg_script.specs.declared.error.ScriptError.{ScriptError}
use Rattle.rbg_script.specs.declared.error.ScriptError.TheVariants.{Line, Memory as NoMemory}
use Rattle.rbg_referee.specs.declared.input_error.RefereeingError.{RefereeingError}
use Rattle.rbg_referee.specs.declared.input_error.RefereeingError.TheVariants.{Load, Script, Memory}

-- the error of a description that is not loaded
abbrev pub IsOfLoad : LoadError → RefereeingError → Type 0
IsOfLoad load (Load error) = (error ≡ load) × ¬ IsMemory load
IsOfLoad load (Script _) = ⊥
IsOfLoad load Memory = IsMemory load

-- the error of a match that is not refereed to its end
abbrev pub IsOfReferee : RefereeError → RefereeingError → Type 0
IsOfReferee (NotLoaded load) error = IsOfLoad load error
IsOfReferee Config error = error ≡ Script 1
IsOfReferee (NoMoreMemory _ _) error = error ≡ Memory

-- the error of a text that is no script
abbrev pub IsOfScript : ScriptError → RefereeingError → Type 0
IsOfScript (Line number) error = error ≡ Script number
IsOfScript NoMemory error = error ≡ Memory
