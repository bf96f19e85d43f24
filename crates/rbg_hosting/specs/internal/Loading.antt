-- Why a table is not made, or not all are.
use Rattle.std.specs.Prelude.{ℕ, List}
use Rattle.rbg_game.specs.Loading.{IsRefused, IsMemory}
use Rattle.rbg_referee.specs.declared.input_error.RefereeingError.{RefereeingError}
use Rattle.rbg_referee.specs.declared.input_error.RefereeingError.TheVariants.{Load, Script, Memory}
use Rattle.rbg_hosting.specs.Tables.{HasRefused}

-- the description is refused, or there was no memory
abbrev pub IsNotTable : (description : List ℕ) → RefereeingError → Type 0
IsNotTable description (Load error) = IsRefused description error × ¬ IsMemory error
IsNotTable description (Script _) = ⊥
IsNotTable description Memory = Unit {0}

-- one of the descriptions is refused, or there was no memory
abbrev pub IsNotLoaded : (descriptions : List (List ℕ)) → RefereeingError → Type 0
IsNotLoaded descriptions (Load error) = HasRefused descriptions error
IsNotLoaded descriptions (Script _) = ⊥
IsNotLoaded descriptions Memory = Unit {0}
