-- What is printed of a hall that hears a script, and why nothing is.
use Rattle.std.specs.Prelude.{◌≤◌, ℕ, List, All, length}
use Rattle.rbg_hall.specs.Halls.{AbstractTable}
use Rattle.rbg_hall.specs.Limits.{most_tables}
use Rattle.rbg_hall.specs.Wholes.{IsOfHall}
use Rattle.rbg_referee.specs.Scripts.{config_for}
use Rattle.rbg_referee.specs.declared.input_error.RefereeingError.{RefereeingError}
use Rattle.rbg_referee.specs.declared.input_error.RefereeingError.TheVariants.{Load, Script, Memory}
use Rattle.rbg_script.specs.Scripts.{AbstractScript, SpellsScript, HasMisfit}
use Rattle.rbg_hosting.specs.declared.error.HostingError.{HostingError}
use Rattle.rbg_hosting.specs.declared.error.HostingError.TheVariants.{Tables, Input}
use Rattle.rbg_hosting.specs.Printed.{IsPrintedHall}
use Rattle.rbg_hosting.specs.Tables.{AreTablesOf, IsGames, HasRefused}

-- there is a description, and a hall has a table for each
abbrev pub MayBeDescriptions : List (List ℕ) → Type 0
MayBeDescriptions descriptions = (1 ≤ length descriptions) × (length descriptions ≤ most_tables)

-- The lines have these bytes in a hall with a table for each description, which hears the events of the script. The number
-- in an event is that of a seat in the script of a match; here it is that of a line, from 0.
pub record IsHeardHall (descriptions : List (List ℕ)) (script : AbstractScript) (queues : List (List ℕ)) : Type 0 where
  pub tables : List AbstractTable
  pub are : AreTablesOf (config_for script.config) descriptions tables
  pub heard : IsOfHall tables script.events queues

-- the printed lines of such a hall
pub record IsPrintedScript (descriptions : List (List ℕ)) (script : AbstractScript) (printed : List ℕ) : Type 0 where
  pub queues : List (List ℕ)
  pub heard : IsHeardHall descriptions script queues
  pub is : IsPrintedHall queues printed

-- The text is that of a script, and these are the printed lines of the hall that hears it.
pub record IsScriptsHall (descriptions : List (List ℕ)) (text printed : List ℕ) : Type 0 where
  pub script : AbstractScript
  pub spells : SpellsScript text script
  pub played : IsPrintedScript descriptions script printed

-- Why a hall doesn't hear the script.
--   Load: the first description that is no game's has the fault that is named.
--   Script: each description is a game's, and the text is no script; its first line that is not of its form is named.
--   Memory: memory ran out.
abbrev pub IsNotHeard : (descriptions : List (List ℕ)) → (text : List ℕ) → RefereeingError → Type 0
IsNotHeard descriptions text (Load error) = HasRefused descriptions error
IsNotHeard descriptions text (Script number) = All IsGames descriptions × HasMisfit text number
IsNotHeard descriptions text Memory = Unit {0}

-- Why a hall has no printed lines.
--   Tables: there is no description, or there are too many.
--   Input: the hall doesn't hear the script.
abbrev pub IsNoHall : (descriptions : List (List ℕ)) → (text : List ℕ) → HostingError → Type 0
IsNoHall descriptions text Tables = ¬ MayBeDescriptions descriptions
IsNoHall descriptions text (Input error) = IsNotHeard descriptions text error
