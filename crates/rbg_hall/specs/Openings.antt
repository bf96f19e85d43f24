-- How a hall begins.
use Rattle.std.specs.Prelude.{◌≡◌, ◌<◌, ◌+◌, ◌≤◌, false, ℕ, List, [], All, length, map, replicate, slice_get, Some}
use Rattle.rbg_game.specs.Loading.{Loads}
use Rattle.rbg_match.specs.Config.{IsWithinLimits}
use Rattle.rbg_hall.specs.TableLimits.{lines_in_all}
use Rattle.rbg_hall.specs.declared.table.Table.{Table}
use Rattle.rbg_hall.specs.declared.error.HallError.{HallError}
use Rattle.rbg_hall.specs.declared.error.HallError.TheVariants.{Tables, Config, Memory}
use Rattle.rbg_hall.specs.Failing.{HeldHall}
use Rattle.rbg_hall.specs.Halls.{AbstractTable, new_hall}
use Rattle.rbg_hall.specs.Limits.{most_tables}

-- what a table of the code begins with
abbrev pub start_of : Table → AbstractTable
start_of table = record { game = table.game; text = table.text.items; config = table.config }

abbrev pub starts_of : List Table → List AbstractTable
starts_of tables = map start_of tables

-- each text is that of its game
abbrev pub AreLoaded : List Table → Type 0
AreLoaded tables = All (λ (table : Table). Loads table.text.items table.game) tables

-- There is a table, and there aren't too many.
abbrev pub MayBeTables : List AbstractTable → Type 0
MayBeTables starts = (1 ≤ length starts) × (length starts ≤ most_tables)

-- the config of each table is within its limits
abbrev pub AreWithinLimits : List AbstractTable → Type 0
AreWithinLimits starts = All (λ (start : AbstractTable). IsWithinLimits start.config) starts

-- A hall with these tables begins: nobody sits, no line was heard, and nothing is queued.
pub record IsNewHall {W : Type 0} (starts : List AbstractTable) (hall : HeldHall W) (queues : List (List ℕ)) : Type 0 where
  pub lawful : MayBeTables starts
  pub configs : AreWithinLimits starts
  pub is : hall.state ≡ new_hall starts
  pub works : hall.failed ≡ false
  pub queued : queues ≡ replicate lines_in_all []

-- Why a hall with these tables isn't made.
--   tables: there is none, or there are too many.
--   config: there is a right number of tables, and this one is the first whose config is outside its limits.
--   memory: there was no memory.
pub data IsRefusedHall (starts : List AbstractTable) : HallError → Type 0 where
  tables : (¬ MayBeTables starts) → IsRefusedHall starts Tables
  config : (index : ℕ) (start : AbstractTable) →
      MayBeTables starts →
      slice_get starts index ≡ Some start →
      (¬ IsWithinLimits start.config) →
      ((other : ℕ) (earlier : AbstractTable) → other < index → slice_get starts other ≡ Some earlier → IsWithinLimits earlier.config) →
      IsRefusedHall starts (Config (index + 1))
  memory : IsRefusedHall starts Memory
