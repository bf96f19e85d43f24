-- How a hall is served over connections, with an archive for the records of its matches.
use Rattle.std.specs.Prelude.{◌≡◌, ◌⊎◌, ℕ, Bool, true, false, List, [], ◌++◌, All, Option, Result, Ok, Err, length}
use Rattle.rbg_console.specs.declared.status.Status.{Status}
use Rattle.rbg_console.specs.declared.status.Status.TheVariants.{Success, Device}
use Rattle.rbg_script.specs.Events.{AbstractEvent}
use Rattle.rbg_hall.specs.Halls.{AbstractTable, HallState}
use Rattle.rbg_hall.specs.Serving.{HaveAllEnded}
use Rattle.rbg_match.specs.declared.config.Config.{Config}
use Rattle.rbg_network.specs.Archives.{Handed, is_any_lost}
use Rattle.rbg_referee.specs.declared.answer.Answer.{Answer}
use Rattle.rbg_script.specs.Scripts.{AbstractScript}
use Rattle.rbg_hosting.specs.Archives.{IsArchivedRun, wanted_of}
use Rattle.rbg_hosting.specs.Moments.{GoesOnAfter, HearsPast}
use Rattle.rbg_hosting.specs.Pasts.{AreLogs, HasConfig, config_from, past_in}
use Rattle.rbg_hosting.specs.Records.{ArePrintedMatches}
use Rattle.rbg_hosting.specs.Tables.{AreTablesOf}
use Rattle.rbg_hosting.specs.declared.fault.ServingFault.{ServingFault}
use Rattle.rbg_hosting.specs.declared.fault.ServingFault.TheVariants.{Device as DeviceFailed, Rounds}

-- A hall that has a table for each description heard these events and stands so, and this was handed to its archive: each
-- record at the first event after which its match had ended.
pub record IsArchivedHall (config : Config) (descriptions : List (List ℕ)) (wants : Bool) (tables : List AbstractTable)
    (events : List AbstractEvent) (state : HallState) (handed : List Handed) : Type 0 where
  pub are : AreTablesOf config descriptions tables
  pub queues : List (List ℕ)
  pub run : IsArchivedRun tables (wanted_of wants (length tables)) events state queues handed

-- the status of a hall whose matches have ended, by whether a record is lost
abbrev pub status_for : (lost : Bool) → Status
status_for true = Device
status_for false = Success

-- What comes of a hall that is served by a clock, and what was handed to its archive. It goes on from logs that hold these
-- scripts, and hears first what they hold; a new hall has none.
--   ended: every match has begun and ended. The records are printed, and the status says whether each one that is wanted
--     is kept.
--   stopped: the hall is served no more. If a record is lost, the fault is one with the status of a device.
--   not_begun: there is no hall, or nobody plays in it.
pub data IsOutcome {C : Type 0} (clock : C → List ℕ → Type 0) (config : Config) (descriptions : List (List ℕ))
    (pasts : List (Option AbstractScript)) (wants : Bool) (handed : List Handed) : Result Answer ServingFault → Type 0 where
  ended : (tables : List AbstractTable) (later : List AbstractEvent) (state : HallState) (answer : Answer)
      → IsArchivedHall config descriptions wants tables (past_in tables pasts ++ later) state handed
      → GoesOnAfter clock tables (past_in tables pasts) later
      → HaveAllEnded state.tables
      → ArePrintedMatches tables state.tables answer.text.items
      → answer.status ≡ status_for (is_any_lost handed)
      → IsOutcome clock config descriptions pasts wants handed (Ok answer)
  stopped : (tables : List AbstractTable) (events : List AbstractEvent) (state : HallState) (fault : ServingFault)
      → IsArchivedHall config descriptions wants tables events state handed
      → HearsPast clock tables (past_in tables pasts) events
      → (is_any_lost handed ≡ true → (fault ≡ DeviceFailed) ⊎ (fault ≡ Rounds))
      → IsOutcome clock config descriptions pasts wants handed (Err fault)
  not_begun : (fault : ServingFault)
      → handed ≡ []
      → IsOutcome clock config descriptions pasts wants handed (Err fault)

-- An archive that was handed nothing before has this account now, where a hall was served by a clock with this result.
pub record HasOutcome {A C : Type 0} (told : A → List Handed → Type 0) (clock : C → List ℕ → Type 0) (config : Config)
    (descriptions : List (List ℕ)) (pasts : List (Option AbstractScript)) (wants : Bool) (archive : A)
    (result : Result Answer ServingFault) : Type 0 where
  pub handed : List Handed
  pub account : told archive handed
  pub outcome : IsOutcome clock config descriptions pasts wants handed result

-- What comes of a hall that goes on from its logs, of which these bytes are known.
--   not_begun: it doesn't go on.
--   goes_on: the logs hold these scripts, all of which have one config. The hall heard first what they hold.
pub data IsResumed {A C : Type 0} (told : A → List Handed → Type 0) (clock : C → List ℕ → Type 0)
    (known : (number : ℕ) → Option (List ℕ)) (usual : Config) (descriptions : List (List ℕ)) (wants : Bool) (archive : A) :
    Result Answer ServingFault → Type 0 where
  not_begun : (fault : ServingFault)
      → told archive []
      → IsResumed told clock known usual descriptions wants archive (Err fault)
  goes_on : (pasts : List (Option AbstractScript)) (result : Result Answer ServingFault)
      → length pasts ≡ length descriptions
      → AreLogs known pasts
      → All (HasConfig (config_from usual pasts)) pasts
      → HasOutcome told clock (config_from usual pasts) descriptions pasts wants archive result
      → IsResumed told clock known usual descriptions wants archive result
