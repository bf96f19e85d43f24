-- Lemmas on why a hall has no printed lines.
use Rattle.rbg_base.proofs.Common.{◌≡◌, ℕ, ◌≤◌, List, All, Some, length, slice_get, sym, subst, length-map, All-get_or, slice_get_within, get_or_from_slice_get}
use Rattle.std.specs.Global.{Vec}
use Rattle.rbg_hall.proofs.Common.{AbstractTable, most_tables, IsRefusedHall}
use Rattle.rbg_script.specs.Events.{AbstractEvent}
use Rattle.rbg_hall.specs.Openings.IsRefusedHall.{tables as wrong_tables, config as wrong_config, memory as no_memory}
use Rattle.rbg_hall.specs.Wholes.{IsOfHall as IsAllowedHall}
use Rattle.rbg_hall.specs.declared.error.HallError.{HallError}
use Rattle.rbg_match.specs.Config.{IsWithinLimits}
use Rattle.rbg_match.specs.declared.config.Config.{Config}
use Rattle.rbg_referee.specs.Scripts.{config_for}
use Rattle.rbg_referee.specs.Errors.{IsOfScript}
use Rattle.rbg_referee.specs.declared.input_error.RefereeingError.{RefereeingError}
use Rattle.rbg_script.specs.declared.error.ScriptError.{ScriptError}
use Rattle.rbg_script.specs.declared.error.ScriptError.TheVariants.{Line, Memory as NoMemory}
use Rattle.rbg_script.specs.Scripts.{AbstractScript, SpellsScript, HasMisfit, IsReason, misfit}
use Rattle.rbg_hosting.specs.declared.error.HostingError.{HostingError}
use Rattle.rbg_hosting.specs.Errors.{IsOfHall}
use Rattle.rbg_hosting.specs.Halls.{MayBeDescriptions, IsHeardHall, IsNoHall, IsNotHeard}
use Rattle.rbg_hosting.specs.Tables.{texts_of, IsGames, AreTablesOf}
use Rattle.rbg_hosting.proofs.TableLemmas.{as_many, config_in}

reason_has : (text : List ℕ) (number : ℕ) → IsReason text (Line number) → HasMisfit text number
reason_has text _ (misfit number has) = has

-- a text that is no script, where the descriptions are games'
pub script_not_heard : (descriptions : List (List ℕ)) → All IsGames descriptions → (reason : ScriptError) (error : RefereeingError) → IsOfScript reason error → (text : List ℕ) → IsReason text reason → IsNotHeard descriptions text error
script_not_heard descriptions games (Line number) error is text reason =
    subst (λ e. IsNotHeard descriptions text e) (sym is) (games, reason_has text number reason)
script_not_heard descriptions games NoMemory error is text reason =
    subst (λ e. IsNotHeard descriptions text e) (sym is) (tt {0})

-- the config of a script is within the limits
script_config : (text : List ℕ) (script : AbstractScript) → SpellsScript text script → IsWithinLimits (config_for script.config)
script_config text script spells =
    let has = spells.config.has.0 in
    record { turn_some = has.some_time; turn_most = has.turn; refusals_most = has.few }

found_has : (config : Config) (tables : List AbstractTable) (index : ℕ) (table : AbstractTable) → All (λ (one : AbstractTable). one.config ≡ config) tables → slice_get tables index ≡ Some table → table.config ≡ config
found_has config tables index table all is =
    subst (λ (one : AbstractTable). one.config ≡ config) (get_or_from_slice_get tables index table table is)
    (All-get_or (λ (one : AbstractTable). one.config ≡ config) tables index table (slice_get_within tables index table is) all)

-- A hall that isn't made, or doesn't go on, has no memory: there are as many tables as there may be, and the config is
-- that of a script.
pub hall_is_no_hall : (descriptions : List (List ℕ)) (script : AbstractScript) (tables : List AbstractTable) → MayBeDescriptions descriptions → AreTablesOf (config_for script.config) descriptions tables → (hall : HallError) → IsRefusedHall tables hall → (error : HostingError) → IsOfHall hall error → (text : List ℕ) → SpellsScript text script → IsNoHall descriptions text error
hall_is_no_hall descriptions script tables may are _ (wrong_tables none) error is text spells =
    let same = sym (as_many (config_for script.config) descriptions tables are) in
    absurd (none (subst (λ n. (1 ≤ n) × (n ≤ most_tables)) same may))
hall_is_no_hall descriptions script tables may are _ (wrong_config index table some found beyond first) error is text spells =
    let same = found_has (config_for script.config) tables index table (config_in (config_for script.config) descriptions tables are) found in
    absurd (beyond (subst IsWithinLimits (sym same) (script_config text script spells)))
hall_is_no_hall descriptions script tables may are _ no_memory error is text spells =
    subst (λ e. IsNoHall descriptions text e) (sym is) (tt {0})

-- there are as many texts as descriptions
pub texts_count : (descriptions : List (Vec ℕ)) → length (texts_of descriptions) ≡ length descriptions
texts_count descriptions = length-map descriptions (λ (d : Vec ℕ). d.items)

-- the hall that has these tables has heard the script
pub heard_hall : (descriptions : List (List ℕ)) (script : AbstractScript) (tables : List AbstractTable) (config : Config) (events : List AbstractEvent) (queues : List (List ℕ)) → config ≡ config_for script.config → AreTablesOf config descriptions tables → events ≡ script.events → IsAllowedHall tables events queues → IsHeardHall descriptions script queues
heard_hall descriptions script tables config events queues is are same heard = record {
  tables = tables;
  are = subst (λ c. AreTablesOf c descriptions tables) is are;
  heard = subst (λ list. IsAllowedHall tables list queues) same heard;
}
