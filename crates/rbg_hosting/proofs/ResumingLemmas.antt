-- A hall that goes on from its logs.
use Rattle.rbg_base.proofs.Common.{◌≡◌, ℕ, List, All, Bool, Option, length, map, sym, ◌∙◌, subst}
use Rattle.std.proofs.lemmas.Simd.{map-map}
use Rattle.rbg_hall.proofs.Common.{AbstractTable, HeldHall, IsNewHall, start_of, starts_of}
use Rattle.rbg_hall.specs.declared.table.Table.{Table}
use Rattle.rbg_match.specs.PlayingOn.{seats_of}
use Rattle.rbg_match.specs.declared.config.Config.{Config}
use Rattle.rbg_script.specs.Scripts.{AbstractScript}
use Rattle.rbg_hosting.specs.Pasts.{AreLogs, HasConfig, config_from, players_of}
use Rattle.rbg_hosting.specs.Tables.{AreTablesOf}
use Rattle.rbg_hosting.specs.internal.Prepared.{IsPrepared}
use Rattle.rbg_hosting.specs.internal.Recorded.{ArePlaces}
use Rattle.rbg_hosting.specs.internal.Resuming.{IsPreparedAgain}

-- the players of the tables that are made
pub players_are : (players : List ℕ) (tables : List Table) → players ≡ map (λ (table : Table). seats_of table.game) tables → players ≡ players_of (starts_of tables)
players_are players tables are = are ∙ sym (map-map (λ (table : AbstractTable). seats_of table.game) start_of tables)

-- the hall that is made for the scripts of logs
pub prepared_again : {W : Type 0} (usual config : Config) (descriptions : List (List ℕ)) (known : (number : ℕ) → Option (List ℕ)) (wants : Bool) (hall : HeldHall W) (queues : List (List ℕ)) (pasts : List (Option AbstractScript)) (players : List ℕ) (noted : List Bool) (tables : List Table) →
    length pasts ≡ length descriptions →
    AreLogs known pasts →
    config ≡ config_from usual pasts →
    All (HasConfig config) pasts →
    AreTablesOf config descriptions (starts_of tables) →
    IsNewHall (starts_of tables) hall queues →
    players ≡ map (λ (table : Table). seats_of table.game) tables →
    ArePlaces wants (length (starts_of tables)) noted →
    IsPreparedAgain usual descriptions known wants hall queues pasts players noted
prepared_again usual config descriptions known wants hall queues pasts players noted tables as_many logs is_config same are is players_so placed = record {
  as_many = as_many;
  logs = logs;
  same = subst (λ (one : Config). All (HasConfig one) pasts) is_config same;
  prepared = record {
    tables = starts_of tables;
    are = subst (λ (one : Config). AreTablesOf one descriptions (starts_of tables)) is_config are;
    is = is;
    players_are = players_are players tables players_so;
    places = placed;
  };
}
