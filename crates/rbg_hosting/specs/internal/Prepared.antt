-- A hall before its matches.
use Rattle.std.specs.Prelude.{◌≡◌, ℕ, Bool, List, length}
use Rattle.rbg_hall.specs.Failing.{HeldHall}
use Rattle.rbg_hall.specs.Halls.{AbstractTable}
use Rattle.rbg_hall.specs.Openings.{IsNewHall}
use Rattle.rbg_match.specs.declared.config.Config.{Config}
use Rattle.rbg_hosting.specs.Pasts.{players_of}
use Rattle.rbg_hosting.specs.Tables.{AreTablesOf}
use Rattle.rbg_hosting.specs.internal.Recorded.{ArePlaces}

-- This is a new hall with a table for each description, these are the players of its matches, and these are places for the
-- records of its matches.
pub record IsPrepared {W : Type 0} (config : Config) (descriptions : List (List ℕ)) (wants : Bool) (hall : HeldHall W)
    (queues : List (List ℕ)) (players : List ℕ) (noted : List Bool) : Type 0 where
  pub tables : List AbstractTable
  pub are : AreTablesOf config descriptions tables
  pub is : IsNewHall tables hall queues
  pub players_are : players ≡ players_of tables
  pub places : ArePlaces wants (length tables) noted
