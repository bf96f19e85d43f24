-- What comes next at each place in the rules.
use Rattle.std.specs.Prelude.{◌≡◌, ◌+◌, ◌↔◌, ℕ, [], length, slice_get, Some, IsTrue}
use Rattle.rbg_rules.specs.Meaning.{AbstractGame, Start, beginning, after, inside, outermost, Ends, positions_of}
use Rattle.rbg_auto.specs.Steps.{AreAllThatFollow}
use Rattle.rbg_flat.specs.declared.followers.Followers.{Followers}
use Rattle.rbg_flat.specs.declared.followers.StepTable.{StepTable}

-- These come next there, and it is told whether a word may end.
pub record AreFollowers (game : AbstractGame) (f : Start) (told : Followers) : Type 0 where
  pub follow : AreAllThatFollow game.rules f told.positions.items
  pub ends : IsTrue told.ends ↔ Ends game.rules f []

-- They are told of each place in the rules of the game.
pub record AreStepsOf (game : AbstractGame) (table : StepTable) : Type 0 where
  pub rules : AreFollowers game (beginning outermost) table.rules
  pub all_insides : length table.insides.items ≡ length (positions_of game.rules) + 1
  pub all_afters : length table.afters.items ≡ length (positions_of game.rules) + 1
  pub told_inside :
      (p : ℕ) (told : Followers) → slice_get table.insides.items p ≡ Some told →
      AreFollowers game (beginning (inside p)) told
  pub told_after :
      (p : ℕ) (told : Followers) → slice_get table.afters.items p ≡ Some told → AreFollowers game (after p) told
