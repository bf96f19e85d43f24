-- What a flat part is looked for in, and how it is led on there.
use Rattle.std.specs.Prelude.{ℕ}
use Rattle.rbg_rules.specs.Meaning.{IsGame, IsStateOf, Start}
use Rattle.rbg_flat.specs.declared.flat.Flat.{Flat}
use Rattle.rbg_flat.specs.declared.setting.Setting.{Setting}
use Rattle.rbg_flat.specs.Paths.{ArePathsOf, way_of}
use Rattle.rbg_flat.specs.Ways.{Way}
use Rattle.rbg_flat.specs.internal.Begun.{IsBegun}
use Rattle.rbg_flat.specs.internal.Leading.{AreSizedFor, AreOn, LearnsEnd}
use Rattle.rbg_flat.specs.internal.Passing.{IsToTry}
use Rattle.rbg_flat.specs.internal.Sets.{SetsOfVertices, IsMarked, IsOpen, Meets}

-- The game is a lawful one, and the paths and the semi-state are its own.
pub record IsLawfulSetting (setting : Setting) : Type 0 where
  pub lawful : IsGame setting.game.now
  pub paths : ArePathsOf setting.game.now setting.paths.now
  pub fits : IsStateOf setting.game.now setting.state.now.state

-- how flat parts are led on there
abbrev pub way_in : Setting → Way
way_in setting = way_of setting.paths.now

-- All this is so, and the sets have the size that a flat part of the game takes.
pub record AreReady (setting : Setting) (sets : SetsOfVertices) : Type 0 where
  pub set : IsLawfulSetting setting
  pub sized : AreSizedFor setting.game.now sets

-- What was met at a vertex is to be looked at.
abbrev pub IsToTryIn : Setting → (v p : ℕ) → Type 0
IsToTryIn setting = IsToTry setting.game.now setting.state.now.state

-- A flat part has begun.
abbrev pub HasBegun : Setting → Start → Flat → Type 0
HasBegun setting f flat =
    IsBegun (way_in setting) setting.game.now setting.state.now.state f (IsMarked flat.sets) (IsOpen flat.sets) flat.ends

-- A flat part was led on: these vertices with positions were met, and it was learned whether a word ends.
pub record LeadsOn (setting : Setting) (old new : Flat) (In : (v p : ℕ) → Type 0) (Ends : Type 0) : Type 0 where
  pub sized : AreSizedFor setting.game.now new.sets
  pub met : Meets old.sets new.sets In (IsToTryIn setting)
  pub ends : LearnsEnd old.ends new.ends Ends
  pub on : AreOn setting.game.now old.sets → AreOn setting.game.now new.sets
