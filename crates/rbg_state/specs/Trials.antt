-- What an action would do if it were tried.
use Rattle.std.specs.Prelude.{◌≡◌, ℕ, true, false}
use Rattle.rbg_rules.specs.Meaning.{AbstractAction, is_modifier, IsModifierAt, AbstractGame, AbstractState, Acts, Applies}
use Rattle.rbg_state.specs.declared.state.trials.Trial.{Trial}
use Rattle.rbg_state.specs.declared.state.trials.Trial.TheVariants.{Invalid, Modifies, LeadsTo}

-- the semi-state with this current vertex
abbrev pub at_vertex : AbstractState → ℕ → AbstractState
at_vertex s v = record s { vertex = v }

-- What a trial means for an action in s that is no pattern.
--   Invalid: the action takes s nowhere
--   Modifies: it is a modifier, and takes s somewhere
--   LeadsTo: it is no modifier, and takes s to this vertex; nothing else changes
abbrev pub IsTrialOf : AbstractGame → AbstractAction → AbstractState → Trial → Type 0
IsTrialOf game a s Invalid = (t : AbstractState) → ¬ Acts game a s t
IsTrialOf game a s Modifies = (is_modifier a ≡ true) × ((t : AbstractState) × Acts game a s t)
IsTrialOf game a s (LeadsTo v) = (is_modifier a ≡ false) × Acts game a s (at_vertex s v)

-- The same of the action at position p of the game.
abbrev pub IsTrial : AbstractGame → AbstractState → ℕ → Trial → Type 0
IsTrial game s p Invalid = (t : AbstractState) → ¬ Applies game p s t
IsTrial game s p Modifies = IsModifierAt game.rules p × ((t : AbstractState) × Applies game p s t)
IsTrial game s p (LeadsTo v) = (¬ IsModifierAt game.rules p) × Applies game p s (at_vertex s v)
