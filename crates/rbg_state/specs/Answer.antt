-- The result of applying an action.
use Rattle.std.specs.Prelude.{◌≡◌, ◌⊎◌}
use Rattle.rbg_rules.specs.Meaning.{AbstractAction, AbstractGame, AbstractState, Acts}
use Rattle.rbg_state.specs.History.{History, changed_to}
use Rattle.rbg_state.specs.declared.state.actions.Applied.{Applied}
use Rattle.rbg_state.specs.declared.state.actions.Applied.TheVariants.{Valid, Invalid}

-- Valid: the action takes the state of h to that of k, by at most one change.
-- Invalid: the action takes the state of h nowhere, and k is h.
abbrev pub Answers : AbstractGame → AbstractAction → History → History → Applied → Type 0
Answers game a h k Valid = Acts game a h.state k.state × ((k ≡ h) ⊎ (k ≡ changed_to h k.state))
Answers game a h k Invalid = ((u : AbstractState) → ¬ Acts game a h.state u) × (k ≡ h)
