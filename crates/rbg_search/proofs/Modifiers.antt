-- Where an action that is no modifier leads.
use Rattle.std.proofs.Common.{◌≡◌, ℕ, ap}
use Rattle.rbg_rules.specs.Meaning.{IsNumbered, IsModifierAt, AbstractGame, AbstractState, Applies}
use Rattle.rbg_rules.proofs.MoveLemmas.{Applies_one}
use Rattle.rbg_state.specs.Trials.{IsTrial}
use Rattle.rbg_state.specs.declared.state.trials.Trial.{Trial}
use Rattle.rbg_state.specs.declared.state.trials.Trial.TheVariants.{Invalid, Modifies, LeadsTo}
use Rattle.rbg_search.proofs.Along.{at_vertex, Leads, IsTrialAt}

-- An action that is no modifier leads to the one vertex where it ends.
pub leads_on : (game : AbstractGame) → IsNumbered game.rules → (s : AbstractState) (v q u : ℕ) → ¬ IsModifierAt game.rules q → Applies game q (at_vertex s v) (at_vertex s u) → Leads game s v q u × ((w : ℕ) → Leads game s v q w → w ≡ u)
leads_on game numbered s v q u quiet applies = (
  record { quiet = quiet; applies = applies },
  (λ w leads. ap (λ (t : AbstractState). t.vertex) (Applies_one game numbered q leads.applies applies)),
)

-- What becomes of an action that is tried at a vertex.
pub trial_at : (game : AbstractGame) → IsNumbered game.rules → (s : AbstractState) (v q : ℕ) (trial : Trial) → IsTrial game (at_vertex s v) q trial → IsTrialAt game s v q trial
trial_at game numbered s v q Invalid none = none
trial_at game numbered s v q Modifies valid = valid
trial_at game numbered s v q (LeadsTo u) (quiet, applies) = leads_on game numbered s v q u quiet applies
