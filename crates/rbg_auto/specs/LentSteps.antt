-- What an automaton lends.
use Rattle.std.specs.Prelude.{ℕ, ◌+◌, ◌<◌, ◌≤◌, ◌≢◌, List, [], length, slice_range, slice_index_or}
use Rattle.rbg_rules.specs.Meaning.{Expression, positions_of, after, Ends}
use Rattle.rbg_auto.specs.declared.lent_steps.LentSteps.{LentSteps}
use Rattle.rbg_auto.specs.declared.lent_steps.Step.{Step}
use Rattle.rbg_auto.specs.declared.steps.Glance.TheVariants.{Unknown}
use Rattle.rbg_auto.specs.Steps.{AreNext, IsGlance}

-- A step with no list, and with nothing known of its action.
abbrev pub no_step : Step
no_step = record { start = 0; len = 0; glance = Unknown }

-- The step at each position.
abbrev pub step_at : List Step → ℕ → Step
step_at steps p = slice_index_or steps p no_step

-- The list of a step.
abbrev pub list_of : List ℕ → Step → List ℕ
list_of entries step = slice_range entries step.start (step.start + step.len)

-- There is an answer for position p: a step, whose list is within the entries.
pub record HasAnswer (lent : LentSteps) (p : ℕ) : Type 0 where
  pub there : p < length lent.steps.now
  pub within : (step_at lent.steps.now p).start + (step_at lent.steps.now p).len ≤ length lent.entries.now

-- What an automaton lends has an answer for each position of the rules and for 0, and its answers are right. If
-- something is known of an action, no word may end after it.
pub record IsLentOf (rules : Expression) (lent : LentSteps) : Type 0 where
  pub has : (p : ℕ) → p ≤ length (positions_of rules) → HasAnswer lent p
  pub next : (p : ℕ) → AreNext rules p (list_of lent.entries.now (step_at lent.steps.now p))
  pub told : (p : ℕ) → IsGlance rules p (step_at lent.steps.now p).glance
  pub quiet : (p : ℕ) → (step_at lent.steps.now p).glance ≢ Unknown → ¬ Ends rules (after p) []
