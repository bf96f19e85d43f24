-- The steps that an array of lists has.
use Rattle.std.specs.Prelude.{◌≡◌, ℕ, ◌<◌, List, length, Vec, Some}
use Rattle.std.specs.Global.{Global}
use Rattle.rbg_rules.specs.Meaning.{Expression, positions_of}
use Rattle.rbg_auto.specs.declared.arrays.Compact.{Compact}
use Rattle.rbg_auto.specs.declared.lent_steps.LentSteps.{LentSteps}
use Rattle.rbg_auto.specs.declared.lent_steps.Step.{Step}
use Rattle.rbg_auto.specs.LentSteps.{IsLentOf}
use Rattle.rbg_auto.specs.Steps.{AreStepsOf, IsGlance}
use Rattle.rbg_auto.specs.internal.Laying.{first_at, empty_at}
use Rattle.rbg_auto.specs.internal.Tables.{listed}
use Rattle.rbg_auto.specs.internal.Building.{laid_in, glance_in}

-- These steps and entries are right to lend.
pub record MayBeLent (rules : Expression) (steps : List Step) (entries : List ℕ) : Type 0 where
  pub right : (lent : LentSteps) → lent.steps.now ≡ steps → lent.entries.now ≡ entries → IsLentOf rules lent

-- The lists of the automaton are the steps of the rules, its glances of actions are right, it has a node for each
-- position, and what was prepared of them, if it was, is right to lend.
pub record IsCompactOf (c : Compact) (rules : Expression) : Type 0 where
  pub steps :
      AreStepsOf rules
      (first_at (listed c.table.entries.items c.rules.first) (laid_in c.table))
      (λ i. (laid_in c.table i).next)
      (λ i. (laid_in c.table i).may_end)
      (empty_at c.rules.may_be_empty (laid_in c.table))
  pub told : (p : ℕ) → IsGlance rules p (glance_in c.table p)
  pub has : length (positions_of rules) < length c.table.nodes.items
  pub lends : (steps : Vec Step Global) → c.prepared ≡ Some steps → MayBeLent rules steps.items c.table.entries.items
