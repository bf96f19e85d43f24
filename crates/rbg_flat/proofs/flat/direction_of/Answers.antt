use Rattle.std.proofs.Common.{sym, subst, IfNone, IfSome, Option, ℕ}
use Rattle.rbg_rules.specs.Meaning.{shift, HasAction}
use Rattle.rbg_shifts.specs.Leaps.{IsShiftAt}
use Rattle.rbg_flat.proofs.Switches.{direction_stands, no_direction}
use Rattle.rbg_flat.proofs.flat.direction_of.Goals as goal

pub returns-clause-some : goal.returns-clause-some
returns-clause-some c = subst (λ (told : Option ℕ). IfSome told (λ d. HasAction c.args.game.now.rules c.args.position (shift d))) (sym c.shown_direction.ensures) (direction_stands c.args.game.now.rules c.args.position c.action.result.now c.action.ensures)

pub returns-clause-none : goal.returns-clause-none
returns-clause-none c = subst (λ (told : Option ℕ). IfNone told (¬ IsShiftAt c.args.game.now.rules c.args.position)) (sym c.shown_direction.ensures) (no_direction c.args.game.now.rules c.requires.lawful.numbered c.args.position c.action.result.now c.action.ensures)
