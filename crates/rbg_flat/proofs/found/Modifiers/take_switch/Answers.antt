use Rattle.std.proofs.Common.{ℕ, List, Contains}
use Rattle.rbg_rules.specs.Meaning.{IsSwitchAt}
use Rattle.rbg_flat.specs.Order.{IsBefore}
use Rattle.rbg_flat.proofs.FirstSwitches.{taken_at}
use Rattle.rbg_flat.proofs.found.Modifiers.take_switch.Goals as goal

pub returns-in-Some-clause-switches : goal.returns-in-Some-clause-switches
returns-in-Some-clause-switches c =
    taken_at (λ (ps : List (ℕ × ℕ)) (q : ℕ × ℕ). IsSwitchAt c.args.game.now.rules q.1)
    c.self.inside.words.items c.deref.result.now c.args.self.now c.in-Some.index c.take_first.result c.deref.ensures.value c.self.view_is c.in-Some.ensures.switches c.take_first.ensures.first

pub returns-in-Some-clause-least : goal.returns-in-Some-clause-least
returns-in-Some-clause-least c =
    taken_at (λ (ps : List (ℕ × ℕ)) (q : ℕ × ℕ). (x : ℕ × ℕ) → Contains ps x → IsSwitchAt c.args.game.now.rules x.1 → ¬ IsBefore x q)
    c.self.inside.words.items c.deref.result.now c.args.self.now c.in-Some.index c.take_first.result c.deref.ensures.value c.self.view_is c.in-Some.ensures.least c.take_first.ensures.first
