use Rattle.std.proofs.Common.{ℕ, sym, subst}
use Rattle.rbg_flat.specs.Paths.{AreShown}
use Rattle.rbg_flat.proofs.ModifierLemmas.{facts_stand, zero_facts}
use Rattle.rbg_flat.proofs.paths.facts_at.Goals as goal

pub returns-then-position-eq0-clause-shown : goal.returns-then-position-eq0-clause-shown
returns-then-position-eq0-clause-shown c = subst (λ (p : ℕ). AreShown c.args.game.now.rules p c.plain_facts.result) (sym c.if-position-eq0.true) (zero_facts c.args.game.now.rules c.requires.lawful.numbered c.plain_facts.result c.plain_facts.ensures.shown)

pub returns-clause-shown : goal.returns-clause-shown
returns-clause-shown c = facts_stand c.args.game.now.rules c.requires.lawful.numbered c.args.position c.action.result.now c.action.ensures c.facts_of.result c.facts_of.ensures.shown
