-- The proof of `may_end` of `plain::Automaton`.
use Rattle.std.proofs.Common.{[], subst, IsTrue, ◌↔◌}
use Rattle.rbg_rules.specs.Meaning.{after, Ends}
use Rattle.rbg_auto.specs.internal.Laying.{Laid}
use Rattle.rbg_auto.specs.internal.PlainNodes.{IsAutomatonOf}
use Rattle.rbg_auto.proofs.PlainNodeLemmas.{laid_nowhere}
use Rattle.rbg_auto.proofs.plain.AutomatonSteps.may_end.Goals as goal

pub returns-in-None : goal.returns-in-None
returns-in-None c = λ rules is.
    let h : IsAutomatonOf c.args.self.now rules = is in
    let nowhere = laid_nowhere c.args.self.now.nodes.items c.deref.result.now c.args.position c.deref.ensures.value c.in-None.ensures.lookup.3 in
    subst (λ (l : Laid). IsTrue l.may_end ↔ Ends rules (after c.args.position) []) nowhere (h.steps.ends c.args.position)
