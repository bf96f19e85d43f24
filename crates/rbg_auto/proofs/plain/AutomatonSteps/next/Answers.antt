-- The proof of `next` of `plain::Automaton`.
use Rattle.std.proofs.Common.{subst}
use Rattle.rbg_auto.specs.Steps.{AreNext}
use Rattle.rbg_auto.specs.internal.Laying.{Laid}
use Rattle.rbg_auto.specs.internal.PlainNodes.{IsAutomatonOf}
use Rattle.rbg_auto.proofs.PlainNodeLemmas.{laid_there, laid_nowhere}
use Rattle.rbg_auto.proofs.plain.AutomatonSteps.next.Goals as goal

pub returns-in-Some : goal.returns-in-Some
returns-in-Some c = λ rules is.
    let h : IsAutomatonOf c.args.self.now rules = is in
    let there = laid_there c.args.self.now.nodes.items c.deref.result.now c.args.position c.in-Some.node.now c.deref.ensures.value c.in-Some.ensures.lookup.3.0 c.in-Some.ensures.lookup.1 in
    rw c.as_slice.ensures.value (subst (λ (l : Laid). AreNext rules c.args.position l.next) there (h.steps.next_of c.args.position))

pub returns-in-None : goal.returns-in-None
returns-in-None c = λ rules is.
    let h : IsAutomatonOf c.args.self.now rules = is in
    let nowhere = laid_nowhere c.args.self.now.nodes.items c.deref.result.now c.args.position c.deref.ensures.value c.in-None.ensures.lookup.3 in
    subst (λ (l : Laid). AreNext rules c.args.position l.next) nowhere (h.steps.next_of c.args.position)
