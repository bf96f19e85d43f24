-- The proof of `first` of `plain::Automaton`.
use Rattle.std.proofs.Common.{subst}
use Rattle.rbg_rules.specs.Meaning.{outermost, inside}
use Rattle.rbg_auto.specs.Steps.{AreFirst}
use Rattle.rbg_auto.specs.internal.Laying.{Laid}
use Rattle.rbg_auto.specs.internal.PlainNodes.{IsAutomatonOf}
use Rattle.rbg_auto.proofs.PlainNodeLemmas.{laid_there, laid_nowhere}
use Rattle.rbg_auto.proofs.plain.AutomatonSteps.first.Goals as goal

pub returns-in-Rules : goal.returns-in-Rules
returns-in-Rules c = λ rules is. let h : IsAutomatonOf c.args.self.now rules = is in rw c.in-Rules.is (rw c.as_slice.ensures.value (h.steps.first_of outermost))

pub returns-in-Some : goal.returns-in-Some
returns-in-Some c = λ rules is.
    let h : IsAutomatonOf c.args.self.now rules = is in
    let p = c.in-Inside.position in
    let there = laid_there c.args.self.now.nodes.items c.deref.result.now p c.in-Some.node.now c.deref.ensures.value c.in-Some.ensures.lookup.3.0 c.in-Some.ensures.lookup.1 in
    rw c.in-Inside.is (rw c.as_slice-in-Some.ensures.value (subst (λ (l : Laid). AreFirst rules (inside p) l.first) there (h.steps.first_of (inside p))))

pub returns-in-None : goal.returns-in-None
returns-in-None c = λ rules is.
    let h : IsAutomatonOf c.args.self.now rules = is in
    let p = c.in-Inside.position in
    let nowhere = laid_nowhere c.args.self.now.nodes.items c.deref.result.now p c.deref.ensures.value c.in-None.ensures.lookup.3 in
    rw c.in-Inside.is (subst (λ (l : Laid). AreFirst rules (inside p) l.first) nowhere (h.steps.first_of (inside p)))
