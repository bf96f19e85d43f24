-- The proof of `may_be_empty` of `plain::Automaton`.
use Rattle.std.proofs.Common.{[], subst, IsTrue, ◌↔◌}
use Rattle.rbg_rules.specs.Meaning.{outermost, inside, beginning, Ends}
use Rattle.rbg_auto.specs.internal.Laying.{Laid}
use Rattle.rbg_auto.specs.internal.PlainNodes.{IsAutomatonOf}
use Rattle.rbg_auto.proofs.PlainNodeLemmas.{laid_there, laid_nowhere}
use Rattle.rbg_auto.proofs.plain.AutomatonSteps.may_be_empty.Goals as goal

pub returns-in-Rules : goal.returns-in-Rules
returns-in-Rules c = λ rules is. let h : IsAutomatonOf c.args.self.now rules = is in rw c.in-Rules.is (h.steps.empty outermost)

pub returns-in-Some : goal.returns-in-Some
returns-in-Some c = λ rules is.
    let h : IsAutomatonOf c.args.self.now rules = is in
    let p = c.in-Inside.position in
    let there = laid_there c.args.self.now.nodes.items c.deref.result.now p c.in-Some.node.now c.deref.ensures.value c.in-Some.ensures.lookup.3.0 c.in-Some.ensures.lookup.1 in
    rw c.in-Inside.is (subst (λ (l : Laid). IsTrue l.may_be_empty ↔ Ends rules (beginning (inside p)) []) there (h.steps.empty (inside p)))

pub returns-in-None : goal.returns-in-None
returns-in-None c = λ rules is.
    let h : IsAutomatonOf c.args.self.now rules = is in
    let p = c.in-Inside.position in
    let nowhere = laid_nowhere c.args.self.now.nodes.items c.deref.result.now p c.deref.ensures.value c.in-None.ensures.lookup.3 in
    rw c.in-Inside.is (subst (λ (l : Laid). IsTrue l.may_be_empty ↔ Ends rules (beginning (inside p)) []) nowhere (h.steps.empty (inside p)))
