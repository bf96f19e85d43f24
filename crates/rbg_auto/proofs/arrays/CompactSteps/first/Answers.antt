-- The proof of `first` of `arrays::Compact`.
use Rattle.rbg_rules.specs.Meaning.{outermost, inside}
use Rattle.rbg_auto.specs.internal.Compacts.{IsCompactOf}
use Rattle.rbg_auto.proofs.arrays.CompactSteps.first.Goals as goal

pub returns-in-Rules : goal.returns-in-Rules
returns-in-Rules c = λ rules is. let h : IsCompactOf c.args.self.now rules = is in rw c.in-Rules.is (rw c.list.ensures (h.steps.first_of outermost))

pub returns-in-Inside : goal.returns-in-Inside
returns-in-Inside c = λ rules is. let h : IsCompactOf c.args.self.now rules = is in rw c.in-Inside.is (rw c.list-in-Inside.ensures (rw c.inside.ensures.inside (h.steps.first_of (inside c.in-Inside.position))))
