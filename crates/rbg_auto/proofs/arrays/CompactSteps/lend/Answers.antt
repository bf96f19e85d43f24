-- The proof of `lend` of `arrays::Compact`.
use Rattle.rbg_auto.specs.internal.Compacts.{IsCompactOf}
use Rattle.rbg_auto.proofs.arrays.CompactSteps.lend.Goals as goal

pub returns-in-Some : goal.returns-in-Some
returns-in-Some c = λ rules is. let h : IsCompactOf c.args.self.now rules = is in (h.lends c.in-Some.steps c.in-Some.is).right _ c.as_slice.ensures.value c.as_slice-in-Some.ensures.value
