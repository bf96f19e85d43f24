use Rattle.std.proofs.lemmas.Bool.{le-ltb}
use Rattle.rbg_shifts.proofs.filling.steps.Goals as goal

pub returns-else-later-clause-none : goal.returns-else-later-clause-none
returns-else-later-clause-none c = λ l all. le-ltb c.in-Some.to c.args.vertex (all c.in-Some.to ((c.to.ensures.comes c.in-Some.to).0 c.in-Some.is))
