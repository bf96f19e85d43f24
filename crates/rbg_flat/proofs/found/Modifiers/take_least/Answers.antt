use Rattle.rbg_flat.specs.Order.{IsLeast}
use Rattle.rbg_flat.proofs.FirstSwitches.{taken_at}
use Rattle.rbg_flat.proofs.found.Modifiers.take_least.Goals as goal

pub returns-in-Some-clause-least : goal.returns-in-Some-clause-least
returns-in-Some-clause-least c =
    taken_at IsLeast c.self.inside.words.items c.deref.result.now c.args.self.now c.in-Some.index c.take_first.result c.deref.ensures.value c.self.view_is c.in-Some.ensures.least c.take_first.ensures.first
