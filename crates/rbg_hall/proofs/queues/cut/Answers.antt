use Rattle.std.proofs.Common.{◌≡◌, refl, sym, subst, take, Vec, Global, ℕ}
use Rattle.rbg_hall.proofs.Telling.{cut_one}
use Rattle.rbg_hall.proofs.queues.cut.Goals as goal

pub returns-then-mark-queues : goal.returns-then-mark-queues
returns-then-mark-queues c =
    let less = subst (λ (one : Vec ℕ Global). c.truncate.new.self.items ≡ take c.args.mark.len one.items) (sym c.index-queues-mark.is) c.truncate.ensures.items in
    cut_one c.args.queues.now c.args.mark.line c.index-queues-mark.result c.truncate.new.self c.if-mark-queues.true c.index-queues-mark.is c.args.mark refl less
