use Rattle.rbg_base.proofs.Common.{◌≡◌, length, ap, ◌∙◌, with_items_is}
use Rattle.rbg_match.proofs.Marking.{taken_back}
use Rattle.rbg_match.proofs.outbox.Outbox.cut_back.Goals as goal

pub returns : goal.returns
returns c = λ before outgoing beyond are.
    let lent = c.deref_mut.ensures in
    let same : length c.cut.new.queues ≡ length c.deref_mut.result.now = c.cut.auto.queues in
    rw (with_items_is c.self.inside.queues c.cut.new.queues (same ∙ lent.len)) (taken_back c.self.inside.queues.items c.cut.new.queues c.args.marks.now before outgoing (same ∙ ap length lent.value) (rw lent.value at c.cut.ensures) (c.self.view_is ∙ beyond) are)
