use Rattle.rbg_base.proofs.Common.{◌≡◌, length, ap, ◌∙◌, sym, with_items_is}
use Rattle.rbg_hall.specs.Undoing.{bytes_in, cut_back, undone}
use Rattle.rbg_hall.proofs.Telling.{undone-more}
use Rattle.rbg_hall.proofs.queues.Queues.roll_back.Goals as goal

pub loop-mark-preserved : goal.loop-mark-preserved
loop-mark-preserved c =
    let lent = c.deref_mut.ensures in
    let same : length c.cut.new.queues ≡ length c.deref_mut.result.now = c.cut.auto.queues in
    let had = c.loop-mark.self-inside.bytes in
    let cut : bytes_in c.cut.new.queues ≡ cut_back (bytes_in had.items) c.in-Some.mark = rw lent.value at c.cut.ensures in
    rw (with_items_is had c.cut.new.queues (same ∙ lent.len))
    (record {
      same = ap (λ queues. undone queues c.pop.new.self.items) cut ∙ sym (undone-more (bytes_in had.items) c.pop.new.self.items c.in-Some.mark) ∙ ap (undone (bytes_in had.items)) (sym c.in-Some.ensures.items) ∙ c.loop-mark.invariant.same;
      in_all = same ∙ ap length lent.value ∙ c.loop-mark.invariant.in_all;
    })
