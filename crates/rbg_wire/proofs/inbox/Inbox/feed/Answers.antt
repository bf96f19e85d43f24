-- The piece follows the bytes that are kept.
use Rattle.rbg_wire.proofs.InboxLemmas.{on_ok_when, fed}
use Rattle.rbg_wire.proofs.inbox.Inbox.feed.Goals as goal

pub returns-clause-ok : goal.returns-clause-ok
returns-clause-ok c =
    on_ok_when c.extend_from_slice.result _ (λ ok.
    let items = rw ok at c.extend_from_slice.ensures.items in
    fed c.self.inside.limit c.drop_read.new.self c.self.inside.cursor _ _ _ _ _ c.drop_read.ensures.cursor (c.drop_read.ensures.same c.self.inside.limit) items c.self.view_is)
