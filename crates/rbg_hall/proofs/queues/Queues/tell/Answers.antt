use Rattle.rbg_base.proofs.Common.{◌≡◌, ◌≤◌, length, sym, subst, arith, length-map}
use Rattle.rbg_hall.specs.Undoing.{QueueState, bytes_in}
use Rattle.rbg_hall.proofs.TableCommon.{telling, told_to}
use Rattle.rbg_hall.proofs.Telling.{told_to-past}
use Rattle.rbg_hall.proofs.queues.Queues.tell.Goals as goal

pub returns-then-index-len-clause-told : goal.returns-then-index-len-clause-told
returns-then-index-len-clause-told c =
    let count : length (bytes_in c.self.inside.bytes.items) ≡ length c.self.inside.bytes.items = length-map c.self.inside.bytes.items (λ queue. queue.items) in
    let past : length (bytes_in c.self.inside.bytes.items) ≤ c.args.line = omega (arith, count, c.self.invariant, c.if-index-len.true, c.len.ensures) in
    subst (λ (state : QueueState). state.queued ≡ told_to state.queued (telling c.args.line c.args.bytes.now)) c.self.view_is (sym (told_to-past (bytes_in c.self.inside.bytes.items) c.args.line c.args.bytes.now past))
