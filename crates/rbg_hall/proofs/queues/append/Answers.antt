use Rattle.std.proofs.Common.{rules, ◌≡◌, ◌++◌, length, refl, sym, subst, Vec, Global, ℕ, is_ok, if◌then◌else◌}
use Rattle.rbg_hall.proofs.Telling.{appended, append_undone}
use Rattle.rbg_hall.proofs.queues.append.Goals as goal

pub returns-clause-told : goal.returns-clause-told
returns-clause-told c =
    let grew = subst (λ (one : Vec ℕ Global). c.extend_from_slice.new.self.items ≡ (if is_ok c.extend_from_slice.result then one.items ++ c.args.bytes.now else one.items)) (sym c.index-queues-line.is) c.extend_from_slice.ensures.items in
    appended c.args.queues.now c.args.line c.index-queues-line.result c.extend_from_slice.new.self c.requires c.index-queues-line.is c.args.bytes.now c.extend_from_slice.result grew

pub returns-clause-undone : goal.returns-clause-undone
returns-clause-undone c =
    let grew = subst (λ (one : Vec ℕ Global). c.extend_from_slice.new.self.items ≡ (if is_ok c.extend_from_slice.result then one.items ++ c.args.bytes.now else one.items)) (sym c.index-queues-line.is) c.extend_from_slice.ensures.items in
    let len : c.len.result ≡ length c.index-queues-line.result.items = search rules in
    append_undone c.args.queues.now c.args.line c.index-queues-line.result c.extend_from_slice.new.self c.requires c.index-queues-line.is c.args.bytes.now c.extend_from_slice.result c.args.marks.now.items c.push.new.self.items (record { line = c.args.line; len = c.len.result }) grew refl len c.in_ok-push.ensures.items
