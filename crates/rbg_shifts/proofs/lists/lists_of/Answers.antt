use Rattle.rbg_rules.specs.Meaning.{inside, beginning, after}
use Rattle.rbg_shifts.proofs.Interning.{node_of_kept, one_more_list}
use Rattle.rbg_shifts.proofs.lists.lists_of.Goals as goal

pub loop-index-preserved : goal.loop-index-preserved
loop-index-preserved g c =
    let rules = c.args.game.now.rules in
    let k = c.loop-index.index in
    rw (c.in_ok-push.ensures.items, c.in_ok-push-2.ensures.items)
    (one_more_list rules k c.loop-index.interner c.keep-in-loop-index.new.self c.keep_as.new.self c.in_ok-rules.rules
    c.loop-index.afters.items c.loop-index.insides.items c.in_ok-after.after c.in_ok-inside.inside
    c.loop-index.interner.within c.keep-in-loop-index.new.self.within c.loop-index.invariant c.in_ok-after.ensures.extends
    (node_of_kept rules c.keep-in-loop-index.new.self (after k) c.next.result.now c.may_end.result c.in_ok-after.after c.in_ok-after.ensures.kept
    (record { follow = c.next.ensures rules c.requires.steps; ends = c.may_end.ensures rules c.requires.steps }))
    c.in_ok-inside.ensures.extends
    (node_of_kept rules c.keep_as.new.self (beginning (inside k)) c.first-in-loop-index.result.now c.may_be_empty-in-loop-index.result c.in_ok-inside.inside c.in_ok-inside.ensures.kept
    (record { follow = c.first-in-loop-index.ensures rules c.requires.steps; ends = c.may_be_empty-in-loop-index.ensures rules c.requires.steps })))
