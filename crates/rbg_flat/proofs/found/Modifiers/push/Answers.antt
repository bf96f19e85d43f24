use Rattle.rbg_flat.proofs.Spellings.{one_pair, one_filled, pushed_filled, pushed_pair}
use Rattle.rbg_flat.proofs.found.Modifiers.push.Goals as goal

pub invariant_of-self-2 : goal.invariant_of-self-2
invariant_of-self-2 c =
    pushed_filled c.self.inside.words.items c.push.new.self.items (one_pair c.args.vertex c.args.position) c.in_ok-push.ensures.items c.self.invariant (one_filled c.args.vertex c.args.position c.ranges.vertex.fits)

pub returns : goal.returns
returns c =
    pushed_pair c.self.inside.words.items c.push.new.self.items c.args.self.now c.args.vertex c.args.position c.in_ok-push.ensures.items c.self.view_is
