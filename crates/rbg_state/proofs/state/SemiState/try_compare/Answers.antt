use Rattle.std.proofs.Common.{refl}
use Rattle.rbg_rules.specs.Meaning.{arithmetic_of}
use Rattle.rbg_state.proofs.Trying.{compares_there, compares_here}
use Rattle.rbg_state.proofs.state.SemiState.try_compare.Goals as goal

pub returns-in-Valid : goal.returns-in-Valid
returns-in-Valid c = λ game.
    (refl, compares_there game (arithmetic_of c.args.left.now) (arithmetic_of c.args.right.now) c.args.relation c.args.self.now.state c.args.vertex (c.in-Valid.ensures game).0)

pub returns-in-Invalid : goal.returns-in-Invalid
returns-in-Invalid c = λ game t acts.
    (c.in-Invalid.ensures game).0 c.args.self.now.state
    (compares_here game (arithmetic_of c.args.left.now) (arithmetic_of c.args.right.now) c.args.relation c.args.self.now.state t c.args.vertex acts)
