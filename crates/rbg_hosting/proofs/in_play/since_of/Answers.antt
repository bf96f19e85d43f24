-- The first moment, or 0.
use Rattle.std.proofs.Common.{subst}
use Rattle.rbg_hosting.proofs.MomentLemmas.{since_first, since_none}
use Rattle.rbg_hosting.specs.internal.Moments.{IsFirst}
use Rattle.rbg_hosting.proofs.in_play.since_of.Goals as goal

pub returns-in-Some : goal.returns-in-Some
returns-in-Some g c = since_first _ _ _ (subst (IsFirst c.args.hall.now.state.tables c.args.matches) c.in-Some.is c.first_moment.ensures)

pub returns-in-None : goal.returns-in-None
returns-in-None g c = since_none _ _ (subst (IsFirst c.args.hall.now.state.tables c.args.matches) c.in-None.is c.first_moment.ensures)
