-- The hall that is played is the one that was prepared, and goes on from no log.
use Rattle.rbg_base.proofs.Common.{◌≤◌, [], ap, arith, length, refl, subst, sym}
use Rattle.rbg_hosting.specs.Served.{HasOutcome}
use Rattle.rbg_hosting.specs.Served.IsOutcome.{not_begun}
use Rattle.rbg_hosting.specs.Tables.{texts_of}
use Rattle.rbg_hosting.specs.internal.Resuming.{pasts_in}
use Rattle.rbg_hosting.proofs.serving.serve_hall.Goals as goal

pub play-requires : goal.play-requires
play-requires g c = let none = ap length c.in-Ok.ensures.is_new in omega (arith, none)

pub returns-in-Ok-clause-printed : goal.returns-in-Ok-clause-printed
returns-in-Ok-clause-printed g c = c.play.ensures.printed c.in-Ok.ensures.is_new _ _ _ c.in-Ok.ensures.prepared

pub returns-in-Ok-clause-archived : goal.returns-in-Ok-clause-archived
returns-in-Ok-clause-archived g c empty =
    subst (λ pasts. HasOutcome g.A.Archive.handed g.N.Clock.Clock.told c.args.serving.now.config (texts_of c.args.descriptions.now) (pasts_in pasts) (g.A.Archive.wants c.args.archive) c.play.result.1 c.play.result.0) c.in-Ok.ensures.is_new
    (c.play.ensures.archived _ _ _ c.in-Ok.ensures.prepared (c.prepare.ensures.handed [] empty))

pub returns-in-Err-clause-archived : goal.returns-in-Err-clause-archived
returns-in-Err-clause-archived g c empty = record {
  handed = [];
  account = c.prepare.ensures.handed [] empty;
  outcome = not_begun c.in-Err.fault refl;
}
