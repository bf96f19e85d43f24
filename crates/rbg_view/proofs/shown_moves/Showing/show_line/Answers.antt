-- A line that tells nothing is followed.
use Rattle.std.proofs.Common.{refl, subst}
use Rattle.rbg_view.specs.Following.Follows.{silent}
use Rattle.rbg_view.specs.Lines.{IsLine}
use Rattle.rbg_view.proofs.shown_moves.Showing.show_line.Goals as goal

pub returns-then-is_silent-clause-follows : goal.returns-then-is_silent-clause-follows
returns-then-is_silent-clause-follows c =
    let told = subst (IsLine c.args.line.now) (c.if-is_silent.ensures.0 refl) c.in_ok-held.ensures in
    silent told.0 told.1
