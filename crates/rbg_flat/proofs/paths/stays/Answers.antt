use Rattle.std.proofs.Common.{sym, subst, Bool}
use Rattle.rbg_flat.proofs.Common.{Stays, way_if}
use Rattle.rbg_flat.proofs.Stills.{next_within, still_by}
use Rattle.rbg_flat.proofs.paths.stays.Goals as goal

pub no_shift-requires-clause-within : goal.no_shift-requires-clause-within
no_shift-requires-clause-within c = next_within c.args.game.now c.requires.lawful.numbered c.args.position c.args.next.now c.requires.next

pub returns-then-leaping : goal.returns-then-leaping
returns-then-leaping c = λ is.
    subst (λ (leaps : Bool). Stays (way_if leaps) c.args.game.now.rules c.args.position) (sym c.if-leaping.true)
    (still_by c.args.game.now c.args.position c.args.next.now c.requires.next (c.no_shift.ensures is))
