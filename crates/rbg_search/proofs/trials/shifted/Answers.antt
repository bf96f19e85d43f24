use Rattle.std.proofs.Common.{ap, sym, ◌∙◌}
use Rattle.rbg_board.specs.Graph.{Graph, next}
use Rattle.rbg_search.proofs.Glances.{shift_leads, shift_stays}
use Rattle.rbg_search.proofs.trials.shifted.Goals as goal

pub returns-in-Some-clause-trial : goal.returns-in-Some-clause-trial
returns-in-Some-clause-trial c = λ s q numbered here.
    shift_leads c.args.game.now numbered s c.args.vertex q c.args.direction c.in-Some.to here
    (ap (λ (g : Graph). next g c.args.vertex c.args.direction) (sym c.board.ensures.board) ∙ sym c.in-Some.ensures.next)

pub returns-in-None-clause-trial : goal.returns-in-None-clause-trial
returns-in-None-clause-trial c = λ s q numbered here.
    shift_stays c.args.game.now numbered s c.args.vertex q c.args.direction here
    (ap (λ (g : Graph). next g c.args.vertex c.args.direction) (sym c.board.ensures.board) ∙ sym c.in-None.ensures.next)
