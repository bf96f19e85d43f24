use Rattle.std.proofs.Common.{sym, ◌∙◌}
use Rattle.std.proofs.lemmas.Bool.{true≢false}
use Rattle.rbg_record.proofs.EntryLemmas.{too_late, unfit, same_refusal}
use Rattle.rbg_record.proofs.reading.judge.Goals as goal
use Rattle.rbg_record.proofs.reading.judge.Goals.{then-told-gt-LATEST_MOMENT-via-then-told-gt-LATEST_MOMENT, then-told-gt-LATEST_MOMENT-via-else-told-gt-LATEST_MOMENT+then-not-fits}

pub returns-then-told-gt-LATEST_MOMENT-clause-refused : goal.returns-then-told-gt-LATEST_MOMENT-clause-refused
returns-then-told-gt-LATEST_MOMENT-clause-refused c =
    elim c.then-told-gt-LATEST_MOMENT.branch [
      | then-told-gt-LATEST_MOMENT-via-then-told-gt-LATEST_MOMENT w ↦ too_late c.args.game.now c.args.match_so_far.now c.args.told.now w.if-told-gt-LATEST_MOMENT.true
      | then-told-gt-LATEST_MOMENT-via-else-told-gt-LATEST_MOMENT+then-not-fits w ↦ unfit c.args.game.now c.args.match_so_far.now c.args.told.now (λ fits. true≢false (sym (w.fits.ensures.1 fits) ∙ w.if-not-fits.true))
    ]

pub returns-in-Move-clause-refused : goal.returns-in-Move-clause-refused
returns-in-Move-clause-refused c =
    same_refusal c.args.game.now c.args.match_so_far.now c.args.told.now _ c.make_move.result c.in-Move.is c.make_move.ensures.refused

pub returns-in-End-clause-refused : goal.returns-in-End-clause-refused
returns-in-End-clause-refused c =
    same_refusal c.args.game.now c.args.match_so_far.now c.args.told.now _ c.end.result c.in-End.is c.end.ensures.refused
