-- The game is led on after the last line, or it can't be.
use Rattle.rbg_base.proofs.Common.{Err, ap, ◌∙◌, IfOk-weaker}
use Rattle.rbg_view.specs.declared.stop.Stop.TheVariants.{Heavy, Keeper}
use Rattle.rbg_view.specs.Following.StopsAfter.{keeper, heavy}
use Rattle.rbg_view.specs.internal.Standing.{TellsEnd, standing_of}
use Rattle.rbg_view.proofs.Lists.{end_settled, end_unsettled}
use Rattle.rbg_view.proofs.shown_moves.Showing.show_end.Goals as goal

pub returns-in_ok-write_end-in-Ok : goal.returns-in_ok-write_end-in-Ok
returns-in_ok-write_end-in-Ok c =
    end_settled (standing_of c.args.self.now) c.settle.new.self.play c.write_end.new.self c.in-Ok.goes_on c.outcome_of-outcome.result
    c.in-Ok.ensures.settles c.outcome_of-outcome.ensures c.write_end.ensures.play c.in_ok-write_end-in-Ok.ensures.told

pub returns-in-Err-Heavy : goal.returns-in-Err-Heavy
returns-in-Err-Heavy c =
    IfOk-weaker c.end_unsettled.result _ (TellsEnd (standing_of c.args.self.now) c.end_unsettled.new.self)
    (λ limit told. end_unsettled (standing_of c.args.self.now) c.settle.new.self.play c.end_unsettled.new.self Heavy c.outcome_of-outcome.result
    (heavy (c.settle.ensures.heavy (c.in-Err-Heavy.is ∙ ap Err c.in-Err-Heavy.field-0-is))) c.outcome_of-outcome.ensures c.end_unsettled.ensures.play limit told)
    c.end_unsettled.ensures.told

pub returns-in-Err-Endless : goal.returns-in-Err-Endless
returns-in-Err-Endless c =
    IfOk-weaker c.end_unsettled-in-Err-Endless.result _ (TellsEnd (standing_of c.args.self.now) c.end_unsettled-in-Err-Endless.new.self)
    (λ limit told. end_unsettled (standing_of c.args.self.now) c.settle.new.self.play c.end_unsettled-in-Err-Endless.new.self Keeper c.outcome_of-outcome.result
    (keeper (c.settle.ensures.endless (c.in-Err-Endless.is ∙ ap Err c.in-Err-Endless.field-0-is))) c.outcome_of-outcome.ensures c.end_unsettled-in-Err-Endless.ensures.play limit told)
    c.end_unsettled-in-Err-Endless.ensures.told
