use Rattle.rbg_match.specs.Matches.{none}
use Rattle.rbg_referee.proofs.HandlingLemmas.{at_ok, at_err, at_err_not_ok, no_outcome, one_more_step, taken_whole, seats_kept}
use Rattle.rbg_referee.proofs.refereeing.handle_all.Goals as goal

pub loop-done-init : goal.loop-done-init
loop-done-init c = (none, c.requires.seats, c.requires.works, λ history. history)

pub returns-then-is_err-clause-some : goal.returns-then-is_err-clause-some
returns-then-is_err-clause-some c =
    let refused = at_err c.step.result c.is_err.result c.is_err.ensures.value c.if-is_err.true c.step.ensures.err in
    let not_ok = at_err_not_ok c.step.result c.is_err.result c.is_err.ensures.value c.if-is_err.true in
    let (steps, seats, works, _) = c.loop-done.invariant in (
      c.loop-done-test.true,
      c.loop-done.refereed,
      taken_whole c.args.events.now c.loop-done.done c.step.new.outbox steps refused.0,
      no_outcome c.loop-done.refereed.play.outcome (λ outcome is. not_ok (c.step.ensures.ended outcome is works)),
    )

pub loop-done-preserved : goal.loop-done-preserved
loop-done-preserved c =
    let step = at_ok c.step.result c.is_err.result c.is_err.ensures.value c.if-is_err.false c.step.ensures.ok in
    let keeps = at_ok c.step.result c.is_err.result c.is_err.ensures.value c.if-is_err.false c.step.ensures.history in
    let (steps, seats, works, kept) = c.loop-done.invariant in (
      one_more_step c.args.events.now c.loop-done.done _ c.loop-done-test.true steps step,
      seats_kept step seats,
      step.works,
      λ history. keeps (kept history),
    )
