use Rattle.std.proofs.Common.{rules, ◌≤◌, length, ap, ◌∙◌, sym}
use Rattle.rbg_match.proofs.Sayings.{length-says}
use Rattle.rbg_match.proofs.Stepping.{steps_after_end}
use Rattle.rbg_match.proofs.Histories.{event_keeps, on_ok}
use Rattle.rbg_match.proofs.HandlingLemmas.{is_not_there}
use Rattle.rbg_match.specs.Arrivals.{arrival_of}
use Rattle.rbg_match.proofs.matches.Match.receive.Goals as goal

pub returns-then-has_ended-clause-ok : goal.returns-then-has_ended-clause-ok
returns-then-has_ended-clause-ok c = rw (← c.self.view_is) (steps_after_end _ (arrival_of c.args.arrival) c.args.outbox.now c.if-self.false (sym c.has_ended.ensures ∙ c.if-has_ended.true))

pub returns-else-is_err-clause-seats : goal.returns-else-is_err-clause-seats
returns-else-is_err-clause-seats c = length-says c.step-handled.ensures.says

pub returns-else-is_err-clause-history : goal.returns-else-is_err-clause-history
returns-else-is_err-clause-history c =
    let handled = c.step-handled in
    let before : c.self.inside.referee.moment ≤ handled.new.self.moment = search rules in
    let going = is_not_there c.self.inside.referee.play.outcome (sym c.has_ended.ensures ∙ c.if-has_ended.false) in
    rw (← c.self.view_is, handled.ensures.game, handled.ensures.config)
    (on_ok handled.result handled.ensures.says.whole
    (λ handles has. event_keeps _ _ _ _ c.deref_mut.result.now c.self.inside.began c.self.inside.referee.moment handled.new.self.moment (arrival_of c.args.arrival) handled.ensures.says.outgoing before handled.ensures.latest (ap length c.deref_mut.ensures.value ∙ c.self.invariant.seats) going has handles))
