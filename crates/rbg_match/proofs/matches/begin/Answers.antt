-- The referee is in the match, and its outbox is the caller's.
use Rattle.std.proofs.Common.{◌≡◌, ◌∙◌, ap, refl, rules, length}
use Rattle.std.proofs.lemmas.List.{length-replicate}
use Rattle.std.proofs.lemmas.List.Elements.{All-replicate}
use Rattle.rbg_match.specs.internal.Inboxes.{IsReady}
use Rattle.rbg_match.proofs.Common.{seats_of, RefereeState}
use Rattle.rbg_match.proofs.OpeningLemmas.{begun_so}
use Rattle.rbg_match.proofs.matches.begin.Goals as goal

pub returns-clause-state : goal.returns-clause-state
returns-clause-state c =
    let many : length c.args.referee.outbox ≡ seats_of c.args.referee.game = search rules in
    begun_so c.args.referee c.exchange.new.self _ _ c.in_ok-inboxes.inboxes.items _ c.exchange.ensures.own (ap (λ (one : RefereeState). one.moment) c.referee-2.view_is) (rw (← c.referee.view_is) c.seats-seats.ensures) many c.in_ok-inboxes.ensures

pub invariant_of-opened : goal.invariant_of-opened
invariant_of-opened c =
    let inboxes = c.in_ok-inboxes.ensures in
    let many : length c.args.referee.outbox ≡ seats_of c.args.referee.game = search rules in
    rw c.exchange.ensures.own (record {
      seats = ap length inboxes ∙ length-replicate _ _ ∙ rw (← c.referee.view_is) c.seats-seats.ensures ∙ many;
      ready = λ _. rw inboxes (All-replicate IsReady _ _ (record { limit = refl; empty = refl }));
    })
