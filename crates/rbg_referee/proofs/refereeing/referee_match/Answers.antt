use Rattle.rbg_base.proofs.Common.{map, err_from_is_err_and}
use Rattle.rbg_script.specs.Events.{event_of}
use Rattle.rbg_match.proofs.WholeMatch.{seats_of_opened}
use Rattle.rbg_referee.proofs.RefereedLemmas.{refused_by}
use Rattle.rbg_referee.proofs.refereeing.referee_match.Goals as goal

pub returns-in_err-refereed-clause-refused : goal.returns-in_err-refereed-clause-refused
returns-in_err-refereed-clause-refused c =
    let refused = err_from_is_err_and c.from_residual.result c.from_residual.ensures.1 in
    rw (refused.1, refused.2) (c.in_err-refereed.ensures.refused (map event_of c.args.events.now))

pub go_on-requires-clause-seats : goal.go_on-requires-clause-seats
go_on-requires-clause-seats c =
    let opened = c.in_ok-refereed.ensures.opens in
    seats_of_opened opened.game c.args.text.now c.args.config c.args.now c.in_ok-refereed.refereed c.in_ok-refereed.outbox opened.opens

pub returns-in_err-outbox-clause-refused : goal.returns-in_err-outbox-clause-refused
returns-in_err-outbox-clause-refused c =
    let refused = err_from_is_err_and c.from_residual-in_err-outbox.result c.from_residual-in_err-outbox.ensures.1 in
    rw (refused.1, refused.2)
    (refused_by c.args.text.now c.args.config c.args.now (map event_of c.args.events.now) _ (c.in_err-outbox.ensures.stopped c.args.text.now c.args.config c.args.now c.in_ok-refereed.ensures.opens))
