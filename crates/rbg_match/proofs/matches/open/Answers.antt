-- The match plays on from the start.
use Rattle.rbg_match.proofs.OpeningLemmas.{opens_so}
use Rattle.rbg_match.proofs.matches.open.Goals as goal

pub returns : goal.returns
returns c = λ now moment.
    let goes = c.in_ok-play_on.ensures in
    opens_so c.args.game c.args.text.now c.args.config now c.args.moment c.in_ok-referee.referee c.play_on.new.self goes.after goes.outgoing c.in_ok-opened.opened.0 c.in_ok-opened.opened.1 c.requires.lawful moment c.in_ok-referee.ensures goes.becomes goes.whole c.in_ok-opened.ensures.state c.in_ok-opened.ensures.outbox
