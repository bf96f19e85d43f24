use Rattle.rbg_base.proofs.Common.{map, take, length-map}
use Rattle.rbg_script.specs.Events.{event_of}
use Rattle.rbg_referee.proofs.RefereedLemmas.{refereed_with, is_still_in_play}
use Rattle.rbg_referee.proofs.refereeing.go_on.Goals as goal

pub returns-in-Ok-clause-played : goal.returns-in-Ok-clause-played
returns-in-Ok-clause-played c = λ text config now opened.
    let (refereed, of_play, of_game) = refereed_with text config now (map event_of c.args.events.now) c.args.refereed.now c.handle_all.new.refereed c.args.outbox c.handle_all.new.outbox opened c.in-Ok.ensures.all in record {
      opened = c.args.refereed.now;
      greeted = c.args.outbox;
      opens = opened;
      steps = c.in-Ok.ensures.all;
      refereed = refereed;
      of_game = of_game;
      of_play = of_play;
      history = c.in-Ok.ensures.history c.requires.history;
    }

pub returns-in-Err-clause-stopped : goal.returns-in-Err-clause-stopped
returns-in-Err-clause-stopped c = λ text config now opened.
    let (within, state, steps, going) = c.in-Err.ensures.some in (
      rw (length-map c.args.events.now event_of) within,
      is_still_in_play text config now (take c.in-Err.done (map event_of c.args.events.now)) c.args.refereed.now state c.args.outbox c.handle_all.new.outbox opened steps going,
    )
