use Rattle.std.proofs.Common.{length, take, ap, sym, arith}
use Rattle.rbg_match.specs.Transcript.{greetings}
use Rattle.rbg_match.proofs.Delivering.{delivered-none, length-delivered}
use Rattle.rbg_match.proofs.Sayings.{said_more, said_refused}
use Rattle.rbg_match.proofs.Greeting.{greetings_more, name_at}
use Rattle.rbg_match.proofs.opening.greet.Goals as goal

pub loop-index-init : goal.loop-index-init
loop-index-init c = sym (delivered-none _)

pub greet_seat-requires-clause-most : goal.greet_seat-requires-clause-most
greet_seat-requires-clause-most c = omega (arith, ap length c.loop-index.invariant, length-delivered c.args.outbox.now (greetings c.args.text.now c.args.config (take c.loop-index.index c.args.game.now.players)))

pub greet_seat-requires-clause-name : goal.greet_seat-requires-clause-name
greet_seat-requires-clause-name c = name_at c.args.game.now.players c.requires.names c.loop-index.index c.player_name-name.result.now c.player_name-name.ensures

pub returns-in_err-greet_seat : goal.returns-in_err-greet_seat
returns-in_err-greet_seat c = said_refused _ c.loop-index.invariant c.greet_seat.ensures c.from_residual.result c.from_residual.ensures.0 _

pub loop-index-preserved : goal.loop-index-preserved
loop-index-preserved c =
    let told = c.in_ok-greet_seat.ensures in
    rw (greetings_more c.args.text.now c.args.config c.args.game.now.players c.loop-index.index c.player_name-name.result.now c.player_name-name.ensures) (said_more _ _ _ c.loop-index.invariant (rw (← told.whole) told.beyond))
