use Rattle.std.proofs.Common.{◌≡◌, take}
use Rattle.rbg_match.proofs.Common.{delivered, greetings}
use Rattle.rbg_match.proofs.opening.greet.Given as goal

abbrev pub invariant-loop-index : goal.invariant-loop-index
invariant-loop-index l = l.outbox ≡ delivered l.initial.outbox (greetings l.text l.config (take l.index l.game.players))
