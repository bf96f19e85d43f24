use Rattle.rbg_base.proofs.Common.{refl, false≢true}
use Rattle.rbg_player.specs.declared.error.PlayerError.TheVariants.{Memory}
use Rattle.rbg_player.specs.Hearing.{no_player, memory}
use Rattle.rbg_base.proofs.Errors.{passed_on}
use Rattle.rbg_player.proofs.HearingLemmas.{sits}
use Rattle.rbg_player.proofs.seat.Seat.new.Goals as goal

pub returns-then-not-has_player-clause-fault : goal.returns-then-not-has_player-clause-fault
returns-then-not-has_player-clause-fault c = no_player c.in_ok-game.ensures.game (λ is. false≢true (c.if-not-has_player.ensures.1 is))

pub returns-in_err-place-clause-fault : goal.returns-in_err-place-clause-fault
returns-in_err-place-clause-fault c = passed_on c.from_residual-in_err-place.result Memory _ c.from_residual-in_err-place.ensures.1 memory

pub returns-clause-sits : goal.returns-clause-sits
returns-clause-sits c = sits c.args.player c.args.text.now c.in_ok-game.game c.in_ok-place.place c.in_ok-game.ensures.game (c.if-not-has_player.ensures.0 refl) c.in_ok-place.ensures.start
