use Rattle.rbg_referee.proofs.CallerLemmas.{no_zero_in}
use Rattle.rbg_refusals.proofs.opening.new_match.Goals as goal

pub new-requires : goal.new-requires
new-requires c = no_zero_in c.args.text.now c.in_ok-game.game c.in_ok-game.ensures.game
