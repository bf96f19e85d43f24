use Rattle.rbg_match.proofs.TickLemmas.{tick_at_start}
use Rattle.rbg_match.proofs.laws.tick_at_the_start_says_nothing.Goals as goal

pub returns : goal.returns
returns c = tick_at_start
