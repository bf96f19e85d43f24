use Rattle.rbg_match.proofs.TickLemmas.{tick_after}
use Rattle.rbg_match.proofs.laws.tick_after_an_event_says_nothing.Goals as goal

pub returns : goal.returns
returns c = tick_after
