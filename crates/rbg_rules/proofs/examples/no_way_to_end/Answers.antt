-- The proof of `examples::no_way_to_end`.
use Rattle.rbg_rules.proofs.WithoutEnd.{no_switch_follows}
use Rattle.rbg_rules.proofs.examples.no_way_to_end.Goals as goal

pub returns : goal.returns
returns c = record { no_move = λ ps to legal. no_switch_follows legal.before legal.last legal.follows legal.switches }
