-- The proof of `packing::compact`.
use Rattle.rbg_auto.specs.internal.Compacts.{IsCompactOf}
use Rattle.rbg_auto.proofs.PreparedLemmas.{prepared_lends}
use Rattle.rbg_auto.proofs.packing.compact.Goals as goal

pub returns : goal.returns
returns c =
    let told = c.set_glances.new.automaton in
    let is : IsCompactOf told c.args.game.now.rules = c.set_glances.ensures in
    record {
      steps = is.steps;
      told = is.told;
      has = is.has;
      lends = λ steps some. prepared_lends told c.args.game.now.rules is c.in_ok-prepare.field-0 steps c.in_ok-prepare.ensures some;
    }
