-- The move goes on from the place that was reached.
use Rattle.std.proofs.Common.{drop}
use Rattle.rbg_rules.specs.Meaning.{AbstractPlace, Legal, IsPlaceOf}
use Rattle.rbg_state.specs.History.{IsAfter}
use Rattle.rbg_moves.specs.internal.Stepping.{IsMadeFrom}
use Rattle.rbg_moves.proofs.making.make_each.Given as goal

abbrev pub invariant-loop-pair : goal.invariant-loop-pair
invariant-loop-pair l = record {
  in_game : IsPlaceOf l.game (record { state = l.state.state; last = l.after });
  goes_on : (to : AbstractPlace) → Legal l.game (record { state = l.fn.state.state; last = l.fn.after }) l.pairs to → IsMadeFrom l.game (record { state = l.state.state; last = l.after }) (drop l.pair-index l.pairs) to;
  after : IsAfter l.fn.state l.state;
}
