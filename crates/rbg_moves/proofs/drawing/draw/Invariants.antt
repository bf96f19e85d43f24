-- All is as it was, but for what is known of the tickets.
use Rattle.std.proofs.Common.{◌≡◌, ◌≤◌, [], All}
use Rattle.rbg_rules.specs.Meaning.{point_of}
use Rattle.rbg_moves.specs.internal.Drawing.{ComesNext}
use Rattle.rbg_moves.proofs.drawing.draw.Given as goal

abbrev pub invariant-loop : goal.invariant-loop
invariant-loop g l = record {
  search : l.search ≡ record l.fn.search { opened = l.search.opened; taken = l.search.taken };
  state : l.state ≡ record l.fn.state { room = l.state.room };
  enough : 2 ≤ l.state.room;
  front : l.front.items ≡ [];
  next : All (ComesNext l.fn.search.game l.fn.state.state (point_of l.fn.after)) l.draws.first.items;
}
