-- The vertices that aren't left were asked.
use Rattle.rbg_base.proofs.Common.{◌≡◌, ℕ, ◌/◌, bit_at}
use Rattle.rbg_search.specs.internal.DeadWords.{AsksDead}
use Rattle.rbg_search.proofs.search.Search.ask_dead.Given as goal

abbrev pub invariant-loop-rest : goal.invariant-loop-rest
invariant-loop-rest g l = record {
  kept : l.self ≡ record l.fn.self { opened = l.self.opened; taken = l.self.taken };
  rest_in : (b : ℕ) → bit_at l.rest b ≡ 1 → bit_at l.word b ≡ 1;
  asked_in : (b : ℕ) → bit_at l.asked b ≡ 1 → bit_at l.word b ≡ 1;
  apart : (b : ℕ) → bit_at l.rest b ≡ 1 → ¬ (bit_at l.asked b ≡ 1);
  held_in : (b : ℕ) → bit_at l.held b ≡ 1 → bit_at l.asked b ≡ 1;
  asks : AsksDead l.fn.self l.self l.state l.position (l.vertex / 64) l.asked l.held;
}

abbrev pub decreases-loop-rest : goal.decreases-loop-rest
decreases-loop-rest g l = l.rest
