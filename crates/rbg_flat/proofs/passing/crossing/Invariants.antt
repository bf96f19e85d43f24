-- What is left and what passed are bits of the word; of those that aren't left it is told whether they passed.
use Rattle.rbg_base.proofs.Common.{◌≡◌, ℕ, ◌+◌, ◌*◌, ◌<◌, ◌↔◌, bit_at}
use Rattle.rbg_flat.specs.Chains.{Holds}
use Rattle.rbg_flat.proofs.passing.crossing.Given as goal

abbrev pub invariant-loop-rest : goal.invariant-loop-rest
invariant-loop-rest l = record {
  rest_in : (b : ℕ) → bit_at l.rest b ≡ 1 → bit_at l.word.bits b ≡ 1;
  passed_in : (b : ℕ) → bit_at l.passed b ≡ 1 → bit_at l.word.bits b ≡ 1;
  still : (b : ℕ) → bit_at l.rest b ≡ 1 → bit_at l.passed b ≡ 1;
  told :
      (b : ℕ) → b < 64 → bit_at l.word.bits b ≡ 1 → bit_at l.rest b ≡ 0 →
      (bit_at l.passed b ≡ 1) ↔ Holds l.game l.state.state (l.word.column * 64 + b) l.word.position;
}

abbrev pub decreases-loop-rest : goal.decreases-loop-rest
decreases-loop-rest l = l.rest
