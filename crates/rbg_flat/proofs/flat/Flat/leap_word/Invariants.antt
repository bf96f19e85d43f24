-- From the vertices that aren't left all is led on.
use Rattle.rbg_base.proofs.Common.{◌≡◌, ℕ, bit_at}
use Rattle.rbg_flat.proofs.Common.{leaping, LeadsPast, EndsPast, LeadsOn}
use Rattle.rbg_flat.proofs.flat.Flat.leap_word.Given as goal

abbrev pub invariant-loop-rest : goal.invariant-loop-rest
invariant-loop-rest l = record {
  rest_in : (b : ℕ) → bit_at l.rest b ≡ 1 → bit_at l.word.bits b ≡ 1;
  led : LeadsOn l.setting l.fn.self l.self (LeadsPast leaping l.setting.game.now l.word.position l.word.column l.word.bits l.rest) (EndsPast leaping l.setting.game.now l.word.position l.word.column l.word.bits l.rest);
}

abbrev pub decreases-loop-rest : goal.decreases-loop-rest
decreases-loop-rest l = l.rest
