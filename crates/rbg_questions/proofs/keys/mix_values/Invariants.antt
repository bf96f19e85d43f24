-- The key after the numbers so far.
use Rattle.std.proofs.Common.{◌≡◌, take}
use Rattle.rbg_questions.specs.Keys.{mixed_all}
use Rattle.rbg_questions.proofs.keys.mix_values.Given as goal

abbrev pub invariant-loop-value : goal.invariant-loop-value
invariant-loop-value l = l.key ≡ mixed_all l.fn.first (take l.value-index l.values)
