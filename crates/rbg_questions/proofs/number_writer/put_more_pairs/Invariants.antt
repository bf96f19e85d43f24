-- The text so far is that of the pairs so far.
use Rattle.std.proofs.Common.{◌≡◌, ◌++◌, take, codes, flat_map}
use Rattle.rbg_wire.specs.Messages.{pair_text}
use Rattle.rbg_questions.proofs.number_writer.put_more_pairs.Given as goal

abbrev pub invariant-loop-pair : goal.invariant-loop-pair
invariant-loop-pair l = l.out.items ≡ l.fn.out.items ++ flat_map (λ p. codes " " ++ pair_text p) (take l.pair-index l.pairs)
