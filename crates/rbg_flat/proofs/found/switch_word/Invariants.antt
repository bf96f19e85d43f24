-- What is known is the place of the least switch of the words so far.
use Rattle.std.proofs.Common.{◌<◌, take, length, IfSome}
use Rattle.rbg_flat.specs.internal.Bits.{pairs_in}
use Rattle.rbg_flat.proofs.FirstSwitches.{IsLeastSoFar, told}
use Rattle.rbg_flat.proofs.found.switch_word.Given as goal

abbrev pub invariant-loop-index : goal.invariant-loop-index
invariant-loop-index l = record {
  below : IfSome l.least (λ k. k < length l.words);
  known : IsLeastSoFar l.game.rules (pairs_in l.words) (take l.index l.words) (told l.words l.least);
}
