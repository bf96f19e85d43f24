use Rattle.std.proofs.lemmas.Nat.Bits.{bit_at_ones}
use Rattle.rbg_flat.proofs.words.full_word.Goals as goal

pub returns : goal.returns
returns c = λ b small. bit_at_ones 64 b small
