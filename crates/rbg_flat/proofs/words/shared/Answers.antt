use Rattle.std.proofs.lemmas.Nat.{and_le_l}
use Rattle.rbg_flat.proofs.Passings.{bit_of_both, bit_of_second}
use Rattle.rbg_flat.proofs.WordLemmas.{bit_of_first}
use Rattle.rbg_flat.proofs.words.shared.Goals as goal

pub returns-clause-only : goal.returns-clause-only
returns-clause-only c = λ b set. bit_of_first c.args.word c.args.other b set

pub returns-clause-both : goal.returns-clause-both
returns-clause-both c = λ b set. bit_of_second c.args.word c.args.other b set

pub returns-clause-all : goal.returns-clause-all
returns-clause-all c = λ b set other_set. bit_of_both c.args.word c.args.other b set other_set

pub returns-clause-few : goal.returns-clause-few
returns-clause-few c = and_le_l c.args.word c.args.other
