-- The tally at the index has one match more.
use Rattle.std.proofs.Common.{refl}
use Rattle.rbg_questions.proofs.Tallies.{counts_at}
use Rattle.rbg_questions.proofs.tally.count_one.Goals as goal

pub returns : goal.returns
returns c = λ scores at. counts_at c.args.tallies.now c.args.index c.args.moves _ _ _ scores _ at refl
