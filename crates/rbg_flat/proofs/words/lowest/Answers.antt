use Rattle.rbg_base.proofs.Common.{w64, bit_at-trailing_zeros}
use Rattle.rbg_flat.proofs.words.lowest.Goals as goal

pub returns-clause-set : goal.returns-clause-set
returns-clause-set c = (bit_at-trailing_zeros w64 c.args.word c.requires c.ranges.word.fits).1

pub returns-clause-small : goal.returns-clause-small
returns-clause-small c = (bit_at-trailing_zeros w64 c.args.word c.requires c.ranges.word.fits).0

pub returns-clause-below : goal.returns-clause-below
returns-clause-below c = (bit_at-trailing_zeros w64 c.args.word c.requires c.ranges.word.fits).2
