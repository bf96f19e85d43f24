-- A text is the decimal form of one number at most.
use Rattle.std.proofs.Common.{refl}
use Rattle.rbg_base.proofs.CallerLemmas.{number_only}
use Rattle.rbg_wire.proofs.number_reader.read_number.Goals as goal

pub returns-clause-only : goal.returns-clause-only
returns-clause-only c n small spelled = rw (c.ok_or.ensures.value, number_only _ _ c.number_of_decimal.ensures.found c.number_of_decimal.ensures.none n small spelled) refl
