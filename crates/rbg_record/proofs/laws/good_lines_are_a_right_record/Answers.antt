use Rattle.rbg_record.proofs.Deciding.{good_by_lines}
use Rattle.rbg_record.proofs.laws.good_lines_are_a_right_record.Goals as goal

pub returns : goal.returns
returns c = good_by_lines
