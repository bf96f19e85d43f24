-- The lemma is the law.
use Rattle.rbg_operations.proofs.LawLemmas.{right_is_good}
use Rattle.rbg_operations.proofs.laws.right_records_are_good.Goals as goal

pub returns : goal.returns
returns c = right_is_good c.texts_are_one_game.ensures c.good_lines_are_a_right_record.ensures c.one_judgement.ensures
