-- The lemma is the law.
use Rattle.rbg_operations.proofs.LawLemmas.{answers_apart}
use Rattle.rbg_operations.proofs.laws.task_answers_are_apart.Goals as goal

pub returns : goal.returns
returns c = answers_apart c.texts_are_one_game.ensures (record {
  judge = c.one_judgement.ensures;
  lines = c.good_lines_are_a_right_record.ensures;
  plain = c.one_fault_of_version_1.ensures;
  scripts = c.scripts_are_apart.ensures;
})
