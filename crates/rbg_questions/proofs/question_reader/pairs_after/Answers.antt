-- The pairs are what stands after the word.
use Rattle.rbg_questions.proofs.Reading.{none_read}
use Rattle.rbg_questions.proofs.question_reader.pairs_after.Goals as goal

pub returns-clause-none : goal.returns-clause-none
returns-clause-none c = none_read _ _ _ c.args.line.now _ c.in_ok-text.ensures.found c.read_pairs.ensures.only c.ok.ensures.value
