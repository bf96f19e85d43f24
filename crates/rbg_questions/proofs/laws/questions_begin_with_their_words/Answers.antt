use Rattle.rbg_questions.proofs.Misfits.{known_word}
use Rattle.rbg_questions.proofs.laws.questions_begin_with_their_words.Goals as goal

pub returns : goal.returns
returns c = known_word
