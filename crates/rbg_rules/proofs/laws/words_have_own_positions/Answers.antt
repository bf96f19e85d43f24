-- The proof of `laws::words_have_own_positions`.
use Rattle.rbg_rules.proofs.LevelLemmas.{own_word_law}
use Rattle.rbg_rules.proofs.laws.words_have_own_positions.Goals as goal

pub returns : goal.returns
returns c = own_word_law
