-- The proof of `laws::rules_have_words`.
use Rattle.rbg_rules.proofs.StateLemmas.{word_law}
use Rattle.rbg_rules.proofs.laws.rules_have_words.Goals as goal

pub returns : goal.returns
returns c = word_law
