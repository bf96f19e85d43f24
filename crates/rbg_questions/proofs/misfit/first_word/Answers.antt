-- The first word ends at the first space, or is the whole line.
use Rattle.std.proofs.Common.{sym, ap, ◌∙◌}
use Rattle.rbg_questions.specs.Misfits.{first_word}
use Rattle.rbg_questions.proofs.Misfits.{first_word_cut, first_word_whole}
use Rattle.rbg_questions.proofs.misfit.first_word.Goals as goal

pub returns-in-Some : goal.returns-in-Some
returns-in-Some c = sym (ap first_word c.in-Some.ensures.found.0 ∙ first_word_cut _ _ c.in-Some.ensures.found.1)

pub returns-in-None : goal.returns-in-None
returns-in-None c = sym (first_word_whole _ c.in-None.ensures.none)
