-- The first word ends at the first space, or with the text.
use Rattle.std.proofs.Common.{ap, ◌∙◌}
use Rattle.rbg_wire.specs.Words.{words_of}
use Rattle.rbg_wire.proofs.WordLemmas.{words_none, words_after}
use Rattle.rbg_wire.proofs.words.cut_at_space.Goals as goal

pub returns-in_err-word-clause-none : goal.returns-in_err-word-clause-none
returns-in_err-word-clause-none c = rw c.from_residual.ensures (words_none _ c.in_err-word.ensures.none)

pub returns-clause-found : goal.returns-clause-found
returns-clause-found c =
    let parts = c.in_ok-word.ensures.found in
    (ap words_of parts.0 ∙ words_after _ _ parts.1, parts.0)
