-- The lemma is the law.
use Rattle.rbg_referee.proofs.WholeLemmas.{outboxes_whole}
use Rattle.rbg_referee.proofs.input_laws.outboxes_are_whole.Goals as goal

pub returns : goal.returns
returns c = outboxes_whole
