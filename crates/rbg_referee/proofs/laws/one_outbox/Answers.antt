use Rattle.rbg_referee.proofs.OneOutboxLemmas.{outbox_of_one}
use Rattle.rbg_referee.proofs.laws.one_outbox.Goals as goal

pub returns : goal.returns
returns c = outbox_of_one
