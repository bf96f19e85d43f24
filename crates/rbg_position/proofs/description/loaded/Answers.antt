-- The text is refused.
use Rattle.rbg_position.proofs.description.loaded.Goals as goal

pub returns-in-Err-clause-refused : goal.returns-in-Err-clause-refused
returns-in-Err-clause-refused c = λ game. c.refusal.ensures c.args.text.now game c.in-Err.ensures.refused
