use Rattle.rbg_referee.proofs.CallerLemmas.{no_zero_in}
use Rattle.rbg_referee.proofs.refereeing.open.Goals as goal

pub new-requires : goal.new-requires
new-requires c = no_zero_in c.args.text.now c.in-Ok.game c.in-Ok.ensures.game

pub returns-in-Err-clause-refused : goal.returns-in-Err-clause-refused
returns-in-Err-clause-refused c = λ events. c.not_loaded.ensures c.args.text.now c.args.config c.args.now events c.in-Err.ensures.refused
