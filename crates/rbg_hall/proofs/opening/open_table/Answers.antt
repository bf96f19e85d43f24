use Rattle.rbg_referee.proofs.CallerLemmas.{no_zero_in}
use Rattle.rbg_hall.proofs.opening.open_table.Goals as goal

pub new-requires-clause-no_zero : goal.new-requires-clause-no_zero
new-requires-clause-no_zero g c = no_zero_in c.args.table.text.items c.args.table.game c.requires.loaded
