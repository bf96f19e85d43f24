-- What was read is answered.
use Rattle.rbg_hosting.proofs.cut.run_cut.Goals as goal

pub returns-in-Ok : goal.returns-in-Ok
returns-in-Ok g c = c.run_read.ensures (g.R.Read.remaining c.args.input.now) (g.R.Read.remaining c.read_input.new.reader) c.in-Ok.ensures
