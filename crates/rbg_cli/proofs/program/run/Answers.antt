-- What is done is what the words ask for.
use Rattle.rbg_cli.proofs.program.run.Goals as goal

pub returns-in-Ok : goal.returns-in-Ok
returns-in-Ok g c = λ wish asks. c.obey.ensures wish (c.in-Ok.ensures wish asks)

pub returns-in-Err : goal.returns-in-Err
returns-in-Err g c = λ wish asks. absurd (c.in-Err.ensures wish asks)
