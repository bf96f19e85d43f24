-- What is found among the words grants the wish; where nothing is found, no wish is asked for.
use Rattle.std.proofs.Common.{◌≡◌, Some, None}
use Rattle.rbg_cli.proofs.program.read.Goals as goal

pub returns-in-Some : goal.returns-in-Some
returns-in-Some c = λ wish asks. c.in-Some.ensures wish asks

pub returns-in-None : goal.returns-in-None
returns-in-None c = λ wish asks. absurd (let no : None ≡ Some wish = c.in-None.ensures wish asks in cc)
