-- The fault is the script's.
use Rattle.rbg_referee.proofs.ErrorLemmas.{script_is_no_match}
use Rattle.rbg_referee.proofs.printed_match.refuse_script.Goals as goal

pub returns-clause-refused : goal.returns-clause-refused
returns-clause-refused c =
    script_is_no_match c.args.description.now c.in_ok-load.field-0 c.in_ok-load.ensures.game c.args.error c.from.result c.from.ensures
