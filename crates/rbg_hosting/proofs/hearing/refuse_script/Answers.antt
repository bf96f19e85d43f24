-- The fault is the script's.
use Rattle.rbg_hall.specs.Openings.{starts_of}
use Rattle.rbg_hosting.specs.Tables.{texts_of}
use Rattle.rbg_hosting.proofs.HallLemmas.{script_not_heard}
use Rattle.rbg_hosting.proofs.TableLemmas.{games_in}
use Rattle.rbg_hosting.proofs.hearing.refuse_script.Goals as goal

pub returns-clause-refused : goal.returns-clause-refused
returns-clause-refused c =
    let texts = texts_of c.args.descriptions.now in
    script_not_heard texts (games_in _ texts (starts_of c.in_ok-tables_of.field-0.items) c.in_ok-tables_of.ensures.tables) c.args.error c.from.result c.from.ensures
