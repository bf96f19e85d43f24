use Rattle.rbg_grammar.specs.Views.{name_of}
use Rattle.rbg_game.proofs.LookUps.{unknown_alone}
use Rattle.rbg_game.proofs.name_table.NameTable.find.Goals as goal

pub returns-in-None-clause-fault : goal.returns-in-None-clause-fault
returns-in-None-clause-fault c = unknown_alone c.args.self.now (name_of c.args.name.now) c.in-None.ensures
