use Rattle.std.proofs.Common.{ap, ◌∙◌, sym, option_map}
use Rattle.rbg_wire.specs.Inboxes.{item_of}
use Rattle.rbg_hall.proofs.Pieces.{first_nothing, first_table, first_no_table}
use Rattle.rbg_hall.proofs.Requesting.{within_tables}
use Rattle.rbg_hall.proofs.hearing.take_first.Goals as goal

pub returns-in_default : goal.returns-in_default
returns-in_default c = first_nothing c.args.tables c.args.inbox.now c.take.follows.lender-at-none (ap (option_map item_of) (sym c.in_default.is) ∙ c.take.ensures.item) c.take.follows.holds-at-none

pub returns-in-Some-table_of : goal.returns-in-Some-table_of
returns-in-Some-table_of c = first_table c.args.tables c.in-Some-table_of.index c.args.inbox.now c.take.follows.lender-at-none (item_of c.in-Some.took) c.in-Some.ensures.item c.take.follows.holds-at-none c.in-Some-table_of.ensures (within_tables c.args.tables c.in-Some-table_of.index (item_of c.in-Some.took) (sym c.in-Some-table_of.ensures))

pub returns-in-None : goal.returns-in-None
returns-in-None c = first_no_table c.args.tables c.args.inbox.now c.take.follows.lender-at-none (item_of c.in-Some.took) c.in-Some.ensures.item c.take.follows.holds-at-none c.in-None.ensures
