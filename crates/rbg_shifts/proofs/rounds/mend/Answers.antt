use Rattle.rbg_shifts.proofs.Fillings.{rightly_none}
use Rattle.rbg_shifts.proofs.rounds.mend.Goals as goal

pub returns-then-is_closed-clause-fills : goal.returns-then-is_closed-clause-fills
returns-then-is_closed-clause-fills c = rightly_none c.args.ground.now c.args.lists.now c.args.table.now c.args.node c.requires.right.sound
