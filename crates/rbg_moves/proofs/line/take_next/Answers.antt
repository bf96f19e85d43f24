use Rattle.rbg_search.proofs.Asking.{no_modifier}
use Rattle.rbg_moves.proofs.Steps.{modifier_position}
use Rattle.rbg_moves.proofs.line.take_next.Goals as goal

pub apply-requires-clause-from_one : goal.apply-requires-clause-from_one
apply-requires-clause-from_one c = (modifier_position c.args.game.now c.requires.lawful.numbered c.args.position c.requires.modifies).from_one

pub apply-requires-clause-there : goal.apply-requires-clause-there
apply-requires-clause-there c = (modifier_position c.args.game.now c.requires.lawful.numbered c.args.position c.requires.modifies).there

pub apply-requires-clause-no_pattern : goal.apply-requires-clause-no_pattern
apply-requires-clause-no_pattern c = λ pattern. no_modifier c.args.game.now.rules c.requires.lawful.numbered c.args.position pattern c.requires.modifies
