use Rattle.std.proofs.Common.{rules}
use Rattle.rbg_rules.proofs.StateLemmas.{state_law}
use Rattle.rbg_state.proofs.parts.StateParts.start.Goals as goal

pub returns-clause-start : goal.returns-clause-start
returns-clause-start c = search rules

pub returns-clause-fits : goal.returns-clause-fits
returns-clause-fits c = rw (returns-clause-start c) ((state_law c.args.game.now c.board.ensures.lawful).0)
