use Rattle.rbg_state.specs.Trials.{at_vertex}
use Rattle.rbg_state.proofs.Trying.{named_here, tried, tried_plain, tried_pattern, leads_within}
use Rattle.rbg_state.proofs.state.SemiState.try_at.Goals as goal

pub try_action-requires-clause-named : goal.try_action-requires-clause-named
try_action-requires-clause-named c = named_here c.args.game.now c.board.ensures.lawful c.args.position c.action.result.now c.action.ensures

pub returns-clause-told : goal.returns-clause-told
returns-clause-told c = tried c.args.game.now c.board.ensures.lawful c.args.position c.action.result.now c.action.ensures (at_vertex c.args.self.now.state c.args.vertex) c.try_action.result c.try_action.ensures.told c.try_action.ensures.plain

pub returns-clause-plain : goal.returns-clause-plain
returns-clause-plain c = tried_plain c.args.game.now c.board.ensures.lawful c.args.position c.action.result.now c.action.ensures c.try_action.result c.try_action.ensures.plain

pub returns-clause-pattern : goal.returns-clause-pattern
returns-clause-pattern c = tried_pattern c.args.game.now c.board.ensures.lawful c.args.position c.action.result.now c.action.ensures c.try_action.result c.try_action.ensures.pattern

pub returns-clause-there : goal.returns-clause-there
returns-clause-there c =
    leads_within c.args.game.now c.board.ensures.lawful c.args.position c.args.self.now.state c.args.vertex c.requires.fits c.requires.vertex c.try_action.result
    (tried c.args.game.now c.board.ensures.lawful c.args.position c.action.result.now c.action.ensures (at_vertex c.args.self.now.state c.args.vertex) c.try_action.result c.try_action.ensures.told c.try_action.ensures.plain)
