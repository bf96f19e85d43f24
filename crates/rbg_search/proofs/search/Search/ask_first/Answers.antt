use Rattle.rbg_rules.specs.Meaning.{beginning, inside, pattern}
use Rattle.rbg_search.proofs.Along.{at_vertex}
use Rattle.rbg_search.proofs.Asks.{asked_before, asked_same, nothing_asked}
use Rattle.rbg_search.proofs.search.Search.ask_first.Goals as goal

pub returns-in_err-held-clause-asked : goal.returns-in_err-held-clause-asked
returns-in_err-held-clause-asked g c =
    nothing_asked c.args.self.now c.take_paths.new.self c.args.state.now pattern (at_vertex c.args.state.now.state c.args.vertex) (beginning (inside c.args.position)) c.args.self.now.modifiers c.from_residual.result c.in_err-held.field-0.0 c.take_paths.ensures.kept c.from_residual.ensures.1 c.in_err-held.ensures.memory

pub returns-clause-asked : goal.returns-clause-asked
returns-clause-asked g c = asked_same (asked_before c.take_paths.ensures.kept c.ask-answer.ensures.asked) c.keep_paths.new.self c.keep_paths.ensures
