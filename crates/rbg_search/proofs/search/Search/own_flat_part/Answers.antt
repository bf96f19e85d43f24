use Rattle.std.proofs.Common.{sym, subst}
use Rattle.rbg_search.specs.Searching.{Searching}
use Rattle.rbg_search.specs.internal.Held.{HoldsPathsOf}
use Rattle.rbg_search.proofs.Along.{start_of}
use Rattle.rbg_search.proofs.Asks.{asked_before, asked_same, nothing_asked}
use Rattle.rbg_rules.specs.Meaning.{reach}
use Rattle.rbg_search.proofs.search.Search.own_flat_part.Goals as goal

pub flat_part-answer-requires-clause-paths : goal.flat_part-answer-requires-clause-paths
flat_part-answer-requires-clause-paths g c = c.get.ensures c.take_paths.new.self.game (subst (λ (h : Searching). HoldsPathsOf h.game c.in_ok-held.held) (sym c.take_paths.ensures.kept) c.in_ok-held.ensures.paths)

pub returns-in_err-held-clause-asked : goal.returns-in_err-held-clause-asked
returns-in_err-held-clause-asked g c =
    nothing_asked c.args.self.now c.take_paths.new.self c.args.state.now reach c.args.state.now.state (start_of c.args.origin) c.args.self.now.modifiers c.from_residual.result c.in_err-held.field-0.0 c.take_paths.ensures.kept c.from_residual.ensures.1 c.in_err-held.ensures.memory

pub returns-clause-asked : goal.returns-clause-asked
returns-clause-asked g c = asked_same (asked_before c.take_paths.ensures.kept c.flat_part-answer.ensures.asked) c.keep_paths.new.self c.keep_paths.ensures
