-- The moves aren't listed, or the matches after them are told or not played.
use Rattle.std.proofs.Common.{arith}
use Rattle.rbg_base.proofs.Errors.{passed_on}
use Rattle.rbg_questions.proofs.Searched.{gathered_all, unlisted_search}
use Rattle.rbg_questions.proofs.searching.write_search.Goals as goal

pub returns-in_err-gathered-clause-unsearched : goal.returns-in_err-gathered-clause-unsearched
returns-in_err-gathered-clause-unsearched c =
    passed_on c.from_residual.result c.in_err-gathered.field-0.0 _ c.from_residual.ensures.1 (unlisted_search _ _ _ c.in_err-gathered.ensures.unlisted)

pub put_search-written-requires-clause-moves : goal.put_search-written-requires-clause-moves
put_search-written-requires-clause-moves c = gathered_all _ _ _ _ _ c.in_ok-gathered.ensures.gathered c.is_in_memory.ensures (omega arith)
