-- The moves are taken in their order, or there was no memory.
use Rattle.std.proofs.Common.{◌∙◌}
use Rattle.rbg_base.proofs.Errors.{passed_on}
use Rattle.rbg_wire.proofs.Kept.{kept_after}
use Rattle.rbg_questions.specs.declared.question_error.QuestionError.TheVariants.{Memory}
use Rattle.rbg_questions.proofs.Searched.{kept_same, lent_legal, search_memory, writes_search}
use Rattle.rbg_questions.proofs.searching.put_search.Goals as goal

pub in_order-requires : goal.in_order-requires
in_order-requires c = c.requires.moves.different

pub put_moves-requires-clause-legal : goal.put_moves-requires-clause-legal
put_moves-requires-clause-legal c =
    rw c.as_slice.ensures.value (lent_legal _ _ _ (λ m. m.now) _ c.requires.moves c.in_ok-ordered.ensures)

pub returns-in_err-ordered-clause-unsearched : goal.returns-in_err-ordered-clause-unsearched
returns-in_err-ordered-clause-unsearched c = passed_on c.from_residual.result Memory _ c.from_residual.ensures.1 (search_memory _ _)

pub returns-in_err-ordered-clause-kept : goal.returns-in_err-ordered-clause-kept
returns-in_err-ordered-clause-kept c = kept_same c.args.out.now.items

pub returns-in_err-put_head-clause-unsearched : goal.returns-in_err-put_head-clause-unsearched
returns-in_err-put_head-clause-unsearched c =
    passed_on c.from_residual-in_err-put_head.result Memory _ c.from_residual-in_err-put_head.ensures.1 (search_memory _ _)

pub returns-clause-searched : goal.returns-clause-searched
returns-clause-searched c =
    writes_search _ _ _ _ (λ m. m.now) _ _ _ _ _ _ c.requires.moves c.in_ok-ordered.ensures (c.len.ensures ∙ c.in_ok-ordered.ordered.ok.0) c.in_ok-put_head.ensures.written (rw c.as_slice.ensures.value at c.put_moves.ensures.searched)

pub returns-clause-kept : goal.returns-clause-kept
returns-clause-kept c = kept_after _ _ _ _ c.in_ok-put_head.ensures.written c.put_moves.ensures.kept
