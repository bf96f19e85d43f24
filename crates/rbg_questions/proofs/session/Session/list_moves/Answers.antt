-- The moves are listed, or the question was given up, or there was no memory.
use Rattle.rbg_questions.proofs.Answering.{lists_legal}
use Rattle.rbg_questions.proofs.Counted.{few_in_order, listed_in_order}
use Rattle.rbg_questions.specs.Answering.{unlisted}
use Rattle.rbg_base.proofs.Errors.{passed_on}
use Rattle.rbg_questions.proofs.session.Session.list_moves.Goals as goal

pub returns-in_err-gathered-clause-refused : goal.returns-in_err-gathered-clause-refused
returns-in_err-gathered-clause-refused c =
    rw (← c.self.view_is) (passed_on c.from_residual.result c.in_err-gathered.field-0.0 _ c.from_residual.ensures.1 (unlisted (rw c.new-here.ensures at c.in_err-gathered.ensures.unlisted)))

pub write_in_order-requires : goal.write_in_order-requires
write_in_order-requires c = c.in_ok-gathered.ensures.gathered.different

pub returns-clause-answers : goal.returns-clause-answers
returns-clause-answers c =
    let written = c.in_ok-write_in_order.ensures.written in
    rw (← c.self.view_is)
    (lists_legal _ _ _ _ _ _ _ c.limit_of.ensures.asked c.limit_of.ensures.all (few_in_order _ _ written.is c.is_in_memory.ensures) (listed_in_order _ _ _ _ _ _ (rw c.new-here.ensures at c.in_ok-gathered.ensures.gathered) written.is) written.told)
