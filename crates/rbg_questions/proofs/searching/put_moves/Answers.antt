-- One more move, or matches after it aren't played.
use Rattle.std.proofs.Common.{arith}
use Rattle.rbg_base.proofs.Errors.{passed_on}
use Rattle.rbg_wire.proofs.Kept.{kept_after}
use Rattle.rbg_questions.proofs.Searched.{legal_lent, moves_end, moves_next, moves_none}
use Rattle.rbg_questions.proofs.searching.put_moves.Goals as goal

pub loop-pairs-init : goal.loop-pairs-init
loop-pairs-init c = moves_none _ _ _ _

pub put_one-requires-clause-legal : goal.put_one-requires-clause-legal
put_one-requires-clause-legal c =
    legal_lent _ _ (λ m. m.now) c.args.moves.now c.loop-pairs.pairs-index c.pairs-item.result c.requires.legal c.loop-pairs-test.true c.pairs-item.is

pub returns-in_err-put_one-clause-unsearched : goal.returns-in_err-put_one-clause-unsearched
returns-in_err-put_one-clause-unsearched c =
    passed_on c.from_residual.result c.in_err-put_one.field-0.0 _ c.from_residual.ensures.1 c.in_err-put_one.ensures.unsearched

pub returns-in_err-put_one-clause-kept : goal.returns-in_err-put_one-clause-kept
returns-in_err-put_one-clause-kept c = kept_after _ _ _ _ c.loop-pairs.invariant.told c.put_one.ensures.kept

pub loop-pairs-preserved : goal.loop-pairs-preserved
loop-pairs-preserved c =
    moves_next _ _ _ (λ m. m.now) c.args.moves.now c.loop-pairs.pairs-index c.pairs-item.result _ _ _ c.loop-pairs-test.true c.pairs-item.is c.loop-pairs.invariant c.in_ok-put_one.ensures.searched

pub returns-clause-searched : goal.returns-clause-searched
returns-clause-searched c = moves_end _ _ _ (λ m. m.now) c.args.moves.now c.loop-pairs.pairs-index _ _ (omega arith) c.loop-pairs.invariant
