use Rattle.rbg_base.proofs.Common.{sym, ◌∙◌, refl, ap, get_or_from_slice_get}
use Rattle.rbg_board.specs.Graph.{Graph, next}
use Rattle.rbg_rules.specs.Meaning.{assignment, arithmetic_of}
use Rattle.rbg_state.proofs.Reading.{assigned_reads, compared_reads}
use Rattle.rbg_state.specs.Trials.{at_vertex}
use Rattle.rbg_state.proofs.state.SemiState.try_action.Goals as goal

pub returns-in-Shift-clause-told : goal.returns-in-Shift-clause-told
returns-in-Shift-clause-told c = rw c.in-Shift.is (λ a shown. rw shown (c.try_shift.ensures c.args.game.now (at_vertex c.args.self.now.state c.args.vertex) c.in-Shift.direction (sym (c.step.ensures.next ∙ ap (λ (g : Graph). next g c.args.vertex c.in-Shift.direction) c.requires.board))))

pub returns-in-On-clause-told : goal.returns-in-On-clause-told
returns-in-On-clause-told c = rw c.in-On.is (λ a shown. rw (shown, ← c.deref.ensures.value) (c.try_on.ensures c.args.game.now))

pub returns-in-Compare-clause-told : goal.returns-in-Compare-clause-told
returns-in-Compare-clause-told c = rw c.in-Compare.is (λ a shown. rw shown (c.try_compare.ensures c.args.game.now))

pub returns-in-Assign-clause-told : goal.returns-in-Assign-clause-told
returns-in-Assign-clause-told c = rw c.in-Assign.is (λ a shown. rw shown (c.try_assign.ensures c.args.game.now c.in-Assign.variable c.args.vertex (get_or_from_slice_get c.args.game.now.bounds c.in-Assign.variable c.bound.result 0 c.bound.ensures)))

pub returns-in-Off-clause-told : goal.returns-in-Off-clause-told
returns-in-Off-clause-told c = rw c.in-Off.is (λ a shown. rw shown (refl, (_, refl)))

pub returns-in-Switch-clause-told : goal.returns-in-Switch-clause-told
returns-in-Switch-clause-told c = rw c.in-Switch.is (λ a shown. rw shown (refl, (_, refl)))

pub try_assign-requires : goal.try_assign-requires
try_assign-requires c = (assigned_reads c.args.game.now c.requires.lawful c.args.self.now.state c.requires.fits c.args.action.now c.requires.named c.in-Assign.variable (arithmetic_of c.in-Assign.value) (rw c.in-Assign.is refl)).1

pub bound-requires : goal.bound-requires
bound-requires c = (c.requires.named (assignment c.in-Assign.variable (arithmetic_of c.in-Assign.value)) (rw c.in-Assign.is refl)).0

pub try_compare-requires : goal.try_compare-requires
try_compare-requires c = compared_reads c.args.game.now c.requires.lawful c.args.self.now.state c.requires.fits c.args.action.now c.requires.named (arithmetic_of c.in-Compare.left) c.in-Compare.relation (arithmetic_of c.in-Compare.right) (rw c.in-Compare.is refl)
