use Rattle.rbg_base.proofs.Common.{sym, refl, get_or_from_slice_get}
use Rattle.rbg_rules.specs.Meaning.{assignment, arithmetic_of}
use Rattle.rbg_state.proofs.Reading.{assigned_reads, compared_reads}
use Rattle.rbg_state.proofs.state.SemiState.act.Goals as goal

pub returns-in-Shift : goal.returns-in-Shift
returns-in-Shift c = rw c.in-Shift.is (λ a shown. rw shown (c.shift.ensures c.args.game.now (sym c.requires.board)))

pub returns-in-On : goal.returns-in-On
returns-in-On c = rw c.in-On.is (λ a shown. rw (shown, ← c.deref.ensures.value) (c.on.ensures c.args.game.now))

pub returns-in-Off : goal.returns-in-Off
returns-in-Off c = rw c.in-Off.is (λ a shown. rw shown (c.off.ensures c.args.game.now))

pub returns-in-Assign : goal.returns-in-Assign
returns-in-Assign c = rw c.in-Assign.is (λ a shown. rw shown (c.assign.ensures c.args.game.now (get_or_from_slice_get c.args.game.now.bounds c.in-Assign.variable c.bound.result 0 c.bound.ensures)))

pub returns-in-Compare : goal.returns-in-Compare
returns-in-Compare c = rw c.in-Compare.is (λ a shown. rw shown (c.compare_apart.ensures c.args.game.now))

pub returns-in-Switch : goal.returns-in-Switch
returns-in-Switch c = rw c.in-Switch.is (λ a shown. rw shown (c.switch.ensures c.args.game.now))

pub assign-requires-clause-reads : goal.assign-requires-clause-reads
assign-requires-clause-reads c = (assigned_reads c.args.game.now c.requires.lawful c.args.self.now.state c.requires.fits c.args.action.now c.requires.named c.in-Assign.variable (arithmetic_of c.in-Assign.value) (rw c.in-Assign.is refl)).1

pub assign-requires-clause-variable : goal.assign-requires-clause-variable
assign-requires-clause-variable c = (assigned_reads c.args.game.now c.requires.lawful c.args.self.now.state c.requires.fits c.args.action.now c.requires.named c.in-Assign.variable (arithmetic_of c.in-Assign.value) (rw c.in-Assign.is refl)).0

pub bound-requires : goal.bound-requires
bound-requires c = (c.requires.named (assignment c.in-Assign.variable (arithmetic_of c.in-Assign.value)) (rw c.in-Assign.is refl)).0

pub compare_apart-requires : goal.compare_apart-requires
compare_apart-requires c = compared_reads c.args.game.now c.requires.lawful c.args.self.now.state c.requires.fits c.args.action.now c.requires.named (arithmetic_of c.in-Compare.left) c.in-Compare.relation (arithmetic_of c.in-Compare.right) (rw c.in-Compare.is refl)
