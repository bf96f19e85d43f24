use Rattle.std.proofs.Common.{List, subst}
use Rattle.std.proofs.lemmas.List.{take_all}
use Rattle.rbg_shifts.specs.declared.target.Target.{Target}
use Rattle.rbg_flat.proofs.Common.{IsToTryIn, Meets, IsAmong}
use Rattle.rbg_flat.proofs.Leadings.{meets_target_more}
use Rattle.rbg_flat.proofs.leading.meet_all.Goals as goal

pub meet_target-requires-clause-target : goal.meet_target-requires-clause-target
meet_target-requires-clause-target c = c.requires.targets c.loop-target.target-index (record { position = 0; column = 0; word = 0 }) c.loop-target-test.true

pub loop-target-preserved : goal.loop-target-preserved
loop-target-preserved c =
    meets_target_more c.args.targets.now c.loop-target.target-index (record { position = 0; column = 0; word = 0 }) c.loop-target-test.true
    c.args.sets.now c.loop-target.sets c.meet_target.new.sets (IsToTryIn c.args.setting.now) c.loop-target.invariant c.meet_target.ensures

pub returns : goal.returns
returns c =
    subst (λ (ts : List Target). Meets c.args.sets.now c.loop-target.sets (IsAmong ts) (IsToTryIn c.args.setting.now))
    (take_all c.loop-target.target-index c.args.targets.now c.loop-target-test.false) c.loop-target.invariant
