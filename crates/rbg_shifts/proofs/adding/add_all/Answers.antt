use Rattle.std.proofs.Common.{◌≡◌, ◌<◌, ◌∙◌, ℕ, List, length, subst, arith}
use Rattle.rbg_shifts.proofs.Common.{Target, no_target, target_at, AddsTarget}
use Rattle.rbg_shifts.proofs.Places.{any_default}
use Rattle.rbg_shifts.proofs.Targets.{adds_none, adds_one, adds_all}
use Rattle.rbg_shifts.proofs.adding.add_all.Goals as goal

pub loop-index-init : goal.loop-index-init
loop-index-init c = adds_none c.args.start c.args.targets.now.items c.args.from c.args.to c.args.from (omega arith)

pub loop-index-preserved : goal.loop-index-preserved
loop-index-preserved c =
    let ts : List Target = c.loop-index.targets.items in
    let k : ℕ = c.loop-index.index in
    let there : k < length ts = let size = c.loop-index.invariant.keeps.size in let start = c.requires.start in let before = c.requires.before in omega (arith, size, start, before, c.loop-index-test.true) in
    let at : c.index-target.result.now ≡ target_at ts k = c.index-target.ensures ∙ any_default ts k c.index-target.result.now no_target there in
    adds_one c.args.start k c.args.targets.now.items ts c.add.new.targets.items c.args.from c.args.to c.requires.before c.loop-index.auto.index c.loop-index-test.true c.loop-index.invariant c.add.ensures.keeps
    (subst (AddsTarget c.args.start ts c.add.new.targets.items) at c.in_ok-add.ensures.adds)

pub returns-clause-adds : goal.returns-clause-adds
returns-clause-adds c = adds_all c.args.start c.args.targets.now.items c.loop-index.targets.items c.args.from c.args.to c.loop-index.index (omega (arith, c.loop-index-test.false)) c.loop-index.invariant
