use Rattle.std.proofs.Common.{sym}
use Rattle.rbg_flat.proofs.Common.{IsToTryIn}
use Rattle.rbg_flat.proofs.Stills.{across_ends, across_meets, nowhere_ends, nowhere_meets}
use Rattle.rbg_flat.proofs.flat.Flat.step_from.Goals as goal

pub step-requires-clause-stands : goal.step-requires-clause-stands
step-requires-clause-stands c = (_, c.requires.shift)

pub returns-in-Some : goal.returns-in-Some
returns-in-Some c =
    let game = c.args.setting.now.game.now in
    let numbered = c.requires.ready.set.lawful.numbered in
    let edge = sym c.in-Some.ensures.is in
    let led = c.step.ensures in
    record {
      sized = led.sized;
      met = across_meets game numbered c.args.position c.args.direction c.requires.shift c.args.vertex c.in-Some.to edge (IsToTryIn c.args.setting.now) c.args.self.now.sets c.step.new.self.sets led.met;
      ends = across_ends game numbered c.args.position c.args.direction c.requires.shift c.args.vertex c.in-Some.to edge c.args.self.now.ends c.step.new.self.ends led.ends;
      on = led.on;
    }

pub returns-in-None : goal.returns-in-None
returns-in-None c =
    let game = c.args.setting.now.game.now in
    let numbered = c.requires.ready.set.lawful.numbered in
    let edge = sym c.in-None.ensures.is in
    record {
      sized = c.requires.ready.sized;
      met = nowhere_meets game numbered c.args.position c.args.direction c.requires.shift c.args.vertex edge (IsToTryIn c.args.setting.now) c.args.self.now.sets;
      ends = nowhere_ends game numbered c.args.position c.args.direction c.requires.shift c.args.vertex edge c.args.self.now.ends;
      on = λ on. on;
    }
