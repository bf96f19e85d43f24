use Rattle.rbg_flat.proofs.Common.{stepping, IsToTryIn}
use Rattle.rbg_flat.proofs.Wordwise.{meets_bit, ends_bit, meets_all, ends_all}
use Rattle.rbg_flat.proofs.flat.Flat.step_across.Goals as goal

pub loop-rest-preserved : goal.loop-rest-preserved
loop-rest-preserved c =
    let game = c.args.setting.now.game.now in
    let opens = IsToTryIn c.args.setting.now in
    let is = c.loop-rest.invariant in
    let led = c.step_from.ensures in
    let out = c.without-rest.ensures in
    let set = is.rest_in c.lowest-bit.result c.lowest-bit.ensures.set in
    record {
      rest_in = λ b there. is.rest_in b (out.only b there);
      led = record {
        sized = led.sized;
        met = meets_bit stepping game c.args.word.position c.args.word.column c.args.word.bits opens c.loop-rest.rest c.lowest-bit.result c.without-rest.result c.lowest-bit.ensures.small set out.gone out.only out.others c.args.self.now.sets c.loop-rest.self.sets c.step_from.new.self.sets is.led.met led.met;
        ends = ends_bit stepping game c.args.word.position c.args.word.column c.args.word.bits opens c.loop-rest.rest c.lowest-bit.result c.without-rest.result c.lowest-bit.ensures.small set out.gone out.only out.others c.args.self.now.ends c.loop-rest.self.ends c.step_from.new.self.ends is.led.ends led.ends;
        on = λ on. led.on (is.led.on on);
      };
    }

pub returns : goal.returns
returns c =
    let game = c.args.setting.now.game.now in
    let opens = IsToTryIn c.args.setting.now in
    let led = c.loop-rest.invariant.led in
    record {
      sized = led.sized;
      met = meets_all stepping game c.args.word.position c.args.word.column c.args.word.bits opens c.loop-rest.rest c.loop-rest-test.false c.args.self.now.sets c.loop-rest.self.sets led.met;
      ends = ends_all stepping game c.args.word.position c.args.word.column c.args.word.bits opens c.loop-rest.rest c.loop-rest-test.false c.args.self.now.ends c.loop-rest.self.ends led.ends;
      on = led.on;
    }
