use Rattle.rbg_flat.proofs.Common.{leaping, IsToTryIn}
use Rattle.rbg_flat.proofs.Takings.{goes_on}
use Rattle.rbg_flat.proofs.Wordwise.{meets_bit, ends_bit, meets_all, ends_all}
use Rattle.rbg_flat.proofs.flat.Flat.leap_word.Goals as goal

pub leap-requires-clause-stands : goal.leap-requires-clause-stands
leap-requires-clause-stands c = goes_on c.args.setting.now.game.now.rules c.args.word.position c.action-action.result.now c.action-action.ensures

pub loop-rest-preserved : goal.loop-rest-preserved
loop-rest-preserved c =
    let game = c.args.setting.now.game.now in
    let opens = IsToTryIn c.args.setting.now in
    let is = c.loop-rest.invariant in
    let led = c.leap.ensures in
    let out = c.without-rest.ensures in
    let set = is.rest_in c.lowest-bit.result c.lowest-bit.ensures.set in
    record {
      rest_in = λ b there. is.rest_in b (out.only b there);
      led = record {
        sized = led.sized;
        met = meets_bit leaping game c.args.word.position c.args.word.column c.args.word.bits opens c.loop-rest.rest c.lowest-bit.result c.without-rest.result c.lowest-bit.ensures.small set out.gone out.only out.others c.args.self.now.sets c.loop-rest.self.sets c.leap.new.self.sets is.led.met led.met;
        ends = ends_bit leaping game c.args.word.position c.args.word.column c.args.word.bits opens c.loop-rest.rest c.lowest-bit.result c.without-rest.result c.lowest-bit.ensures.small set out.gone out.only out.others c.args.self.now.ends c.loop-rest.self.ends c.leap.new.self.ends is.led.ends led.ends;
        on = λ on. led.on (is.led.on on);
      };
    }

pub returns : goal.returns
returns c =
    let game = c.args.setting.now.game.now in
    let opens = IsToTryIn c.args.setting.now in
    let led = c.loop-rest.invariant.led in
    record {
      sized = led.sized;
      met = meets_all leaping game c.args.word.position c.args.word.column c.args.word.bits opens c.loop-rest.rest c.loop-rest-test.false c.args.self.now.sets c.loop-rest.self.sets led.met;
      ends = ends_all leaping game c.args.word.position c.args.word.column c.args.word.bits opens c.loop-rest.rest c.loop-rest-test.false c.args.self.now.ends c.loop-rest.self.ends led.ends;
      on = led.on;
    }
