use Rattle.rbg_flat.proofs.Spellings.{written_more, written_all}
use Rattle.rbg_flat.proofs.found.spell_word.Goals as goal

pub loop-rest-preserved : goal.loop-rest-preserved
loop-rest-preserved c =
    let is = c.loop-rest.invariant in
    let low = c.lowest-bit.ensures in
    let out = c.without-rest.ensures in
    record {
      rest_in = λ b there. is.rest_in b (out.only b there);
      written = written_more c.args.pairs.now.items c.loop-rest.pairs.items c.push.new.self.items c.args.word c.loop-rest.rest c.without-rest.result c.lowest-bit.result low.small low.set low.below out.gone out.others c.in_ok-push.ensures.items is.written;
    }

pub returns : goal.returns
returns c =
    let none = c.loop-rest-test.false in
    written_all c.args.pairs.now.items c.loop-rest.pairs.items c.args.word c.loop-rest.rest none c.loop-rest.invariant.written
