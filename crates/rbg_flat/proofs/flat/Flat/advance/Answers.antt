use Rattle.std.proofs.Common.{arith}
use Rattle.rbg_flat.proofs.flat.Flat.advance.Goals as goal

pub loop-place-preserved : goal.loop-place-preserved
loop-place-preserved c =
    let is = c.loop-place.invariant in
    record {
      sized = c.try_word.ensures.sized;
      on = c.try_word.ensures.on;
      begun = λ f begun. c.try_word.ensures.begun f (is.begun f begun);
      still_done = λ v p done. c.try_word.ensures.done v p (is.still_done v p done);
      quiet = λ v p pattern done. is.quiet v p pattern (c.try_word.ensures.quiet v p pattern done);
      lighter =
          let before = is.lighter in
          let less = c.try_word.ensures.less in
          omega (arith, before, less);
    }
