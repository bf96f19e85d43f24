-- The arguments are cut token by token.
use Rattle.std.proofs.Common.{refl}
use Rattle.rbg_macro.proofs.Arguments.{cut_within, cut_apart, cut_ends}
use Rattle.rbg_macro.proofs.Marks.{keeps_one_more}
use Rattle.rbg_macro.proofs.call.find_arguments.Goals as goal
use Rattle.rbg_macro.proofs.call.find_arguments.Goals.{in-Within, in-Cuts+in_ok-push-in-Cuts}

pub returns-in-Ends-clause-arguments : goal.returns-in-Ends-clause-arguments
returns-in-Ends-clause-arguments c =
    cut_ends c.args.tokens.now c.loop-at.at c.loop-at.further c.loop-at.start _ _ c.loop-at.found.items _ c.loop-at.invariant.0 c.loop-at-test.true
    c.in-Ends.ensures refl c.in_ok-push-in-Ends.ensures.ok

pub returns-in-Ends-clause-marks : goal.returns-in-Ends-clause-marks
returns-in-Ends-clause-marks c =
    keeps_one_more c.args.tokens.now c.loop-at.start c.loop-at.at _ c.loop-at.found.items _ c.loop-at.invariant.1 refl c.in_ok-push-in-Ends.ensures.ok

pub loop-at-preserved : goal.loop-at-preserved
loop-at-preserved c =
    elim c.match-effect_of.branch [
      | in-Within w ↦
          rw (w.further-is, w.start-is, w.found-is) (
            cut_within c.args.tokens.now c.loop-at.at c.loop-at.further c.loop-at.start _ _ c.loop-at.found.items c.loop-at.invariant.0 c.loop-at-test.true w.in-Within.ensures,
            c.loop-at.invariant.1,
          )
      | in-Cuts+in_ok-push-in-Cuts w ↦
          rw (w.further-is, w.start-is, w.found-is) (
            cut_apart c.args.tokens.now c.loop-at.at c.loop-at.further c.loop-at.start _ _ c.loop-at.found.items _ c.loop-at.invariant.0 c.loop-at-test.true
                w.in-Cuts.ensures refl w.in_ok-push-in-Cuts.ensures.ok,
            keeps_one_more c.args.tokens.now c.loop-at.start c.loop-at.at _ c.loop-at.found.items _ c.loop-at.invariant.1 refl w.in_ok-push-in-Cuts.ensures.ok,
          )
    ]
