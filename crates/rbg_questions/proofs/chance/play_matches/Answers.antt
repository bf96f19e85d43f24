-- The matches so far are counted, and one more is, or it isn't played to its end.
use Rattle.std.proofs.Common.{arith}
use Rattle.rbg_questions.specs.declared.question_error.QuestionError.TheVariants.{Memory}
use Rattle.rbg_base.proofs.Errors.{passed_on}
use Rattle.rbg_questions.proofs.PlayedMatches.{few_played, unplayed_memory}
use Rattle.rbg_questions.proofs.Tallies.{small_tallies, tallied_more}
use Rattle.rbg_questions.proofs.chance.play_matches.Goals as goal

pub count_in-requires-clause-few : goal.count_in-requires-clause-few
count_in-requires-clause-few c = few_played _ _ _ _ c.in_ok-played.ensures.ends

pub count_in-requires-clause-small : goal.count_in-requires-clause-small
count_in-requires-clause-small c =
    small_tallies c.args.from.now.game c.args.from.now.place c.loop.counter c.loop.tallies.items c.loop.invariant (omega (arith, c.loop-test.true, c.requires.1))

pub returns-in_err-count_in-clause-unplayed : goal.returns-in_err-count_in-clause-unplayed
returns-in_err-count_in-clause-unplayed c =
    passed_on c.from_residual-in_err-count_in.result Memory _ c.from_residual-in_err-count_in.ensures.1 (unplayed_memory _ _)

pub loop-preserved : goal.loop-preserved
loop-preserved c =
    tallied_more c.args.from.now.game c.args.from.now.place c.loop.counter _ _ _ _ c.loop.invariant c.in_ok-played.ensures.ends c.in_ok-count_in.ensures
