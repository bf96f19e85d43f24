-- The line ends with a line feed.
use Rattle.std.proofs.Common.{rules, ◌≡◌, ◌++◌, codes, refl}
use Rattle.rbg_console.specs.Counts.{counts_of}
use Rattle.rbg_console.specs.declared.status.Status.TheVariants.{Success}
use Rattle.rbg_operations.specs.Tasks.FileCommand.{Check}
use Rattle.rbg_operations.specs.Answers.IsGamesAnswer.{counted}
use Rattle.rbg_operations.proofs.JudgingLemmas.{games_answer_is}
use Rattle.rbg_operations.proofs.check.count.Goals as goal

pub returns : goal.returns
returns c = λ description told.
    let text : c.into_bytes.result.items ≡ counts_of c.args.game.now ++ codes "\n" = search rules in
    games_answer_is c.args.game.now description told Check c.into_bytes.result.items (counts_of c.args.game.now ++ codes "\n") Success Success text refl counted
