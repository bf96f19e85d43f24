-- Words with the option `--cut`.
use Rattle.std.proofs.Common.{rules}
use Rattle.rbg_cli.specs.Wishes.{wish_asked}
use Rattle.rbg_cli.proofs.WordLemmas.{cut_before_found, cut_after_found}
use Rattle.rbg_cli.proofs.words.asked_by_option.Goals as goal

pub returns-in-referee-default-text : goal.returns-in-referee-default-text
returns-in-referee-default-text c =
    cut_after_found c.args.command.now c.args.first.now c.args.second.now (wish_asked c.asked_to_cut.result) (search rules) (search rules)
    c.asked_to_cut.ensures

pub returns-in-referee-text-default : goal.returns-in-referee-text-default
returns-in-referee-text-default c =
    cut_before_found c.args.command.now c.args.first.now c.args.second.now (wish_asked c.asked_to_cut-in-referee-text-default.result) (search rules) (search rules)
    c.asked_to_cut-in-referee-text-default.ensures
