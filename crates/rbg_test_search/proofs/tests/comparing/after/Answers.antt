-- An action stands at each position.
use Rattle.rbg_rules.proofs.TableLemmas.{numbered_action}
use Rattle.rbg_test_search.proofs.tests.comparing.after.Goals as goal

pub returns : goal.returns
returns c =
    numbered_action c.args.game.now.rules c.is_accepted.ensures.numbered c.args.position c.requires.from_one c.requires.there
