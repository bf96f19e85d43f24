use Rattle.rbg_match.proofs.Questions.{where_above}
use Rattle.rbg_match.proofs.LegalPairs.{found_are_pairs}
use Rattle.rbg_match.proofs.asking.find_pairs.Goals as goal

pub returns-clause-spelled : goal.returns-clause-spelled
returns-clause-spelled c =
    let finds = c.find_move.ensures.finds in
    found_are_pairs (λ pairs. pairs.items) c.args.game.now c.is_accepted.ensures c.args.place.now c.requires.place c.find_move.result finds.found finds.sized

pub returns-clause-heavy : goal.returns-clause-heavy
returns-clause-heavy c = where_above c.find_move.result _ _ c.find_move.ensures.finds.given_up.heavy
