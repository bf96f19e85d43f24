-- What the search was begun with.
use Rattle.rbg_moves.proofs.asking.search_in.Goals as goal

pub returns : goal.returns
returns g c = record {
  begun = λ i. record {
    game = c.by_rules.ensures.game i;
    openings = c.by_rules.ensures.openings i;
    modifiers = c.by_rules.ensures.modifiers i;
    opened = c.by_rules.ensures.opened i;
    taken = c.by_rules.ensures.taken i;
  };
}
