-- The seats are greeted, and play is at its start.
use Rattle.rbg_base.proofs.Common.{rules, length, replicate, [], ap, ◌∙◌, sym, length-replicate}
use Rattle.rbg_match.specs.PlayingOn.{seats_of}
use Rattle.rbg_match.proofs.Delivering.{length-delivered}
use Rattle.rbg_rules.specs.Meaning.{IsGame}
use Rattle.rbg_match.proofs.Greeting.{players_named}
use Rattle.rbg_match.proofs.opening.referee_at_start.Goals as goal

pub first_outbox-requires-clause-names : goal.first_outbox-requires-clause-names
first_outbox-requires-clause-names c =
    let accepted : IsGame c.args.game = search rules in
    players_named c.args.game accepted

pub invariant_of-result : goal.invariant_of-result
invariant_of-result c = record {
  accepted = search rules;
  lawful = c.requires.lawful;
  counted = c.requires.counted;
  in_game = rw c.in_ok-game.ensures c.in_ok-play.ensures.in_game;
  seats = ap length c.in_ok-outbox.ensures ∙ length-delivered (replicate (seats_of c.args.game) []) _ ∙ length-replicate (seats_of c.args.game) [] ∙ sym (ap seats_of c.in_ok-game.ensures);
}
