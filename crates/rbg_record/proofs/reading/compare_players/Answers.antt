use Rattle.std.proofs.Common.{sym, rules, ap, ◌∙◌}
use Rattle.std.proofs.lemmas.Bool.{true≢false}
use Rattle.rbg_rules.specs.Meaning.{AbstractGame}
use Rattle.rbg_record.proofs.Beginning.{same_players, other_players}
use Rattle.rbg_record.proofs.reading.compare_players.Goals as goal

pub returns-then-are_players : goal.returns-then-are_players
returns-then-are_players c = λ text spells. record {
  leads = same_players c.args.game.now text _ spells (sym c.of.ensures ∙ (c.are_players.ensures.0 c.if-are_players.true ∙ ap (λ (game : AbstractGame). game.players) c.as_game.ensures.game));
  in_game = search rules;
  refused = search rules;
}

pub returns-else-are_players : goal.returns-else-are_players
returns-else-are_players c = λ text spells. record {
  leads = search rules;
  in_game = search rules;
  refused =
      ((_, spells), other_players c.args.game.now text _ spells (λ same. true≢false (sym (c.are_players.ensures.1 (c.of.ensures ∙ (same ∙ sym (ap (λ (game : AbstractGame). game.players) c.as_game.ensures.game)))) ∙ c.if-are_players.false)));
}
