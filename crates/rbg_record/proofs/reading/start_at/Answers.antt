use Rattle.std.proofs.Common.{rules, sym, ◌∙◌}
use Rattle.std.proofs.lemmas.Bool.{true≢false}
use Rattle.rbg_record.proofs.Beginning.{begun_start, unlawful_start}
use Rattle.rbg_record.proofs.reading.start_at.Goals as goal

pub returns-then-not-is_lawful : goal.returns-then-not-is_lawful
returns-then-not-is_lawful c = λ text spells. record {
  leads = search rules;
  in_game = search rules;
  refused =
      ((_, spells), unlawful_start c.args.game.now text c.args.start spells (λ lawful. true≢false (sym (c.is_lawful.ensures.1 lawful) ∙ c.if-not-is_lawful.true)));
}

pub returns : goal.returns
returns c = λ text spells.
    let lawful = c.is_lawful.ensures.0 c.if-not-is_lawful.false in record {
      leads = begun_start c.args.game.now text c.args.start c.in_ok-start.field-0 spells lawful.0 lawful.1 c.in_ok-start.ensures.start;
      in_game = search rules;
      refused = search rules;
    }
