use Rattle.std.proofs.Common.{rules}
use Rattle.rbg_record.proofs.Beginning.{begun_one, begun_two}
use Rattle.rbg_record.proofs.reading.begin.Goals as goal

pub returns-in_ok-start-in-One : goal.returns-in_ok-start-in-One
returns-in_ok-start-in-One c = λ text is. record {
  leads = begun_one c.args.game.now text c.args.version c.in_ok-start-in-One.field-0 is c.in-One.is c.in_ok-start-in-One.ensures.start;
  in_game = search rules;
  refused = search rules;
}

pub returns-in-Two : goal.returns-in-Two
returns-in-Two c = λ text is. record {
  leads = begun_two c.args.game.now text c.args.version is c.in-Two.is;
  in_game = search rules;
  refused = search rules;
}
