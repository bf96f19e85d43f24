use Rattle.std.proofs.Common.{rules}
use Rattle.rbg_player.specs.declared.error.PlayerError.TheVariants.{Memory}
use Rattle.rbg_player.specs.Hearing.{memory}
use Rattle.rbg_base.proofs.Errors.{passed_on}
use Rattle.rbg_player.proofs.HearingLemmas.{unanswered_fault, says_answer, says_nothing}
use Rattle.rbg_player.proofs.stage.play.Goals as goal

pub returns-in_err-pairs : goal.returns-in_err-pairs
returns-in_err-pairs g c = record {
  ok = search rules;
  fault = passed_on c.from_residual-in_err-pairs.result c.in_err-pairs.field-0.0 _ c.from_residual-in_err-pairs.ensures.1 (unanswered_fault c.args.seat.now c.follow.new.self c.args.pairs.now c.in_err-pairs.field-0.0 c.in_ok-follow.ensures.ok c.in_err-pairs.ensures.fault);
  out = search rules;
}

pub returns-in_err-say : goal.returns-in_err-say
returns-in_err-say g c = record {
  ok = search rules;
  fault = passed_on c.from_residual-in_err-say.result Memory _ c.from_residual-in_err-say.ensures.1 memory;
  out = search rules;
}

pub returns-in_ok-say : goal.returns-in_ok-say
returns-in_ok-say g c = record {
  ok = says_answer c.args.seat.now c.follow.new.self c.args.pairs.now c.in-Some.pairs c.args.out.now.items c.say.new.out.items c.in_ok-follow.ensures.ok (rw c.in-Some.is at c.in_ok-pairs.ensures.chosen) c.in_ok-say.ensures.ok;
  fault = search rules;
  out = search rules;
}

pub returns-in_default : goal.returns-in_default
returns-in_default g c = record {
  ok = says_nothing c.args.seat.now c.follow.new.self c.args.pairs.now c.args.out.now.items c.in_ok-follow.ensures.ok (rw c.in_default.is at c.in_ok-pairs.ensures.none);
  fault = search rules;
  out = search rules;
}
