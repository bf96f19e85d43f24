-- One digit, or the first and the last one.
use Rattle.std.proofs.Common.{arith}
use Rattle.rbg_questions.proofs.Digits.{last_digit, one_digit, one_written}
use Rattle.rbg_questions.proofs.number_writer.put_two_digits.Goals as goal

pub returns-then-number-lt10 : goal.returns-then-number-lt10
returns-then-number-lt10 c = one_digit _ _ _ _ c.if-number-lt10.true c.put_last_digit.ensures

pub returns : goal.returns
returns c =
    last_digit _ _ _ _ _ (omega (arith, c.if-number-lt10.false)) (omega (arith, c.requires))
    (one_written _ _ _ (omega (arith, c.requires)) c.in_ok-put_last_digit.ensures.written) c.put_last_digit-3.ensures
