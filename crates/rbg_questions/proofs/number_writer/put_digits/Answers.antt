-- The last digit stands after the others.
use Rattle.std.proofs.Common.{arith}
use Rattle.rbg_questions.proofs.Digits.{last_digit}
use Rattle.rbg_questions.proofs.number_writer.put_digits.Goals as goal

pub returns-then-number-lt10000 : goal.returns-then-number-lt10000
returns-then-number-lt10000 c =
    last_digit _ _ _ _ _ (omega (arith, c.if-number-lt1000.false)) (omega (arith, c.if-number-lt10000.true)) c.in_ok-put_three_digits.ensures.written c.put_last_digit.ensures
