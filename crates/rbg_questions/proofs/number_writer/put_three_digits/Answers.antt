-- The last digit stands after the others.
use Rattle.std.proofs.Common.{arith}
use Rattle.rbg_questions.proofs.Digits.{last_digit}
use Rattle.rbg_questions.proofs.number_writer.put_three_digits.Goals as goal

pub returns : goal.returns
returns c =
    last_digit _ _ _ _ _ (omega (arith, c.if-number-lt100.false)) (omega (arith, c.requires)) c.in_ok-put_two_digits.ensures.written c.put_last_digit.ensures
