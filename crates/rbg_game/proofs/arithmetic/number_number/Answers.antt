use Rattle.rbg_base.proofs.Common.{sym, ◌∙◌, arith, same_Some}
use Rattle.rbg_grammar.specs.Views.{number_of}
use Rattle.rbg_rules.proofs.Bridge.{arithmetic_of-Number}
use Rattle.rbg_game.proofs.ArithmeticLemmas.{too_great_alone}
use Rattle.rbg_game.proofs.arithmetic.number_number.Goals.{in_default-via-in-Some+else-value, in_default-via-in_default}
use Rattle.rbg_game.proofs.arithmetic.number_number.Goals as goal

pub returns-in-Some-clause-value : goal.returns-in-Some-clause-value
returns-in-Some-clause-value c = λ names. (c.in-Some.value, c.in-Some.is, omega arith, arithmetic_of-Number c.in-Some.value)

pub returns-in_default-clause-fault : goal.returns-in_default-clause-fault
returns-in_default-clause-fault c =
    elim c.in_default.branch [
      | in_default-via-in-Some+else-value w ↦ λ names. too_great_alone names (number_of c.args.number) (λ value is. let same = same_Some w.in-Some.value value (sym w.in-Some.is ∙ is) in omega arith)
      | in_default-via-in_default w ↦ λ names. too_great_alone names (number_of c.args.number) (λ value is. absurd (w.in_default.not-Some value is))
    ]
