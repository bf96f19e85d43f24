use Rattle.std.proofs.Common.{inl, inr}
use Rattle.rbg_grammar.proofs.Common.{name_of, SpeltExpression}
use Rattle.rbg_rules.proofs.Bridge.{arithmetic_of-Variable, arithmetic_of-PieceCount}
use Rattle.rbg_game.proofs.NumberingCommon.{names_of, HasArithmeticFault}
use Rattle.rbg_base.proofs.Errors.{passed_on}
use Rattle.rbg_game.proofs.ArithmeticLemmas.{unknown_alone}
use Rattle.rbg_game.proofs.arithmetic.number_name.Goals as goal

pub returns-in-Some-clause-value : goal.returns-in-Some-clause-value
returns-in-Some-clause-value c = inl (c.in-Some.variable, c.in-Some.ensures, arithmetic_of-Variable c.in-Some.variable)

pub returns-in_err-find-clause-fault : goal.returns-in_err-find-clause-fault
returns-in_err-find-clause-fault c =
    let names = names_of c.args.names.now in
    let name = name_of c.args.name.now in
    passed_on c.from_residual.result c.in_err-find.field-0.0 (HasArithmeticFault names (SpeltExpression.name name)) c.from_residual.ensures.1
    (unknown_alone names name c.in_err-find.field-0.0 (c.in_default.ensures) c.in_err-find.ensures.fault)

pub returns-clause-value : goal.returns-clause-value
returns-clause-value c =
    inr (c.in_default.ensures, (c.in_ok-find.field-0, c.in_ok-find.ensures.number, arithmetic_of-PieceCount c.in_ok-find.field-0))
