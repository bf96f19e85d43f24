use Rattle.std.proofs.Common.{◌≢◌, ◌≤◌, length, ap, subst, arith, ◌∙◌, sym}
use Rattle.std.proofs.lemmas.Bool.{eqb-true, eqb-false}
use Rattle.rbg_hall.proofs.Common.{starts_of, HaveLimits, IsFaulty, ledgers_of}
use Rattle.rbg_hall.proofs.Openings.{no_table_refused, too_many_refused, config_refused, fault_small, ledgers_new, memory_passed, made_new}
use Rattle.rbg_hall.proofs.hall.Hall.new.Goals as goal

pub returns-then-is_empty-clause-refused : goal.returns-then-is_empty-clause-refused
returns-then-is_empty-clause-refused g c = no_table_refused c.args.tables.items (sym c.args.tables.ok.0 ∙ eqb-true c.args.tables.len 0 (sym c.is_empty.ensures ∙ c.if-is_empty.true))

pub returns-then-len-gt-TABLES-clause-refused : goal.returns-then-len-gt-TABLES-clause-refused
returns-then-len-gt-TABLES-clause-refused g c = too_many_refused c.args.tables.items (omega (arith, c.args.tables.ok.0, c.if-len-gt-TABLES.true, c.len.ensures))

pub overflow_add-result : goal.overflow_add-result
overflow_add-result g c =
    let small = fault_small c.deref.result.now c.in-Some.index c.in-Some.ensures.found in
    omega (arith, small)

pub returns-in-Some-clause-refused : goal.returns-in-Some-clause-refused
returns-in-Some-clause-refused g c =
    let found : IsFaulty c.args.tables.items c.in-Some.index = subst (λ all. IsFaulty all c.in-Some.index) c.deref.ensures.value c.in-Some.ensures.found in
    let some : length c.args.tables.items ≢ 0 = λ none. eqb-false c.args.tables.len 0 (sym c.is_empty.ensures ∙ c.if-is_empty.false) (c.args.tables.ok.0 ∙ none) in
    let few : length c.args.tables.items ≤ 16 = omega (arith, c.args.tables.ok.0, c.if-len-gt-TABLES.false, c.len.ensures) in
    config_refused c.args.tables.items c.in-Some.index some few found

pub returns-in_err-tables-clause-refused : goal.returns-in_err-tables-clause-refused
returns-in_err-tables-clause-refused g c = memory_passed (starts_of c.args.tables.items) c.from_residual.result c.from_residual.ensures.1

pub returns-in_err-of_tables-clause-refused : goal.returns-in_err-of_tables-clause-refused
returns-in_err-of_tables-clause-refused g c = memory_passed (starts_of c.args.tables.items) c.from_residual-in_err-of_tables.result c.from_residual-in_err-of_tables.ensures.1

pub returns-clause-made : goal.returns-clause-made
returns-clause-made g c =
    let some : length c.args.tables.items ≢ 0 = λ none. eqb-false c.args.tables.len 0 (sym c.is_empty.ensures ∙ c.if-is_empty.false) (c.args.tables.ok.0 ∙ none) in
    let few : length c.args.tables.items ≤ 16 = omega (arith, c.args.tables.ok.0, c.if-len-gt-TABLES.false, c.len.ensures) in
    let limits : HaveLimits c.args.tables.items = subst HaveLimits c.deref.ensures.value c.in_default.ensures.none in
    let made = c.in_ok-of_tables.ensures in
    made_new c.args.tables.items c.in_ok-tables.tables.items c.in_ok-of_tables.field-0.0 c.in_ok-of_tables.field-0.1 some few limits c.in_ok-tables.ensures made.tables made.lines made.works made.queued

pub returns-clause-ledgers : goal.returns-clause-ledgers
returns-clause-ledgers g c = c.in_ok-of_tables.ensures.ledgers ∙ ap ledgers_of c.in_ok-tables.ensures ∙ ledgers_new c.args.tables.items
