-- The sections are expanded one by one.
use Rattle.std.proofs.lemmas.Result.{err_from_is_err_and}
use Rattle.rbg_macro.proofs.Sections.{section_expanded, section_fault, all_expanded}
use Rattle.rbg_macro.proofs.expansion.expand_sections.Goals as goal

pub returns-in_err-section-clause-err : goal.returns-in_err-section-clause-err
returns-in_err-section-clause-err c =
    let p = err_from_is_err_and c.from_residual-in_err-section.result c.from_residual-in_err-section.ensures.1 in
    rw (p.1, p.2) (section_fault c.args.macros.now c.args.bodies.now c.loop-body.body-index _ c.loop-body.expanded c.loop-body.sections.items c.in_err-section.field-0.0
    c.loop-body.invariant c.loop-body-test.true c.in_err-section.ensures.err)

pub loop-body-preserved : goal.loop-body-preserved
loop-body-preserved c =
    section_expanded c.args.macros.now c.args.bodies.now c.loop-body.body-index _ c.loop-body.expanded c.read_section.new.expanded c.loop-body.sections.items _
    c.in_ok-section.section c.loop-body.invariant c.loop-body-test.true c.in_ok-section.ensures.ok c.in_ok-push.ensures.items

pub returns-clause-ok : goal.returns-clause-ok
returns-clause-ok c =
    all_expanded c.args.macros.now c.args.bodies.now c.loop-body.body-index c.loop-body.expanded c.loop-body.sections.items
    c.loop-body.invariant c.loop-body-test.false
