-- A section's list is counted and read.
use Rattle.rbg_base.proofs.Common.{length, refl, arith, length-map, err_from_is_err_and}
use Rattle.rbg_macro.proofs.Common.{section_of, Fails}
use Rattle.rbg_macro.specs.Token.{lexeme_of}
use Rattle.rbg_macro.proofs.Exits.{unless_weaker}
use Rattle.rbg_macro.proofs.Reading.{counted_all}
use Rattle.rbg_macro.proofs.Sections.{section_too_long, section_read, section_fails}
use Rattle.rbg_macro.proofs.expansion.read_section.Goals as goal

pub returns-then-section-expanded-clause-err : goal.returns-then-section-expanded-clause-err
returns-then-section-expanded-clause-err c =
    section_too_long c.args.macros.now _ c.args.expanded.now c.requires.read (omega (arith, c.if-section-expanded.true, length-map c.args.section.now.tokens.now lexeme_of))

pub returns-in_err-read_list-clause-err : goal.returns-in_err-read_list-clause-err
returns-in_err-read_list-clause-err c =
    let p = err_from_is_err_and c.from_residual-in_err-read_list.result c.from_residual-in_err-read_list.ensures.1 in
    let counted = counted_all c.in_ok-tokens.tokens (section_of c.args.section.now).tokens c.len.result c.args.expanded.now c.count.new.self c.len.ensures c.in_ok-tokens.ensures.tokens c.count.ensures in
    let seen = rw c.deref.ensures.value at c.in_err-read_list.ensures.err in
    let same = rw c.in_ok-tokens.ensures.tokens at seen in
    rw (p.1, p.2) (unless_weaker _ (Fails c.args.macros.now 0 c.args.expanded.now.read (length c.args.expanded.now.kept) (section_of c.args.section.now).tokens)
    (λ f fails. section_fails c.args.macros.now _ c.args.expanded.now c.count.new.self f counted (omega (arith, c.if-section-expanded.false, c.requires.read, length-map c.args.section.now.tokens.now lexeme_of)) fails)
    c.in_err-read_list.field-0.0 same)

pub returns-clause-ok : goal.returns-clause-ok
returns-clause-ok c =
    let counted = counted_all c.in_ok-tokens.tokens (section_of c.args.section.now).tokens c.len.result c.args.expanded.now c.count.new.self c.len.ensures c.in_ok-tokens.ensures.tokens c.count.ensures in
    let seen = rw c.deref.ensures.value at c.in_ok-read_list.ensures.ok in
    let same = rw c.in_ok-tokens.ensures.tokens at seen in
    section_read c.args.macros.now (section_of c.args.section.now) c.args.expanded.now c.count.new.self _ _ counted same (rw (c.len-start.ensures, c.len-2.ensures) refl)
