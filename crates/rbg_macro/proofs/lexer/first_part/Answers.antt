-- Each kind of part, by the first byte.
use Rattle.std.proofs.Common.{◌∙◌, sym}
use Rattle.rbg_macro.proofs.Parts.{zero_first, blank_first, name_first, number_first, symbol_first, bad_first}
use Rattle.rbg_macro.proofs.Words.{begins_no_token}
use Rattle.rbg_macro.proofs.lexer.first_part.Goals as goal

pub returns-then-first-eq0 : goal.returns-then-first-eq0
returns-then-first-eq0 c = zero_first c.args.bytes.now c.requires c.if-first-eq0.true

pub returns-then-is_blank : goal.returns-then-is_blank
returns-then-is_blank c =
    blank_first c.args.bytes.now c.requires (sym c.is_blank.ensures ∙ c.if-is_blank.true)

pub returns-then-is_name_start : goal.returns-then-is_name_start
returns-then-is_name_start c =
    name_first c.args.bytes.now c.name_len.result c.requires c.name_len.ensures
    (sym c.is_name_start.ensures ∙ c.if-is_name_start.true)

pub returns-then-is_ascii_digit : goal.returns-then-is_ascii_digit
returns-then-is_ascii_digit c =
    number_first c.args.bytes.now c.number_len.result c.requires c.number_len.ensures
    (sym c.is_ascii_digit.ensures.value ∙ c.if-is_ascii_digit.true)

pub returns-in-Some : goal.returns-in-Some
returns-in-Some c =
    symbol_first c.args.bytes.now c.in-Some.symbol c.len.result c.len.ensures
    (sym c.is_name_start.ensures ∙ c.if-is_name_start.false)
    (sym c.is_ascii_digit.ensures.value ∙ c.if-is_ascii_digit.false)
    (λ begins. let no = c.begins_comment.ensures.1 begins in cc (no, c.if-begins_comment.false))
    c.in-Some.ensures.found

pub returns-in-None : goal.returns-in-None
returns-in-None c =
    bad_first c.args.bytes.now c.requires c.if-first-eq0.false (sym c.is_blank.ensures ∙ c.if-is_blank.false)
    (begins_no_token c.args.bytes.now
    (sym c.is_name_start.ensures ∙ c.if-is_name_start.false)
    (sym c.is_ascii_digit.ensures.value ∙ c.if-is_ascii_digit.false)
    c.in-None.ensures.none)
