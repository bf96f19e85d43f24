-- What `parse` makes of digits.
use Rattle.rbg_base.proofs.Common.{◌≡◌, true, sym, ◌∙◌, ap, subst, list_all}
use Rattle.std.specs.Char.{is_ascii_digit}
use Rattle.rbg_base.specs.Decimals.{number_of_digits}
use Rattle.rbg_base.proofs.Numerals.{utf8-digits, text_read, not_refused, number_parsed, number_none}
use Rattle.rbg_base.proofs.decimal.number_of_digits.Goals as goal

pub returns-then-not-are_digits : goal.returns-then-not-are_digits
returns-then-not-are_digits c =
    let not_digits = c.if-not-are_digits.ensures in
    sym (number_none c.args.text.now (λ n is_number. let each = is_number.each in absurd cc))

pub returns-in_err-text : goal.returns-in_err-text
returns-in_err-text c =
    let each = sym c.are_digits.ensures ∙ c.if-not-are_digits.false in
    absurd (not_refused _ _ c.from_utf8.result c.from_utf8.ensures.cases (utf8-digits c.args.text.now each) (sym c.ok.ensures.value ∙ c.in_err-text.was))

pub returns : goal.returns
returns c =
    let each = sym c.are_digits.ensures ∙ c.if-not-are_digits.false in
    let same = text_read _ c.from_utf8.result c.in_ok-text.text c.from_utf8.ensures.cases (sym c.in_ok-text.was ∙ c.ok.ensures.value) in
    c.ok-2.ensures.value
    ∙ number_parsed _ c.in_ok-text.text.now c.parse.result (subst (λ bytes. list_all is_ascii_digit bytes ≡ true) (sym same) each) c.parse.ensures.value.0
    ∙ ap number_of_digits same
