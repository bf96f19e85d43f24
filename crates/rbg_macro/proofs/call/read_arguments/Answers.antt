-- A call has as many arguments as the macro has parameters.
use Rattle.rbg_base.proofs.Common.{◌∙◌, sym, ap, map, drop-map, length-map, take_rest}
use Rattle.rbg_macro.specs.internal.ReadTokens.{read_lexeme}
use Rattle.rbg_macro.proofs.CallLemmas.{call_meets, call_within}
use Rattle.rbg_macro.proofs.call.read_arguments.Goals as goal

pub returns-clause-ok : goal.returns-clause-ok
returns-clause-ok c =
    let found = rw c.in-Some.is at c.in_ok-len.ensures.arguments in
    let rest = ap (map read_lexeme) (take_rest c.args.beyond.now 1) ∙ sym (drop-map read_lexeme 1 c.args.beyond.now) in
    let opens = sym c.begins_with_parenthesis.ensures ∙ c.if-not-begins_with_parenthesis.false in
    record {
      meets = λ name.
          call_meets c.args.template.now name _ _ _ c.in-Some.len c.if-template-eq0.false
          opens rest found (length-map c.find_arguments.new.found.items _ ∙ sym c.len.ensures.value ∙ c.if-len-template.false);
      within = call_within _ _ _ c.in-Some.len opens rest found;
    }
