use Rattle.std.proofs.Common.{rules, ◌≡◌, [], ◌∷◌, map, true, false, sym, ◌∙◌, ◌-◌}
use Rattle.rbg_macro.specs.declared.token.Symbol.TheVariants.{OpenParenthesis, CloseParenthesis}
use Rattle.rbg_macro.specs.Kinds.{is_symbol}
use Rattle.rbg_grammar.proofs.Common.{next_is, further_operand_at, is_operator, operand_at, primary_at, sum_at, too_deep_at, first_of, expression_of, operand_of}
use Rattle.rbg_syntax.proofs.Parts.{primary_inside, primary_open, primary_none, same_deep, within_no_opening, within_no_inside, within_no_closing, within_whole, chain_fail, chain_alone, chain_more, chain_more_fail}
use Rattle.rbg_grammar.proofs.PhraseLaws.{further_operand_takes_some}
use Rattle.rbg_syntax.proofs.Exits.{FailsWithin-from, FailsWithin-shallow, GivesWithin-from_err}
use Rattle.rbg_grammar.proofs.Turns.{further_begins, some_turn, some_turn_fails, some_ends, some_smaller, map-push}
use Rattle.rbg_syntax.proofs.parser.Parser.+sum.Goals as goal

pub further_operands-loop-alloc-init : goal.further_operands-loop-alloc-init
further_operands-loop-alloc-init t c =
    let one : map operand_of c.push.new.self.items ≡ (first_of c.args.rank, expression_of c.args.first) ∷ [] = search rules in
    rw one (further_begins (first_of c.args.rank, expression_of c.args.first) (further_operand_at c.args.rank (operand_at c.args.rank (primary_at c.args.brackets))) (is_operator c.args.rank) c.args.self.now)

pub further_operands-returns-in_err-further_operand : goal.further_operands-returns-in_err-further_operand
further_operands-returns-in_err-further_operand t c =
    let goes_on : next_is (is_operator c.args.rank) c.loop-alloc.self ≡ true = sym c.next_is_operator.ensures ∙ c.loop-alloc-test.true in
    GivesWithin-from_err _ _ _ _ _ c.from_residual-in_err-further_operand.ensures.1
    (λ f e. some_turn_fails (further_operand_at c.args.rank (operand_at c.args.rank (primary_at c.args.brackets))) (further_operand_takes_some c.args.rank c.args.brackets) (is_operator c.args.rank) _ _ c.loop-alloc.self f c.loop-alloc.invariant goes_on e) c.in_err-further_operand.ensures

pub further_operands-loop-alloc-smaller : goal.further_operands-loop-alloc-smaller
further_operands-loop-alloc-smaller t c =
    some_smaller (further_operand_at c.args.rank (operand_at c.args.rank (primary_at c.args.brackets))) (further_operand_takes_some c.args.rank c.args.brackets) (is_operator c.args.rank) c.loop-alloc.self c.further_operand.new.self _ c.in_ok-further_operand.ensures

pub further_operands-loop-alloc-preserved : goal.further_operands-loop-alloc-preserved
further_operands-loop-alloc-preserved t c =
    let goes_on : next_is (is_operator c.args.rank) c.loop-alloc.self ≡ true = sym c.next_is_operator.ensures ∙ c.loop-alloc-test.true in
    let turn = some_turn (further_operand_at c.args.rank (operand_at c.args.rank (primary_at c.args.brackets))) (further_operand_takes_some c.args.rank c.args.brackets) (is_operator c.args.rank) _ (map operand_of c.loop-alloc.operands.items) c.loop-alloc.self c.further_operand.new.self (operand_of c.in_ok-further_operand.field-0)
    c.loop-alloc.invariant goes_on c.in_ok-further_operand.ensures in
    rw (map-push operand_of c.loop-alloc.operands.items _ c.in_ok-further_operand.field-0 c.in_ok-push-2.ensures.items) turn

pub further_operands-returns : goal.further_operands-returns
further_operands-returns t c =
    let stops : next_is (is_operator c.args.rank) c.loop-alloc.self ≡ false = sym c.next_is_operator.ensures ∙ c.loop-alloc-test.false in
    some_ends (further_operand_at c.args.rank (operand_at c.args.rank (primary_at c.args.brackets))) (further_operand_takes_some c.args.rank c.args.brackets) (is_operator c.args.rank) _ _ c.loop-alloc.self c.loop-alloc.invariant stops

pub chain-returns-in_err-first : goal.chain-returns-in_err-first
chain-returns-in_err-first t c = GivesWithin-from_err _ _ _ _ _ c.from_residual.ensures.1 (chain_fail c.args.rank (operand_at c.args.rank (primary_at c.args.brackets)) c.args.self.now) c.in_err-first.ensures

pub chain-returns-then-not-next_is_operator : goal.chain-returns-then-not-next_is_operator
chain-returns-then-not-next_is_operator t c =
    chain_alone c.args.rank (operand_at c.args.rank (primary_at c.args.brackets)) c.args.self.now (expression_of c.in_ok-first.first) c.operand.new.self c.in_ok-first.ensures (sym c.next_is_operator.ensures ∙ c.if-not-next_is_operator.true)

pub chain-returns-in_err-operands : goal.chain-returns-in_err-operands
chain-returns-in_err-operands t c =
    GivesWithin-from_err _ _ _ _ _ c.from_residual-in_err-operands.ensures.1
    (λ f e. chain_more_fail c.args.rank (operand_at c.args.rank (primary_at c.args.brackets)) c.args.self.now (expression_of c.in_ok-first.first) c.operand.new.self f c.in_ok-first.ensures e) c.in_err-operands.ensures

pub chain-returns : goal.chain-returns
chain-returns t c =
    rw c.in_chain.ensures (chain_more c.args.rank (operand_at c.args.rank (primary_at c.args.brackets)) c.args.self.now (expression_of c.in_ok-first.first) c.operand.new.self (map operand_of c.in_ok-operands.operands.items) c.further_operands.new.self c.in_ok-first.ensures c.in_ok-operands.ensures)

pub primary-returns-then-not-next_is : goal.primary-returns-then-not-next_is
primary-returns-then-not-next_is t c = rw (primary_open c.args.brackets c.args.self.now (sym c.next_is.ensures ∙ c.if-not-next_is.true)) c.number_or_name.ensures

pub primary-returns-then-brackets-eq0 : goal.primary-returns-then-brackets-eq0
primary-returns-then-brackets-eq0 t c =
    let here : next_is (is_symbol OpenParenthesis) c.args.self.now ≡ true = sym c.next_is.ensures ∙ c.if-not-next_is.false in
    FailsWithin-from c.too_deep.result (too_deep_at {A = Unit {0}} c.args.self.now) (primary_at c.args.brackets c.args.self.now)
    (λ f e. rw c.if-brackets-eq0.true (primary_none c.args.self.now here ∙ same_deep c.args.self.now f e)) c.too_deep.ensures

pub primary-returns-in_err-symbol : goal.primary-returns-in_err-symbol
primary-returns-in_err-symbol t c =
    let inside = primary_inside c.args.brackets c.args.self.now c.if-brackets-eq0.false (sym c.next_is.ensures ∙ c.if-not-next_is.false) in
    GivesWithin-from_err _ _ _ _ _ c.from_residual.ensures.1
    (λ f e. inside ∙ within_no_opening OpenParenthesis CloseParenthesis (sum_at (c.args.brackets - 1)) c.args.self.now f e) (FailsWithin-shallow _ _ c.in_err-symbol.ensures)

pub primary-returns-in_err-sum : goal.primary-returns-in_err-sum
primary-returns-in_err-sum t c =
    let inside = primary_inside c.args.brackets c.args.self.now c.if-brackets-eq0.false (sym c.next_is.ensures ∙ c.if-not-next_is.false) in
    GivesWithin-from_err _ _ _ _ _ c.from_residual-in_err-sum.ensures.1
    (λ f e. inside ∙ within_no_inside OpenParenthesis CloseParenthesis (sum_at (c.args.brackets - 1)) c.args.self.now c.in_ok-symbol.field-0 c.symbol.new.self f c.in_ok-symbol.ensures e) c.in_err-sum.ensures

pub primary-returns-in_err-symbol-2 : goal.primary-returns-in_err-symbol-2
primary-returns-in_err-symbol-2 t c =
    let inside = primary_inside c.args.brackets c.args.self.now c.if-brackets-eq0.false (sym c.next_is.ensures ∙ c.if-not-next_is.false) in
    GivesWithin-from_err _ _ _ _ _ c.from_residual-in_err-symbol-2.ensures.1
    (λ f e. inside ∙ within_no_closing OpenParenthesis CloseParenthesis (sum_at (c.args.brackets - 1)) c.args.self.now c.in_ok-symbol.field-0 c.symbol.new.self (expression_of c.in_ok-sum.sum) c.sum.new.self f
    c.in_ok-symbol.ensures c.in_ok-sum.ensures e) (FailsWithin-shallow _ _ c.in_err-symbol-2.ensures)

pub primary-returns : goal.primary-returns
primary-returns t c =
    let inside = primary_inside c.args.brackets c.args.self.now c.if-brackets-eq0.false (sym c.next_is.ensures ∙ c.if-not-next_is.false) in
    inside ∙ within_whole OpenParenthesis CloseParenthesis (sum_at (c.args.brackets - 1)) c.args.self.now c.in_ok-symbol.field-0 c.symbol.new.self (expression_of c.in_ok-sum.sum) c.sum.new.self c.in_ok-symbol-2.field-0 c.symbol-2.new.self
    c.in_ok-symbol.ensures c.in_ok-sum.ensures c.in_ok-symbol-2.ensures
