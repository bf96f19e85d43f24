-- What is read of arithmetic and of rules, as deep as brackets may be nested.
use Rattle.std.specs.Prelude.{ℕ, None, zero, suc, List, [], ◌∷◌, Bool, true, drop, Ok, Err, if◌then◌else◌}
use Rattle.rbg_macro.specs.Token.{Lexeme}
use Rattle.rbg_macro.specs.declared.token.Symbol.{Symbol}
use Rattle.rbg_macro.specs.declared.token.Symbol.TheVariants.{DoubleArrow, Arrow, Equals, Plus, Minus, Star, OpenParenthesis, CloseParenthesis, OpenBracket, CloseBracket, OpenBrace, CloseBrace, Comma, Dollar, Question, Exclamation}
use Rattle.rbg_macro.specs.Kinds.{opens, is_number_kind, is_symbol}
use Rattle.rbg_macro.specs.declared.token.TokenKind.{TokenKind}
use Rattle.rbg_macro.specs.declared.token.TokenKind.TheVariants as kinds
use Rattle.rbg_grammar.specs.declared.expression.Rank.{Rank}
use Rattle.rbg_grammar.specs.declared.expression.Rank.TheVariants as ranks
use Rattle.rbg_grammar.specs.Grammar.{operator_of, relation_of}
use Rattle.rbg_grammar.specs.Tree.{SpeltExpression, SpeltOperand, SpeltRule, first_of, in_chain, act, assign, compare, positive, negative, star, choice, no_rules, sequence_of, choice_of}
use Rattle.rbg_grammar.specs.Reading.{misfit, too_deep, Reading, ◌>>=◌, next_is, symbol_at, name_at, number_at, is_in, one_of_at, repeated_at, after_at, separated_at, within_at, open_atom_at, on_at, off_at, in_sequence}

-- the bracket at the front is one too many
abbrev pub too_deep_at : {A : Type 0} → List Lexeme → Reading A
too_deep_at [] = Err (misfit None)
too_deep_at (t ∷ ts) = Err (too_deep t.at)

-- a token of this kind is an operator of this rank
abbrev pub is_operator : Rank → TokenKind → Bool
is_operator rank k = is_in (operator_of rank) k

unfoldable pub number_or_name_at : List Lexeme → Reading SpeltExpression
number_or_name_at ts =
    if next_is is_number_kind ts then (do
      n ← number_at ts
      Ok (SpeltExpression.number n.0, n.1))
    else (do
      n ← name_at ts
      Ok (SpeltExpression.name n.0, n.1))

unfoldable pub factor_at : (List Lexeme → Reading SpeltExpression) → List Lexeme → Reading SpeltExpression
factor_at primary ts =
    if next_is (is_symbol Minus) ts then (do
      e ← after_at Minus primary ts
      Ok (SpeltExpression.negated e.0, e.1))
    else primary ts

unfoldable pub further_operand_at :
    Rank → (List Lexeme → Reading SpeltExpression) → List Lexeme → Reading SpeltOperand
further_operand_at rank operand ts = do
  o ← one_of_at (operator_of rank) ts
  e ← operand o.1
  Ok ((o.0, e.0), e.1)

unfoldable pub chain_at : Rank → (List Lexeme → Reading SpeltExpression) → List Lexeme → Reading SpeltExpression
chain_at rank operand ts = do
  e ← operand ts
  os ← repeated_at (is_operator rank) (further_operand_at rank operand) e.1
  Ok (in_chain ((first_of rank, e.0) ∷ os.0), os.1)

-- the operands of a sum are products, and those of a product are factors
abbrev pub operand_at : Rank → (List Lexeme → Reading SpeltExpression) → List Lexeme → Reading SpeltExpression
operand_at ranks.Sum primary = chain_at ranks.Product (factor_at primary)
operand_at ranks.Product primary = factor_at primary

abbrev pub sum_over_at : (List Lexeme → Reading SpeltExpression) → List Lexeme → Reading SpeltExpression
sum_over_at primary = chain_at ranks.Sum (operand_at ranks.Sum primary)

-- a number, a name or a sum in parentheses, with at most this many brackets open at once
unfoldable pub primary_at : ℕ → List Lexeme → Reading SpeltExpression
primary_at zero ts = if next_is (is_symbol OpenParenthesis) ts then too_deep_at ts else number_or_name_at ts
primary_at (suc n) ts =
    if next_is (is_symbol OpenParenthesis) ts
    then within_at OpenParenthesis CloseParenthesis (sum_over_at (primary_at n)) ts
    else number_or_name_at ts

unfoldable pub sum_at : ℕ → List Lexeme → Reading SpeltExpression
sum_at n ts = sum_over_at (primary_at n) ts

unfoldable pub comparison_at : (List Lexeme → Reading SpeltExpression) → List Lexeme → Reading SpeltRule
comparison_at sum ts = do
  e ← sum ts
  r ← one_of_at relation_of e.1
  f ← sum r.1
  Ok (act (compare e.0 r.0 f.0), f.1)

unfoldable pub assignment_at : (List Lexeme → Reading SpeltExpression) → List Lexeme → Reading SpeltRule
assignment_at sum ts = do
  n ← name_at ts
  e ← after_at Equals sum n.1
  Ok (act (assign n.0 e.0), e.1)

unfoldable pub assignments_at : (List Lexeme → Reading SpeltExpression) → List Lexeme → Reading SpeltRule
assignments_at sum ts = do
  rs ← separated_at Comma (assignment_at sum) ts
  Ok (in_sequence rs.0, rs.1)

-- the parts of a sum of rules as one rule
abbrev pub in_choice : List SpeltRule → SpeltRule
in_choice [] = choice no_rules
in_choice (r ∷ rs) = choice_of r rs

-- the place of a pattern and the rules in it, if this sign is after its brace
unfoldable pub pattern_at : Symbol → (List Lexeme → Reading SpeltRule) → List Lexeme → Reading (ℕ × SpeltRule)
pattern_at sign rules ts = do
  at ← symbol_at OpenBrace ts
  r ← after_at sign rules at.1
  end ← symbol_at CloseBrace r.1
  Ok ((at.0, r.0), end.1)

unfoldable pub positive_at : (List Lexeme → Reading SpeltRule) → List Lexeme → Reading SpeltRule
positive_at rules ts = do
  p ← pattern_at Question rules ts
  Ok (act (positive p.0.0 p.0.1), p.1)

unfoldable pub negative_at : (List Lexeme → Reading SpeltRule) → List Lexeme → Reading SpeltRule
negative_at rules ts = do
  p ← pattern_at Exclamation rules ts
  Ok (act (negative p.0.0 p.0.1), p.1)

unfoldable pub in_braces_at :
    (List Lexeme → Reading SpeltRule) → (List Lexeme → Reading SpeltExpression) → List Lexeme → Reading SpeltRule
in_braces_at rules sum ts =
    if next_is (is_symbol Dollar) (drop 1 ts)
    then within_at OpenBrace CloseBrace (after_at Dollar (comparison_at sum)) ts
    else (if next_is (is_symbol Question) (drop 1 ts) then positive_at rules ts
    else (if next_is (is_symbol Exclamation) (drop 1 ts) then negative_at rules ts else on_at ts))

unfoldable pub in_brackets_at : (List Lexeme → Reading SpeltExpression) → List Lexeme → Reading SpeltRule
in_brackets_at sum ts =
    if next_is (is_symbol Dollar) (drop 1 ts)
    then within_at OpenBracket CloseBracket (after_at Dollar (assignments_at sum)) ts
    else off_at ts

unfoldable pub bracket_atom_at :
    (List Lexeme → Reading SpeltRule) → (List Lexeme → Reading SpeltExpression) → List Lexeme → Reading SpeltRule
bracket_atom_at rules sum ts =
    if next_is (is_symbol OpenParenthesis) ts then within_at OpenParenthesis CloseParenthesis rules ts
    else (if next_is (is_symbol OpenBrace) ts then in_braces_at rules sum ts else in_brackets_at sum ts)

unfoldable pub item_at : (List Lexeme → Reading SpeltRule) → List Lexeme → Reading SpeltRule
item_at atom ts = do
  r ← atom ts
  if next_is (is_symbol Star) r.1 then (do
    at ← symbol_at Star r.1
    Ok (star r.0, at.1))
      else Ok r

-- whether an atom begins with such a token
abbrev pub begins_atom : TokenKind → Bool
begins_atom kinds.Name = true
begins_atom (kinds.Symbol Arrow) = true
begins_atom (kinds.Symbol DoubleArrow) = true
begins_atom kind = opens kind

unfoldable pub sequence_at : (List Lexeme → Reading SpeltRule) → List Lexeme → Reading SpeltRule
sequence_at atom ts = do
  r ← item_at atom ts
  rs ← repeated_at begins_atom (item_at atom) r.1
  Ok (sequence_of r.0 rs.0, rs.1)

unfoldable pub rules_over_at : (List Lexeme → Reading SpeltRule) → List Lexeme → Reading SpeltRule
rules_over_at atom ts = do
  rs ← separated_at Plus (sequence_at atom) ts
  Ok (in_choice rs.0, rs.1)

-- an atom with at most this many brackets open at once
unfoldable pub atom_at : ℕ → List Lexeme → Reading SpeltRule
atom_at zero ts = if next_is opens ts then too_deep_at ts else open_atom_at ts
atom_at (suc n) ts =
    if next_is opens ts then bracket_atom_at (rules_over_at (atom_at n)) (sum_at n) ts else open_atom_at ts

unfoldable pub rules_at : ℕ → List Lexeme → Reading SpeltRule
rules_at n ts = rules_over_at (atom_at n) ts
