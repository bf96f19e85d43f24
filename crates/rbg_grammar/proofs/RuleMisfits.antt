-- Where the readings of arithmetic and of rules stop.
use Rattle.std.proofs.Common.{◌≡◌, ℕ, zero, suc, List, [], ◌∷◌, ◌++◌, drop, Bool, true, false, cond, Some, None, Result, Ok, Err, refl, ap, ◌∙◌, inl, inr}
use Rattle.rbg_macro.proofs.TextCommon.{Lexeme, opens, is_name_kind, is_number_kind, is_symbol}
use Rattle.rbg_macro.specs.declared.token.Symbol.{Symbol}
use Rattle.rbg_macro.specs.declared.token.Symbol.TheVariants.{DoubleArrow, Arrow, DoubleEquals, Equals, Plus, Minus, Star, OpenParenthesis, CloseParenthesis, OpenBracket, CloseBracket, OpenBrace, CloseBrace, Comma, Dollar, Question, Exclamation}
use Rattle.rbg_macro.specs.declared.token.TokenKind.{TokenKind}
use Rattle.rbg_macro.specs.declared.token.TokenKind.TheVariants as kinds
use Rattle.rbg_base.specs.declared.relation.Relation.TheVariants as relations
use Rattle.rbg_base.specs.declared.operator.Operator.TheVariants as operators
use Rattle.rbg_grammar.proofs.Common.{Rank, SpeltExpression, SpeltRule, SpeltAction, act, shift, switch, assign, compare, positive, negative, star, first_of, in_chain, sequence_of, IsSymbol, Separated, separated, within, Fault, misfit, Reading, ◌>>=◌, TakesSome, next_is, symbol_at, name_at, one_of_at, repeated_at, after_at, listed_at, within_at, open_atom_at, on_at, off_at, in_sequence, too_deep_at, pattern_at, is_operator, number_or_name_at, factor_at, further_operand_at, chain_at, operand_at, sum_over_at, primary_at, sum_at, comparison_at, assignment_at, assignments_at, in_choice, positive_at, negative_at, in_braces_at, in_brackets_at, bracket_atom_at, item_at, begins_atom, sequence_at, rules_over_at, atom_at, rules_at}
use Rattle.rbg_grammar.specs.declared.expression.Rank.TheVariants as ranks
use Rattle.rbg_grammar.specs.Grammar.{relation_of, operator_of, IsOperator, IsFurtherOperand, further_operand, IsChain, chained, IsFactor, plain, minus, IsSumOver, IsNumberOrName, number as a_number, name as a_name, IsPrimary, IsSum, IsRelation, IsOpenAtom, moves, switches, keeps, IsComparison, comparison, IsAssignment, assignment, AreAssignments, assignments, IsBracketAtom, groups, stands_on, puts, compares, assigns, IsItem, once, starred, IsSequence, in_turn, AreRulesOver, either, IsAtom, AreRules}
use Rattle.rbg_grammar.proofs.Patterns.{IsPattern, pattern, positive_is, negative_is}
use Rattle.rbg_grammar.proofs.Misfits.{Judged, Judges, Beyond, seen, given, bind, choose, choose_at, same_reader}
use Rattle.rbg_grammar.proofs.MisfitCombinators.{one_of_judged, symbol_judged, name_judged, number_judged, after_judged, closed_as, closed_at, closed_judged, made_judged, within_judged, repeated_judged, separated_judged}
use Rattle.rbg_grammar.proofs.PhraseLaws.{further_operand_takes_some, assignment_takes_some, item_takes_some, sequence_takes_some}
use Rattle.rbg_grammar.proofs.SectionMisfits.{names_judged}

number_or_name_judged : Judges IsNumberOrName number_or_name_at
unfolding number_or_name_at
number_or_name_judged =
    choose (next_is is_number_kind) (λ t us vs. refl) (bind number_judged (λ n. Ok (SpeltExpression.number n.0, n.1)) (λ x u d. given (λ tail. a_number (d tail))))
    (bind name_judged (λ n. Ok (SpeltExpression.name n.0, n.1)) (λ x u d. given (λ tail. a_name (d tail))))

-- a sum or a product, by its operands
operator_judged : (rank : Rank) → Judges (IsOperator rank) (one_of_at (operator_of rank))
operator_judged ranks.Sum = one_of_judged (operator_of ranks.Sum) (record { kind = kinds.Symbol Plus; text = []; at = 0 }) operators.Plus refl
operator_judged ranks.Product = one_of_judged (operator_of ranks.Product) (record { kind = kinds.Symbol Star; text = []; at = 0 }) operators.Times refl

module _ (rank : Rank) {Operand : List Lexeme → SpeltExpression → List Lexeme → Type 0} {operand : List Lexeme → Reading SpeltExpression} (j : Judges Operand operand) where
  further_judged : Judges (IsFurtherOperand rank Operand) (further_operand_at rank operand)
  unfolding further_operand_at
  further_judged =
      bind (operator_judged rank) (λ o. operand o.1 >>= λ e. Ok ((o.0, e.0), e.1))
      (λ o u d. bind j (λ e. Ok ((o, e.0), e.1)) (λ x v e. given (λ tail. further_operand (d (v ++ tail)) (e tail))))

  chain_judged : TakesSome (further_operand_at rank operand) → Judges (IsChain rank Operand) (chain_at rank operand)
  unfolding chain_at
  chain_judged some =
      bind j (λ e. repeated_at (is_operator rank) (further_operand_at rank operand) e.1 >>= λ os. Ok (in_chain ((first_of rank, e.0) ∷ os.0), os.1))
      (λ x u d. bind (repeated_judged (IsFurtherOperand rank Operand) (further_operand_at rank operand) (is_operator rank) some further_judged) (λ os. Ok (in_chain ((first_of rank, x) ∷ os.0), os.1))
      (λ os v e. given (λ tail. chained (d (v ++ tail)) (e tail))))

-- arithmetic over its smallest parts
module _ (Primary : List Lexeme → SpeltExpression → List Lexeme → Type 0) (primary : List Lexeme → Reading SpeltExpression) (j : Judges Primary primary) where
  factor_judged : Judges (IsFactor Primary) (factor_at primary)
  unfolding factor_at
  factor_judged =
      choose (next_is (is_symbol Minus)) (λ t us vs. refl) (bind (after_judged Minus j) (λ e. Ok (SpeltExpression.negated e.0, e.1)) (λ x u d. given (λ tail. minus (d tail))))
      (seen (λ ts x rest d. plain d) j)

  sum_over_judged : TakesSome (further_operand_at ranks.Product (operand_at ranks.Product primary)) → TakesSome (further_operand_at ranks.Sum (operand_at ranks.Sum primary)) → Judges (IsSumOver Primary) (sum_over_at primary)
  sum_over_judged some_factor some_term = chain_judged ranks.Sum (chain_judged ranks.Product factor_judged some_factor) some_term

-- if no bracket may be opened
deep_at : {A : Type 0} (P : List Lexeme → A → List Lexeme → Type 0) (test : TokenKind → Bool) (ts : List Lexeme) → next_is test ts ≡ true → Judged P too_deep_at ts (too_deep_at ts)
deep_at P test [] e = cc
deep_at P test (t ∷ ts) e = λ none. cc

no_brackets : Judges (IsPrimary zero) (primary_at zero)
unfolding primary_at
no_brackets = record {
  at = λ ts. choose_at IsNumberOrName (next_is (is_symbol OpenParenthesis)) (λ t us vs. refl) too_deep_at number_or_name_at ts (λ e. deep_at IsNumberOrName (is_symbol OpenParenthesis) ts e) (λ e. number_or_name_judged.at ts);
}

module _ (n : ℕ) (j : Judges (IsPrimary n) (primary_at n)) where
  brackets_judged : Judges (IsPrimary (suc n)) (primary_at (suc n))
  unfolding primary_at
  brackets_judged =
      choose (next_is (is_symbol OpenParenthesis)) (λ t us vs. refl)
      (seen (λ ts x rest d. inr d) (within_judged OpenParenthesis CloseParenthesis (sum_over_judged (IsPrimary n) (primary_at n) j (further_operand_takes_some ranks.Product n) (further_operand_takes_some ranks.Sum n))))
      (seen (λ ts x rest d. inl d) number_or_name_judged)

primary_judged : (n : ℕ) → Judges (IsPrimary n) (primary_at n)
primary_judged zero = no_brackets
primary_judged (suc n) = brackets_judged n (primary_judged n)

sum_judged : (n : ℕ) → Judges (IsSum n) (sum_at n)
unfolding sum_at
sum_judged n = sum_over_judged (IsPrimary n) (primary_at n) (primary_judged n) (further_operand_takes_some ranks.Product n) (further_operand_takes_some ranks.Sum n)

relation_judged : Judges IsRelation (one_of_at relation_of)
relation_judged = one_of_judged relation_of (record { kind = kinds.Symbol DoubleEquals; text = []; at = 0 }) relations.Equal refl

-- comparisons and assignments
module _ (Sum : List Lexeme → SpeltExpression → List Lexeme → Type 0) (sum' : List Lexeme → Reading SpeltExpression) (j : Judges Sum sum') where
  comparison_judged : Judges (IsComparison Sum) (comparison_at sum')
  unfolding comparison_at
  comparison_judged =
      bind j (λ e. one_of_at relation_of e.1 >>= λ r. sum' r.1 >>= λ f. Ok (act (compare e.0 r.0 f.0), f.1))
      (λ x u d. bind relation_judged (λ r. sum' r.1 >>= λ f. Ok (act (compare x r.0 f.0), f.1))
      (λ r v e. bind j (λ f. Ok (act (compare x r f.0), f.1)) (λ y w f. given (λ tail. comparison (d (v ++ (w ++ tail))) (e (w ++ tail)) (f tail)))))

  assignment_judged : Judges (IsAssignment Sum) (assignment_at sum')
  unfolding assignment_at
  assignment_judged =
      bind name_judged (λ n. after_at Equals sum' n.1 >>= λ e. Ok (act (assign n.0 e.0), e.1))
      (λ n u d. bind (after_judged Equals j) (λ e. Ok (act (assign n e.0), e.1)) (λ x v e. given (λ tail. assignment (d (v ++ tail)) (e tail))))

  assignments_from : {ts rest : List Lexeme} {rs : List SpeltRule} → Separated Comma (IsAssignment Sum) ts rs rest → AreAssignments Sum ts (in_sequence rs) rest
  assignments_from (separated d more) = assignments (separated d more)

  assignments_judged : TakesSome (assignment_at sum') → Judges (AreAssignments Sum) (assignments_at sum')
  unfolding assignments_at
  assignments_judged some = bind (separated_judged Comma some assignment_judged) (λ rs. Ok (in_sequence rs.0, rs.1)) (λ rs u d. given (λ tail. assignments_from (d tail)))

-- a choice by the token after an opening bracket
bound_twice : {A B C : Type 0} (r : Result A Fault) (f : A → Result B Fault) (g : B → Result C Fault) → ((r >>= f) >>= g) ≡ (r >>= λ x. f x >>= g)
bound_twice (Ok x) f g = refl
bound_twice (Err e) f g = refl

chosen_within : {A : Type 0} (b c : Bool) (x : Lexeme × List Lexeme) (e : Fault) (here there : ℕ × List Lexeme → Reading A) (both : ℕ × List Lexeme → Reading A)
    → both (x.0.at, x.1) ≡ cond c (here (x.0.at, x.1)) (there (x.0.at, x.1))
    → cond c ((cond {A = Reading Lexeme} b (Ok x) (Err e) >>= λ t. Ok (t.0.at, t.1)) >>= here) ((cond {A = Reading Lexeme} b (Ok x) (Err e) >>= λ t. Ok (t.0.at, t.1)) >>= there)
    ≡ ((cond {A = Reading Lexeme} b (Ok x) (Err e) >>= λ t. Ok (t.0.at, t.1)) >>= both)
chosen_within true true x e here there both is = rw is
chosen_within true false x e here there both is = rw is
chosen_within false true x e here there both is = refl
chosen_within false false x e here there both is = refl

second_chosen : {A : Type 0} (o : Symbol) (test : TokenKind → Bool) (here there : ℕ × List Lexeme → Reading A) (ts : List Lexeme)
    → cond (next_is test (drop 1 ts)) (symbol_at o ts >>= here) (symbol_at o ts >>= there) ≡ (symbol_at o ts >>= λ q. cond (next_is test q.1) (here q) (there q))
unfolding symbol_at
second_chosen o test here there [] = refl
second_chosen o test here there (t ∷ ts) = chosen_within (is_symbol o t.kind) (next_is test ts) (t, ts) (misfit (Some t.at)) here there (λ q. cond (next_is test q.1) (here q) (there q)) refl

-- the atoms in brackets
module _ (Rules : List Lexeme → SpeltRule → List Lexeme → Type 0) (rules' : List Lexeme → Reading SpeltRule) (rules_j : Judges Rules rules')
    (Sum : List Lexeme → SpeltExpression → List Lexeme → Type 0) (sum' : List Lexeme → Reading SpeltExpression) (j : Judges Sum sum') (some : TakesSome (assignment_at sum')) where
  compare_part : ℕ × List Lexeme → Reading SpeltRule
  compare_part q = closed_at CloseBrace (after_at Dollar (comparison_at sum')) q.1

  pattern_part : Symbol → ℕ × List Lexeme → Reading (ℕ × SpeltRule)
  pattern_part sign q = after_at sign rules' q.1 >>= λ r. symbol_at CloseBrace r.1 >>= λ end. Ok ((q.0, r.0), end.1)

  hold_part : ℕ × List Lexeme → Reading SpeltRule
  hold_part q = pattern_part Question q >>= λ p. Ok (act (positive p.0.0 p.0.1), p.1)

  fail_part : ℕ × List Lexeme → Reading SpeltRule
  fail_part q = pattern_part Exclamation q >>= λ p. Ok (act (negative p.0.0 p.0.1), p.1)

  on_part : ℕ × List Lexeme → Reading SpeltRule
  on_part q = closed_at CloseBrace (listed_at is_name_kind name_at) q.1 >>= λ ns. Ok (act (SpeltAction.on ns.0), ns.1)

  braces_part : ℕ × List Lexeme → Reading SpeltRule
  braces_part q = cond (next_is (is_symbol Dollar) q.1) (compare_part q) (cond (next_is (is_symbol Question) q.1) (hold_part q) (cond (next_is (is_symbol Exclamation) q.1) (fail_part q) (on_part q)))

  braces_same : (ts : List Lexeme) → in_braces_at rules' sum' ts ≡ (symbol_at OpenBrace ts >>= braces_part)
  unfolding in_braces_at within_at pattern_at positive_at negative_at on_at compare_part pattern_part hold_part fail_part on_part braces_part
  braces_same ts =
      let D = next_is (is_symbol Dollar) (drop 1 ts) in
      let Q = next_is (is_symbol Question) (drop 1 ts) in
      let E = next_is (is_symbol Exclamation) (drop 1 ts) in
      let opened = symbol_at OpenBrace ts in
      ap (λ (u : Reading SpeltRule). cond D (opened >>= compare_part) (cond Q u (cond E (negative_at rules' ts) (on_at ts)))) (bound_twice opened (pattern_part Question) (λ p. Ok (act (positive p.0.0 p.0.1), p.1)))
      ∙ ap (λ (u : Reading SpeltRule). cond D (opened >>= compare_part) (cond Q (opened >>= hold_part) (cond E u (on_at ts)))) (bound_twice opened (pattern_part Exclamation) (λ p. Ok (act (negative p.0.0 p.0.1), p.1)))
      ∙ ap (λ (u : Reading SpeltRule). cond D (opened >>= compare_part) (cond Q (opened >>= hold_part) (cond E (opened >>= fail_part) u)))
      (bound_twice opened (λ q. closed_at CloseBrace (listed_at is_name_kind name_at) q.1) (λ ns. Ok (act (SpeltAction.on ns.0), ns.1)))
      ∙ ap (λ (u : Reading SpeltRule). cond D (opened >>= compare_part) (cond Q (opened >>= hold_part) u)) (second_chosen OpenBrace (is_symbol Exclamation) fail_part on_part ts)
      ∙ ap (λ (u : Reading SpeltRule). cond D (opened >>= compare_part) u)
      (second_chosen OpenBrace (is_symbol Question) hold_part (λ q. cond (next_is (is_symbol Exclamation) q.1) (fail_part q) (on_part q)) ts)
      ∙ second_chosen OpenBrace (is_symbol Dollar) compare_part (λ q. cond (next_is (is_symbol Question) q.1) (hold_part q) (cond (next_is (is_symbol Exclamation) q.1) (fail_part q) (on_part q))) ts

  module _ (at : ℕ) (u : List Lexeme) (d : (tail : List Lexeme) → IsSymbol OpenBrace (u ++ tail) at tail) where
    compare_part_judged : Judges (Beyond u (IsBracketAtom Rules Sum)) (λ us. compare_part (at, us))
    unfolding compare_part
    compare_part_judged = seen (λ ts x rest k. closed_as k (λ mid end e f. compares (within (d ts) e f))) (closed_judged CloseBrace (after_judged Dollar (comparison_judged Sum sum' j)))

    pattern_part_judged : (sign : Symbol) → Judges (Beyond u (IsPattern sign Rules)) (λ us. pattern_part sign (at, us))
    unfolding pattern_part
    pattern_part_judged sign =
        bind (after_judged sign rules_j) (λ r. symbol_at CloseBrace r.1 >>= λ end. Ok ((at, r.0), end.1))
        (λ x v e. bind (symbol_judged CloseBrace) (λ end. Ok ((at, x), end.1)) (λ end w f. given (λ tail. pattern (d (v ++ (w ++ tail))) (e (w ++ tail)) (f tail))))

    hold_part_judged : Judges (Beyond u (IsBracketAtom Rules Sum)) (λ us. hold_part (at, us))
    unfolding hold_part
    hold_part_judged = bind (pattern_part_judged Question) (λ p. Ok (act (positive p.0.0 p.0.1), p.1)) (λ p v e. given (λ tail. positive_is (u ++ (v ++ tail)) p tail (e tail)))

    fail_part_judged : Judges (Beyond u (IsBracketAtom Rules Sum)) (λ us. fail_part (at, us))
    unfolding fail_part
    fail_part_judged = bind (pattern_part_judged Exclamation) (λ p. Ok (act (negative p.0.0 p.0.1), p.1)) (λ p v e. given (λ tail. negative_is (u ++ (v ++ tail)) p tail (e tail)))

    on_part_judged : Judges (Beyond u (IsBracketAtom Rules Sum)) (λ us. on_part (at, us))
    unfolding on_part
    on_part_judged = made_judged (IsBracketAtom Rules Sum) u (λ ns. act (SpeltAction.on ns)) (λ ts ns rest k. stands_on k) d names_judged

    braces_part_judged : Judges (Beyond u (IsBracketAtom Rules Sum)) (λ us. braces_part (at, us))
    unfolding braces_part
    braces_part_judged =
        choose (next_is (is_symbol Dollar)) (λ t us vs. refl) compare_part_judged
        (choose (next_is (is_symbol Question)) (λ t us vs. refl) hold_part_judged (choose (next_is (is_symbol Exclamation)) (λ t us vs. refl) fail_part_judged on_part_judged))

  braces_judged : Judges (IsBracketAtom Rules Sum) (in_braces_at rules' sum')
  braces_judged = same_reader braces_same (bind (symbol_judged OpenBrace) braces_part braces_part_judged)

  assign_part : ℕ × List Lexeme → Reading SpeltRule
  assign_part q = closed_at CloseBracket (after_at Dollar (assignments_at sum')) q.1

  off_part : ℕ × List Lexeme → Reading SpeltRule
  off_part q = closed_at CloseBracket name_at q.1 >>= λ n. Ok (act (SpeltAction.off n.0), n.1)

  brackets_part : ℕ × List Lexeme → Reading SpeltRule
  brackets_part q = cond (next_is (is_symbol Dollar) q.1) (assign_part q) (off_part q)

  brackets_same : (ts : List Lexeme) → in_brackets_at sum' ts ≡ (symbol_at OpenBracket ts >>= brackets_part)
  unfolding in_brackets_at within_at off_at assign_part off_part brackets_part
  brackets_same ts =
      let opened = symbol_at OpenBracket ts in
      ap (λ (u : Reading SpeltRule). cond (next_is (is_symbol Dollar) (drop 1 ts)) (opened >>= assign_part) u)
      (bound_twice opened (λ q. closed_at CloseBracket name_at q.1) (λ n. Ok (act (SpeltAction.off n.0), n.1)))
      ∙ second_chosen OpenBracket (is_symbol Dollar) assign_part off_part ts

  module _ (at : ℕ) (u : List Lexeme) (d : (tail : List Lexeme) → IsSymbol OpenBracket (u ++ tail) at tail) where
    assign_part_judged : Judges (Beyond u (IsBracketAtom Rules Sum)) (λ us. assign_part (at, us))
    unfolding assign_part
    assign_part_judged = seen (λ ts x rest k. closed_as k (λ mid end e f. assigns (within (d ts) e f))) (closed_judged CloseBracket (after_judged Dollar (assignments_judged Sum sum' j some)))

    off_part_judged : Judges (Beyond u (IsBracketAtom Rules Sum)) (λ us. off_part (at, us))
    unfolding off_part
    off_part_judged = made_judged (IsBracketAtom Rules Sum) u (λ n. act (SpeltAction.off n)) (λ ts n rest k. puts k) d name_judged

    brackets_part_judged : Judges (Beyond u (IsBracketAtom Rules Sum)) (λ us. brackets_part (at, us))
    unfolding brackets_part
    brackets_part_judged = choose (next_is (is_symbol Dollar)) (λ t us vs. refl) assign_part_judged off_part_judged

  in_brackets_judged : Judges (IsBracketAtom Rules Sum) (in_brackets_at sum')
  in_brackets_judged = same_reader brackets_same (bind (symbol_judged OpenBracket) brackets_part brackets_part_judged)

  bracket_atom_judged : Judges (IsBracketAtom Rules Sum) (bracket_atom_at rules' sum')
  unfolding bracket_atom_at
  bracket_atom_judged =
      choose (next_is (is_symbol OpenParenthesis)) (λ t us vs. refl) (seen (λ ts x rest d. groups d) (within_judged OpenParenthesis CloseParenthesis rules_j))
      (choose (next_is (is_symbol OpenBrace)) (λ t us vs. refl) braces_judged in_brackets_judged)

-- atoms without a bracket
open_atom_judged : Judges IsOpenAtom open_atom_at
unfolding open_atom_at
open_atom_judged =
    choose (next_is is_name_kind) (λ t us vs. refl) (bind name_judged (λ n. Ok (act (shift n.0), n.1)) (λ n u d. given (λ tail. moves (d tail))))
    (choose (next_is (is_symbol Arrow)) (λ t us vs. refl)
    (bind (symbol_judged Arrow) (λ at. name_at at.1 >>= λ n. Ok (act (switch at.0 (Some n.0)), n.1))
    (λ at u d. bind name_judged (λ n. Ok (act (switch at (Some n.0)), n.1)) (λ n v e. given (λ tail. switches (d (v ++ tail)) (e tail)))))
    (bind (symbol_judged DoubleArrow) (λ at. Ok (act (switch at.0 None), at.1)) (λ at u d. given (λ tail. keeps (d tail)))))

-- items, sequences and sums of atoms
module _ (Atom : List Lexeme → SpeltRule → List Lexeme → Type 0) (atom : List Lexeme → Reading SpeltRule) (j : Judges Atom atom) where
  item_judged : Judges (IsItem Atom) (item_at atom)
  unfolding item_at
  item_judged =
      bind j (λ r. cond (next_is (is_symbol Star) r.1) (symbol_at Star r.1 >>= λ at. Ok (star r.0, at.1)) (Ok r))
      (λ r u d. choose (next_is (is_symbol Star)) (λ t us vs. refl) (bind (symbol_judged Star) (λ at. Ok (star r, at.1)) (λ at v e. given (λ tail. starred (d (v ++ tail)) (e tail)))) (given (λ tail. once (d tail))))

  sequence_judged : TakesSome (item_at atom) → Judges (IsSequence Atom) (sequence_at atom)
  unfolding sequence_at
  sequence_judged some =
      bind item_judged (λ r. repeated_at begins_atom (item_at atom) r.1 >>= λ rs. Ok (sequence_of r.0 rs.0, rs.1))
      (λ r u d. bind (repeated_judged (IsItem Atom) (item_at atom) begins_atom some item_judged) (λ rs. Ok (sequence_of r rs.0, rs.1)) (λ rs v e. given (λ tail. in_turn (d (v ++ tail)) (e tail))))

  rules_from : {ts rest : List Lexeme} {rs : List SpeltRule} → Separated Plus (IsSequence Atom) ts rs rest → AreRulesOver Atom ts (in_choice rs) rest
  rules_from (separated d more) = either (separated d more)

  rules_over_judged : TakesSome (item_at atom) → TakesSome (sequence_at atom) → Judges (AreRulesOver Atom) (rules_over_at atom)
  unfolding rules_over_at
  rules_over_judged some some_sequence = bind (separated_judged Plus some_sequence (sequence_judged some)) (λ rs. Ok (in_choice rs.0, rs.1)) (λ rs u d. given (λ tail. rules_from (d tail)))

-- by how many brackets may be open at once
open_only : Judges (IsAtom zero) (atom_at zero)
unfolding atom_at
open_only = record { at = λ ts. choose_at IsOpenAtom (next_is opens) (λ t us vs. refl) too_deep_at open_atom_at ts (λ e. deep_at IsOpenAtom opens ts e) (λ e. open_atom_judged.at ts) }

module _ (n : ℕ) (j : Judges (IsAtom n) (atom_at n)) where
  atoms_judged : Judges (IsAtom (suc n)) (atom_at (suc n))
  unfolding atom_at
  atoms_judged =
      choose (next_is opens) (λ t us vs. refl)
      (seen (λ ts x rest d. inr d)
      (bracket_atom_judged (AreRules n) (rules_over_at (atom_at n)) (rules_over_judged (IsAtom n) (atom_at n) j (item_takes_some n) (sequence_takes_some n)) (IsSum n) (sum_at n) (sum_judged n) (assignment_takes_some n)))
      (seen (λ ts x rest d. inl d) open_atom_judged)

atom_judged : (n : ℕ) → Judges (IsAtom n) (atom_at n)
atom_judged zero = open_only
atom_judged (suc n) = atoms_judged n (atom_judged n)

pub rules_judged : (n : ℕ) → Judges (AreRules n) (rules_at n)
unfolding rules_at
rules_judged n = rules_over_judged (IsAtom n) (atom_at n) (atom_judged n) (item_takes_some n) (sequence_takes_some n)
