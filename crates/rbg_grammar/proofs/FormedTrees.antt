-- What the grammar spells is a tree without a sequence, a sum or a product of fewer than two parts.
use Rattle.rbg_base.proofs.Common.{◌≡◌, ◌<◌, ◌&&◌, ◌||◌, ℕ, zero, suc, List, [], ◌∷◌, length, Bool, true, false, Some, refl, inl, inr, arith, All, All-nil, All-cons, All-head, All-tail}
use Rattle.rbg_macro.specs.Token.{Lexeme}
use Rattle.rbg_macro.specs.declared.token.Symbol.{Symbol}
use Rattle.rbg_macro.specs.declared.token.Symbol.TheVariants as symbols
use Rattle.rbg_macro.specs.declared.token.TokenKind.{TokenKind}
use Rattle.rbg_macro.specs.declared.token.TokenKind.TheVariants as kinds
use Rattle.rbg_base.specs.declared.operator.Operator.{Operator}
use Rattle.rbg_base.specs.declared.operator.Operator.TheVariants as operators
use Rattle.rbg_grammar.proofs.Common.{Rank, SpeltExpression, SpeltOperands, no_operands, more_operands, SpeltOperand, SpeltRule, SpeltRules, no_rules, more_rules, SpeltBoard, operands_after, first_of, in_chain, rules_after, sequence_of, choice_of, one_of, Repeated, done, again, After, after, Separated, separated, Within, within, is_of_rank, is_first_of, are_of_rank, make_a_chain, has_two_rules, is_formed_expression, are_formed_operands, is_formed, are_formed, has_its_directions}
use Rattle.rbg_grammar.specs.declared.expression.Rank.TheVariants as ranks
use Rattle.rbg_grammar.specs.Grammar.{operator_of, IsOperator, IsFurtherOperand, further_operand, IsChain, chained, IsFactor, plain, minus, IsTerm, IsSumOver, IsNumberOrName, number, name, IsPrimary, IsSum, IsOpenAtom, moves, switches, keeps, IsComparison, comparison, IsAssignment, assignment, AreAssignments, assignments, IsBracketAtom, groups, stands_on, puts, compares, assigns, holds, fails, IsItem, once, starred, IsSequence, in_turn, AreRulesOver, either, IsAtom, AreRules, IsRectangle, four, IsHexagon, six, IsGraph, vertices, generated, IsBoard, rectangular, hexagonal, graphic}

pub both : {a b : Bool} → a ≡ true → b ≡ true → (a && b) ≡ true
both h k = rw (h, k)

-- what holds of each phrase holds of each part of a list of phrases
pub all_repeated : {A : Type 0} {P : List Lexeme → A → List Lexeme → Type 0} (Q : A → Type 0) → ((ts : List Lexeme) (x : A) (rest : List Lexeme) → P ts x rest → Q x)
    → {ts rest : List Lexeme} {xs : List A} → Repeated P ts xs rest → All Q xs
all_repeated Q each done = All-nil Q
all_repeated Q each (again {ts = ts} {mid = mid} {x = x} {xs = xs} d more) = All-cons Q x xs (each ts x mid d) (all_repeated Q each more)

inside_after : {A : Type 0} {P : List Lexeme → A → List Lexeme → Type 0} (Q : A → Type 0) {s : Symbol} → ((ts : List Lexeme) (x : A) (rest : List Lexeme) → P ts x rest → Q x)
    → (ts : List Lexeme) (x : A) (rest : List Lexeme) → After s P ts x rest → Q x
inside_after Q each ts x rest (after {mid = mid} here d) = each mid x rest d

inside_brackets : {A : Type 0} {P : List Lexeme → A → List Lexeme → Type 0} (Q : A → Type 0) {o c : Symbol} → ((ts : List Lexeme) (x : A) (rest : List Lexeme) → P ts x rest → Q x)
    → (ts : List Lexeme) (x : A) (rest : List Lexeme) → Within o c P ts x rest → Q x
inside_brackets Q each ts x rest (within {first = first} {last = last} opening d closing) = each first x last d

pub all_separated : {A : Type 0} {P : List Lexeme → A → List Lexeme → Type 0} (Q : A → Type 0) {s : Symbol} → ((ts : List Lexeme) (x : A) (rest : List Lexeme) → P ts x rest → Q x)
    → {ts rest : List Lexeme} {xs : List A} → Separated s P ts xs rest → All Q xs
all_separated Q each (separated {ts = ts} {mid = mid} {x = x} {xs = xs} d more) = All-cons Q x xs (each ts x mid d) (all_repeated Q (inside_after Q each) more)

-- the parts of sums and products
abbrev IsFormedExpression : SpeltExpression → Type 0
IsFormedExpression e = is_formed_expression e ≡ true

-- an operand of the rank
record IsFormedOperand (rank : Rank) (o : SpeltOperand) : Type 0 where
  formed : IsFormedExpression o.1
  of_rank : is_of_rank rank o.0 ≡ true

module _ (rank : Rank) where
  chain-more : (os : SpeltOperands) (p : Operator) (e : SpeltExpression) → are_of_rank rank os ≡ true → is_of_rank rank p ≡ true → are_of_rank rank (more_operands os p e) ≡ true
  chain-more no_operands p e h k = cc
  chain-more (more_operands no_operands q f) p e h k = cc
  chain-more (more_operands (more_operands os r g) q f) p e h k = both h k

  chain-after : (first : SpeltOperands) (os : List SpeltOperand) → are_of_rank rank first ≡ true → All (IsFormedOperand rank) os → are_of_rank rank (operands_after first os) ≡ true
  chain-after first [] h k = h
  chain-after first (o ∷ os) h k =
      chain-after (more_operands first o.0 o.1) os (chain-more first o.0 o.1 h (All-head (IsFormedOperand rank) o os k).of_rank) (All-tail (IsFormedOperand rank) o os k)

  operands-formed : (first : SpeltOperands) (os : List SpeltOperand) → are_formed_operands first ≡ true → All (IsFormedOperand rank) os → are_formed_operands (operands_after first os) ≡ true
  operands-formed first [] h k = h
  operands-formed first (o ∷ os) h k =
      operands-formed (more_operands first o.0 o.1) os (both h (All-head (IsFormedOperand rank) o os k).formed) (All-tail (IsFormedOperand rank) o os k)

first_of_rank : (rank : Rank) → (is_first_of rank (first_of rank) ≡ true) × (is_of_rank rank (first_of rank) ≡ true)
first_of_rank ranks.Sum = (refl, refl)
first_of_rank ranks.Product = (refl, refl)

of_some_rank : (rank : Rank) (os : SpeltOperands) → are_of_rank rank os ≡ true → make_a_chain os ≡ true
of_some_rank ranks.Sum os h = rw h
of_some_rank ranks.Product os h = either_way (are_of_rank ranks.Sum os) h
  where
    either_way : (b : Bool) {c : Bool} → c ≡ true → (b || c) ≡ true
    either_way true h = refl
    either_way false h = h

chain-formed : (rank : Rank) (e : SpeltExpression) (os : List SpeltOperand) → IsFormedExpression e → All (IsFormedOperand rank) os → IsFormedExpression (in_chain ((first_of rank, e) ∷ os))
chain-formed rank e [] h k = h
chain-formed rank e (o ∷ os) h k =
    let first = first_of_rank rank in
    let second = All-head (IsFormedOperand rank) o os k in
    let two : are_of_rank rank (more_operands (more_operands no_operands (first_of rank) e) o.0 o.1) ≡ true = both first.0 second.of_rank in
    both (of_some_rank rank (operands_after no_operands ((first_of rank, e) ∷ o ∷ os)) (chain-after rank (more_operands (more_operands no_operands (first_of rank) e) o.0 o.1) os two (All-tail (IsFormedOperand rank) o os k)))
    (operands-formed rank no_operands ((first_of rank, e) ∷ o ∷ os) refl (All-cons (IsFormedOperand rank) (first_of rank, e) (o ∷ os) (record { formed = h; of_rank = first.1 }) k))

-- what a token that is an operator of the rank means
operator_of_rank : (rank : Rank) (k : TokenKind) (o : Operator) → operator_of rank k ≡ Some o → is_of_rank rank o ≡ true
operator_of_rank rank kinds.Name o e = cc
operator_of_rank rank kinds.Number o e = cc
operator_of_rank ranks.Sum (kinds.Symbol symbols.Plus) o e = let same : operators.Plus ≡ o = cc in rw (← same) refl
operator_of_rank ranks.Sum (kinds.Symbol symbols.Minus) o e = let same : operators.Minus ≡ o = cc in rw (← same) refl
operator_of_rank ranks.Sum (kinds.Symbol _) o e = cc
operator_of_rank ranks.Product (kinds.Symbol symbols.Star) o e = let same : operators.Times ≡ o = cc in rw (← same) refl
operator_of_rank ranks.Product (kinds.Symbol symbols.Slash) o e = let same : operators.Over ≡ o = cc in rw (← same) refl
operator_of_rank ranks.Product (kinds.Symbol _) o e = cc

operator_ranked : (rank : Rank) {ts rest : List Lexeme} {o : Operator} → IsOperator rank ts o rest → is_of_rank rank o ≡ true
operator_ranked rank {o = o} (one_of {t = t} k) = operator_of_rank rank t.kind o k

-- arithmetic, by the depth of its brackets
module _ (rank : Rank) (Operand : List Lexeme → SpeltExpression → List Lexeme → Type 0) (operand : (ts : List Lexeme) (e : SpeltExpression) (rest : List Lexeme) → Operand ts e rest → IsFormedExpression e) where
  further_formed : (ts : List Lexeme) (o : SpeltOperand) (rest : List Lexeme) → IsFurtherOperand rank Operand ts o rest → IsFormedOperand rank o
  further_formed ts o rest (further_operand {mid = mid} {e = e} operator d) = record { formed = operand mid e rest d; of_rank = operator_ranked rank operator }

  over_formed : (ts : List Lexeme) (e : SpeltExpression) (rest : List Lexeme) → IsChain rank Operand ts e rest → IsFormedExpression e
  over_formed ts f rest (chained {mid = mid} {e = e} {os = os} d more) = chain-formed rank e os (operand ts e mid d) (all_repeated (IsFormedOperand rank) further_formed more)

module _ (Primary : List Lexeme → SpeltExpression → List Lexeme → Type 0) (primary : (ts : List Lexeme) (e : SpeltExpression) (rest : List Lexeme) → Primary ts e rest → IsFormedExpression e) where
  factor_formed : (ts : List Lexeme) (e : SpeltExpression) (rest : List Lexeme) → IsFactor Primary ts e rest → IsFormedExpression e
  factor_formed ts e rest (plain d) = primary ts e rest d
  factor_formed ts f rest (minus {e = e} d) = inside_after IsFormedExpression primary ts e rest d

  sum_over_formed : (ts : List Lexeme) (e : SpeltExpression) (rest : List Lexeme) → IsSumOver Primary ts e rest → IsFormedExpression e
  sum_over_formed = over_formed ranks.Sum (IsTerm Primary) (over_formed ranks.Product (IsFactor Primary) factor_formed)

number_or_name_formed : {ts rest : List Lexeme} {e : SpeltExpression} → IsNumberOrName ts e rest → IsFormedExpression e
number_or_name_formed (number d) = refl
number_or_name_formed (name d) = refl

primary_formed : (n : ℕ) (ts : List Lexeme) (e : SpeltExpression) (rest : List Lexeme) → IsPrimary n ts e rest → IsFormedExpression e
primary_formed zero ts e rest d = number_or_name_formed d
primary_formed (suc n) ts e rest (inl d) = number_or_name_formed d
primary_formed (suc n) ts e rest (inr d) = inside_brackets IsFormedExpression (sum_over_formed (IsPrimary n) (primary_formed n)) ts e rest d

pub sum_formed : (n : ℕ) (ts : List Lexeme) (e : SpeltExpression) (rest : List Lexeme) → IsSum n ts e rest → IsFormedExpression e
sum_formed n = sum_over_formed (IsPrimary n) (primary_formed n)

-- the parts of sequences and sums of rules
abbrev pub IsFormedRule : SpeltRule → Type 0
IsFormedRule r = is_formed r ≡ true

two_rules-more : (rs : SpeltRules) (r : SpeltRule) → has_two_rules rs ≡ true → has_two_rules (more_rules rs r) ≡ true
two_rules-more no_rules r h = cc
two_rules-more (more_rules rs s) r h = refl

rules-two : (first : SpeltRules) (rs : List SpeltRule) → has_two_rules first ≡ true → has_two_rules (rules_after first rs) ≡ true
rules-two first [] h = h
rules-two first (r ∷ rs) h = rules-two (more_rules first r) rs (two_rules-more first r h)

rules-formed : (first : SpeltRules) (rs : List SpeltRule) → are_formed first ≡ true → All IsFormedRule rs → are_formed (rules_after first rs) ≡ true
rules-formed first [] h k = h
rules-formed first (r ∷ rs) h k = rules-formed (more_rules first r) rs (both h (All-head IsFormedRule r rs k)) (All-tail IsFormedRule r rs k)

pub sequence-formed : (r : SpeltRule) (rs : List SpeltRule) → All IsFormedRule (r ∷ rs) → IsFormedRule (sequence_of r rs)
sequence-formed r [] h = All-head IsFormedRule r [] h
sequence-formed r (s ∷ rs) h = both (rules-two (more_rules (more_rules no_rules r) s) rs refl) (rules-formed no_rules (r ∷ s ∷ rs) refl h)

choice-formed : (r : SpeltRule) (rs : List SpeltRule) → All IsFormedRule (r ∷ rs) → IsFormedRule (choice_of r rs)
choice-formed r [] h = All-head IsFormedRule r [] h
choice-formed r (s ∷ rs) h = both (rules-two (more_rules (more_rules no_rules r) s) rs refl) (rules-formed no_rules (r ∷ s ∷ rs) refl h)

open_atom_formed : {ts rest : List Lexeme} {r : SpeltRule} → IsOpenAtom ts r rest → IsFormedRule r
open_atom_formed (moves d) = refl
open_atom_formed (switches d e) = refl
open_atom_formed (keeps d) = refl

-- atoms and what is made of them, by what is in their brackets
module _ (Sum : List Lexeme → SpeltExpression → List Lexeme → Type 0) (sum' : (ts : List Lexeme) (e : SpeltExpression) (rest : List Lexeme) → Sum ts e rest → IsFormedExpression e) where
  comparison_formed : (ts : List Lexeme) (r : SpeltRule) (rest : List Lexeme) → IsComparison Sum ts r rest → IsFormedRule r
  comparison_formed ts s rest (comparison {t1 = t1} {t2 = t2} {e = e} {f = f} d relation k) = both (sum' ts e t1 d) (sum' t2 f rest k)

  assignment_formed : (ts : List Lexeme) (r : SpeltRule) (rest : List Lexeme) → IsAssignment Sum ts r rest → IsFormedRule r
  assignment_formed ts s rest (assignment {mid = mid} {e = e} n d) = inside_after IsFormedExpression sum' mid e rest d

  assignments_formed : (ts : List Lexeme) (r : SpeltRule) (rest : List Lexeme) → AreAssignments Sum ts r rest → IsFormedRule r
  assignments_formed ts s rest (assignments {r = r} {rs = rs} d) = sequence-formed r rs (all_separated IsFormedRule assignment_formed d)

module _ (Rules : List Lexeme → SpeltRule → List Lexeme → Type 0) (Sum : List Lexeme → SpeltExpression → List Lexeme → Type 0)
    (rules' : (ts : List Lexeme) (r : SpeltRule) (rest : List Lexeme) → Rules ts r rest → IsFormedRule r) (sum' : (ts : List Lexeme) (e : SpeltExpression) (rest : List Lexeme) → Sum ts e rest → IsFormedExpression e) where
  bracket_atom_formed : (ts : List Lexeme) (r : SpeltRule) (rest : List Lexeme) → IsBracketAtom Rules Sum ts r rest → IsFormedRule r
  bracket_atom_formed ts r rest (groups d) = inside_brackets IsFormedRule rules' ts r rest d
  bracket_atom_formed ts r rest (stands_on d) = refl
  bracket_atom_formed ts r rest (puts d) = refl
  bracket_atom_formed ts r rest (compares d) = inside_brackets IsFormedRule (inside_after IsFormedRule (comparison_formed Sum sum')) ts r rest d
  bracket_atom_formed ts r rest (assigns d) = inside_brackets IsFormedRule (inside_after IsFormedRule (assignments_formed Sum sum')) ts r rest d
  bracket_atom_formed ts s rest (holds {first = first} {last = last} {r = r} opening d closing) = inside_after IsFormedRule rules' first r last d
  bracket_atom_formed ts s rest (fails {first = first} {last = last} {r = r} opening d closing) = inside_after IsFormedRule rules' first r last d

module _ (Atom : List Lexeme → SpeltRule → List Lexeme → Type 0) (atom : (ts : List Lexeme) (r : SpeltRule) (rest : List Lexeme) → Atom ts r rest → IsFormedRule r) where
  item_formed : (ts : List Lexeme) (r : SpeltRule) (rest : List Lexeme) → IsItem Atom ts r rest → IsFormedRule r
  item_formed ts r rest (once d) = atom ts r rest d
  item_formed ts s rest (starred {mid = mid} {r = r} d asterisk) = atom ts r mid d

  in_turn_formed : (ts : List Lexeme) (r : SpeltRule) (rest : List Lexeme) → IsSequence Atom ts r rest → IsFormedRule r
  in_turn_formed ts s rest (in_turn {mid = mid} {r = r} {rs = rs} d more) = sequence-formed r rs (All-cons IsFormedRule r rs (item_formed ts r mid d) (all_repeated IsFormedRule item_formed more))

  rules_over_formed : (ts : List Lexeme) (r : SpeltRule) (rest : List Lexeme) → AreRulesOver Atom ts r rest → IsFormedRule r
  rules_over_formed ts s rest (either {r = r} {rs = rs} d) = choice-formed r rs (all_separated IsFormedRule in_turn_formed d)

atom_formed : (n : ℕ) (ts : List Lexeme) (r : SpeltRule) (rest : List Lexeme) → IsAtom n ts r rest → IsFormedRule r
atom_formed zero ts r rest d = open_atom_formed d
atom_formed (suc n) ts r rest (inl d) = open_atom_formed d
atom_formed (suc n) ts r rest (inr d) = bracket_atom_formed (AreRulesOver (IsAtom n)) (IsSum n) (rules_over_formed (IsAtom n) (atom_formed n)) (sum_formed n) ts r rest d

pub rules_formed : (n : ℕ) (ts : List Lexeme) (r : SpeltRule) (rest : List Lexeme) → AreRules n ts r rest → IsFormedRule r
rules_formed n = rules_over_formed (IsAtom n) (atom_formed n)

-- boards
rectangle_directions : {ts rest : List Lexeme} {b : SpeltBoard} → IsRectangle ts b rest → has_its_directions b ≡ true
rectangle_directions (four up down left right rows) = refl

hexagon_directions : {ts rest : List Lexeme} {b : SpeltBoard} → IsHexagon ts b rest → has_its_directions b ≡ true
hexagon_directions (six a b c d e f rows) = refl

graph_directions : {ts rest : List Lexeme} {b : SpeltBoard} → IsGraph ts b rest → has_its_directions b ≡ true
graph_directions (vertices vs) = refl

pub board_directions : {ts rest : List Lexeme} {b : SpeltBoard} → IsBoard ts b rest → has_its_directions b ≡ true
board_directions (rectangular (generated generator (within opening d closing))) = rectangle_directions d
board_directions (hexagonal (generated generator (within opening d closing))) = hexagon_directions d
board_directions (graphic (generated generator (within opening d closing))) = graph_directions d

-- a list of phrases with a symbol between each two has a phrase
pub some_separated : {A : Type 0} {s : Symbol} {P : List Lexeme → A → List Lexeme → Type 0} {ts rest : List Lexeme} {xs : List A} → Separated s P ts xs rest → 0 < length xs
some_separated (separated first more) = omega arith
