-- Arithmetic by numbers: sums and products that grow at their ends, and faults of parts.
use Rattle.rbg_base.proofs.Common.{◌≡◌, ℕ, zero, suc, ◌+◌, ◌<◌, ◌≤◌, ◌^◌, List, [], ◌∷◌, ◌++◌, inl, inr, true, Some, length, map, take, drop, get_or, ◌-◌, refl, sym, ap, ◌∙◌, subst, arith, Vec, Contains, All, Box, Global, and_parts, All-nil, All-cons}
use Rattle.std.proofs.lemmas.List.{get_or-map, length-map, get_or-take, length-take, take_all}
use Rattle.rbg_grammar.proofs.Common.{is_formed_expression, are_formed_operands, make_a_chain, SpeltName, SpeltNumber, SpeltExpression, SpeltOperand, SpeltOperands, no_operands, more_operands, operands_after, name_of, number_of, expression_of, operand_of}
use Rattle.rbg_grammar.specs.declared.expression.Expression.{Expression}
use Rattle.rbg_grammar.specs.declared.expression.Expression as expressions
use Rattle.rbg_grammar.specs.declared.expression.Operand.{Operand}
use Rattle.rbg_grammar.specs.declared.names.Name.{Name}
use Rattle.rbg_grammar.specs.declared.names.Number.{Number}
use Rattle.rbg_grammar.proofs.Trees.{expression_of-Number, expression_of-Name, expression_of-Negated, expression_of-Chain}
use Rattle.rbg_rules.specs.Meaning.{AbstractArithmetic, negated, Change, changed, arithmetic_of, operation_of}
use Rattle.rbg_rules.specs.declared.arithmetic.Arithmetic.TheViews.{roll-Operation}
use Rattle.rbg_rules.specs.declared.arithmetic.Arithmetic.{Arithmetic}
use Rattle.rbg_rules.specs.declared.arithmetic.Arithmetic.TheVariants as arithmetics
use Rattle.rbg_rules.specs.declared.arithmetic.Operation.{Operation}
use Rattle.rbg_rules.proofs.Bridge.{arithmetic_of-Negated, arithmetic_of-Chain, operation_of_roll}
use Rattle.rbg_game.proofs.NumberingCommon.{GameError, Bound, Names, ArithmeticIs, ChainIs, HasPart, itself, in_negated, in_chain, SomeOperandHasPart, earlier_operand, last_operand, HasArithmeticFault, unknown_value, great_number, arithmetic_memory, HasLookUpFault, not_there, no_memory, Combines}
use Rattle.rbg_base.proofs.CallerLemmas.{map-take_more}
use Rattle.rbg_game.proofs.Lists.{Contains-one}

-- Faults.

-- What is wrong with a part is wrong with the expression.
pub fault_of_part : (names : Names) (e part : SpeltExpression) (error : GameError) → ((f : SpeltExpression) → HasPart part f → HasPart e f) → HasArithmeticFault names part error → HasArithmeticFault names e error
fault_of_part names e part _ within (unknown_value h) = unknown_value (record { name = h.name; stands = within _ h.stands; no_variable = h.no_variable; no_piece = h.no_piece; place = h.place })
fault_of_part names e part _ within (great_number h) = great_number (record { number = h.number; stands = within _ h.stands; too_great = h.too_great; place = h.place })
fault_of_part names e part _ within arithmetic_memory = arithmetic_memory

part_after : (first : SpeltOperands) (ts : List SpeltOperand) (part : SpeltExpression) → SomeOperandHasPart first part → SomeOperandHasPart (operands_after first ts) part
part_after first [] part h = h
part_after first (t ∷ ts) part h = part_after (more_operands first t.0 t.1) ts part (earlier_operand h)

part_stands : (first : SpeltOperands) (ts : List SpeltOperand) (k : ℕ) (d : SpeltOperand) (part : SpeltExpression) → k < length ts → HasPart (get_or ts k d).1 part → SomeOperandHasPart (operands_after first ts) part
part_stands first [] k d part below h = absurd (omega arith)
part_stands first (t ∷ ts) zero d part below h = part_after (more_operands first t.0 t.1) ts part (last_operand h)
part_stands first (t ∷ ts) (suc k) d part below h = part_stands (more_operands first t.0 t.1) ts k d part (omega arith) h

-- The fault of an operand is one of the chain.
pub fault_of_operand : (names : Names) (operands : List Operand) (k : ℕ) (t d : Operand) (error : GameError) → k < length operands → t ≡ get_or operands k d → HasArithmeticFault names (expression_of t.value) error → HasArithmeticFault names (SpeltExpression.chain (operands_after no_operands (map operand_of operands))) error
fault_of_operand names operands k t d error below is fault =
    let same : get_or (map operand_of operands) k (operand_of t) ≡ operand_of t = get_or-map operand_of operands k d (operand_of t) below ∙ ap operand_of (sym is) in
    fault_of_part names (SpeltExpression.chain (operands_after no_operands (map operand_of operands))) (expression_of t.value) error
    (λ f h. in_chain (part_stands no_operands (map operand_of operands) k (operand_of t) f (omega (arith, length-map operands operand_of)) (subst (λ (s : SpeltOperand). HasPart s.1 f) (sym same) h)))
    fault

-- Numbers and names.

pub too_great_alone : (names : Names) (n : SpeltNumber) → ((value : ℕ) → n.value ≡ Some value → 2 ^ 63 ≤ value) → HasArithmeticFault names (SpeltExpression.number n) (Bound n.at)
too_great_alone names n great = great_number (record { number = n; stands = itself; too_great = great; place = refl })

-- A name that is no variable and isn't found among the pieces.
pub unknown_alone : (names : Names) (n : SpeltName) (error : GameError) → ¬ Contains names.variables n.text → HasLookUpFault names.pieces (n ∷ []) error → HasArithmeticFault names (SpeltExpression.name n) error
unknown_alone names n _ no_variable (not_there h) =
    let same : n ≡ h.name = Contains-one n h.name h.stands in
    unknown_value (record {
      name = n;
      stands = itself;
      no_variable = no_variable;
      no_piece = subst (λ (m : SpeltName). ¬ Contains names.pieces m.text) (sym same) h.unknown;
      place = ap (λ (m : SpeltName). m.at) same ∙ h.place;
    })
unknown_alone names n _ no_variable no_memory = arithmetic_memory

-- Chains from the left.

operands_more : (first : SpeltOperands) (ts : List SpeltOperand) (t : SpeltOperand) → operands_after first (ts ++ t ∷ []) ≡ more_operands (operands_after first ts) t.0 t.1
operands_more first [] t = refl
operands_more first (s ∷ ts) t = operands_more (more_operands first s.0 s.1) ts t

pub one_operand : (names : Names) (t : Operand) (a : AbstractArithmetic) → ArithmeticIs names (expression_of t.value) a → ChainIs names (operands_after no_operands (operand_of t ∷ [])) a
one_operand names t a is = inl (refl, is)

-- what the operations make of a value, with one more operation
changed_more : (a : AbstractArithmetic) (os : List Operation) (o : Operation) → changed a (map operation_of (os ++ o ∷ [])) ≡ operation_of o (changed a (map operation_of os))
changed_more a [] o = refl
changed_more a (p ∷ os) o = changed_more (operation_of p a) os o

pub chain_more : (names : Names) (ts : List SpeltOperand) (t : SpeltOperand) (a : AbstractArithmetic) (os : List Operation) (o : Operation)
    → ChainIs names (operands_after no_operands ts) (changed a (map operation_of os)) → Combines names t o → ChainIs names (operands_after no_operands (ts ++ t ∷ [])) (changed a (map operation_of (os ++ o ∷ [])))
chain_more names ts t a os o so_far combines =
    rw (operands_more no_operands ts t)
    (inr (changed a (map operation_of os), combines.operand, so_far, combines.is_operand, changed_more a os o ∙ combines.does (changed a (map operation_of os))))

-- Well-formed chains have an operand, and their operands are well-formed.

operands_parts : (first : SpeltOperands) (ts : List SpeltOperand) → are_formed_operands (operands_after first ts) ≡ true → (are_formed_operands first ≡ true) × All (λ t. is_formed_expression t.1 ≡ true) ts
operands_parts first [] formed = (formed, All-nil (λ t. is_formed_expression t.1 ≡ true))
operands_parts first (t ∷ ts) formed =
    let (before, others) = operands_parts (more_operands first t.0 t.1) ts formed in
    let (first_formed, here) = and_parts (are_formed_operands first) (is_formed_expression t.1) before in
    (first_formed, All-cons (λ t. is_formed_expression t.1 ≡ true) t ts here others)

some_operand : (operands : List Operand) → make_a_chain (operands_after no_operands (map operand_of operands)) ≡ true → 0 < length operands
some_operand [] two = cc
some_operand (t ∷ operands) two = omega arith

module _ (e : Expression) (v : Vec Operand Global) (operands : List Operand) (is : e ≡ expressions.Chain v) (same : operands ≡ v.items) where
  pub is_chain : expression_of e ≡ SpeltExpression.chain (operands_after no_operands (map operand_of operands))
  is_chain = ap expression_of is ∙ expression_of-Chain v ∙ ap (λ (l : List Operand). SpeltExpression.chain (operands_after no_operands (map operand_of l))) (sym same)

  chain_formed : is_formed_expression (expression_of e) ≡ true → (make_a_chain (operands_after no_operands (map operand_of operands)) ≡ true) × (are_formed_operands (operands_after no_operands (map operand_of operands)) ≡ true)
  chain_formed formed =
      and_parts (make_a_chain (operands_after no_operands (map operand_of operands))) (are_formed_operands (operands_after no_operands (map operand_of operands))) (sym (ap is_formed_expression is_chain) ∙ formed)

  pub operands_formed : is_formed_expression (expression_of e) ≡ true → (0 < length operands) × All (λ t. is_formed_expression (expression_of t.value) ≡ true) operands
  operands_formed formed =
      let (two, all) = chain_formed formed in
      let (none, each) = operands_parts no_operands (map operand_of operands) all in
      (some_operand operands two, λ k d below. subst (λ (s : SpeltOperand). is_formed_expression s.1 ≡ true) (get_or-map operand_of operands k d (operand_of d) below) (each k (operand_of d) (omega (arith, length-map operands operand_of))))

pub is_negated : (e : Expression) (b : Box Expression Global) → e ≡ expressions.Negated b → expression_of e ≡ SpeltExpression.negated (expression_of b.value)
is_negated e b is = ap expression_of is ∙ expression_of-Negated b

pub is_number : (e : Expression) (n : Number) → e ≡ expressions.Number n → expression_of e ≡ SpeltExpression.number (number_of n)
is_number e n is = ap expression_of is ∙ expression_of-Number n

pub is_name : (e : Expression) (n : Name) → e ≡ expressions.Name n → expression_of e ≡ SpeltExpression.name (name_of n)
is_name e n is = ap expression_of is ∙ expression_of-Name n

-- Expressions with one operand.

module _ (e f : Expression) (b : Box Expression Global) (is : e ≡ expressions.Negated b) (same : f ≡ b.value) where
  negated_is : expression_of e ≡ SpeltExpression.negated (expression_of f)
  negated_is = is_negated e b is ∙ ap (λ (g : Expression). SpeltExpression.negated (expression_of g)) (sym same)

  pub negated_formed : is_formed_expression (expression_of e) ≡ true → is_formed_expression (expression_of f) ≡ true
  negated_formed formed = sym (ap is_formed_expression negated_is) ∙ formed

  pub fault_of_negated : (names : Names) (error : GameError) → HasArithmeticFault names (expression_of f) error → HasArithmeticFault names (expression_of e) error
  fault_of_negated names error h = fault_of_part names (expression_of e) (expression_of f) error (λ part has. subst (λ g. HasPart g part) (sym negated_is) (in_negated has)) h

  pub negated_made : (names : Names) (a : Arithmetic) (box : Box Arithmetic Global) → box.value ≡ a → ArithmeticIs names (expression_of f) (arithmetic_of a) → ArithmeticIs names (expression_of e) (arithmetic_of (arithmetics.Negated box))
  negated_made names a box holds is_operand =
      subst (λ g. ArithmeticIs names g (arithmetic_of (arithmetics.Negated box))) (sym negated_is)
      (arithmetic_of a, is_operand, arithmetic_of-Negated box ∙ ap (λ (y : Arithmetic). negated (arithmetic_of y)) holds)

-- The items after the first.

pub item_after : {A : Type 0} (xs : List A) (i : ℕ) (x : A) → i < length (take (length xs - 1) (drop 1 xs)) → x ≡ get_or (take (length xs - 1) (drop 1 xs)) i x → (i + 1 < length xs) × (x ≡ get_or xs (i + 1) x)
item_after [] i x below is = absurd (omega arith)
item_after (y ∷ xs) i x below is =
    let below' : i < length (take (suc (length xs) - 1) xs) = below in
    let long = length-take (suc (length xs) - 1) xs in
    let within : i < length xs = omega arith in
    let same : suc (length xs) - 1 ≡ length xs = omega arith in
    (omega arith, is ∙ ap (λ n. get_or (take n xs) i x) same ∙ get_or-take (length xs) xs i x within ∙ at_next)
  where
    at_next : get_or xs i x ≡ get_or (y ∷ xs) (i + 1) x
    at_next = let e : i + 1 ≡ suc i = omega arith in ap (λ n. get_or (y ∷ xs) n x) (sym e)

pub length_after : {A : Type 0} (xs : List A) → 0 < length xs → length (take (length xs - 1) (drop 1 xs)) + 1 ≡ length xs
length_after [] some = absurd (omega arith)
length_after (y ∷ xs) some =
    let long = length-take (suc (length xs) - 1) xs in
    let whole : length (take (suc (length xs) - 1) xs) + 1 ≡ suc (length xs) = omega arith in
    whole

-- the first of a list alone
pub take_first : {A B : Type 0} (f : A → B) (xs : List A) (x d : A) → 0 < length xs → x ≡ get_or xs 0 d → map f (take 1 xs) ≡ f x ∷ []
take_first f [] x d some is = absurd (omega arith)
take_first f (y ∷ xs) x d some is = ap (λ z. f z ∷ []) (sym is)

-- The chain so far with the operand that comes next.
pub chain_step : (names : Names) (operands : List Operand) (i : ℕ) (t : Operand) (a : AbstractArithmetic) (os : List Operation) (o : Operation)
    → i < length (take (length operands - 1) (drop 1 operands)) → t ≡ get_or (take (length operands - 1) (drop 1 operands)) i t
    → ChainIs names (operands_after no_operands (map operand_of (take (i + 1) operands))) (changed a (map operation_of os)) → Combines names (operand_of t) o
    → ChainIs names (operands_after no_operands (map operand_of (take (i + 1 + 1) operands))) (changed a (map operation_of (os ++ o ∷ [])))
chain_step names operands i t a os o below is so_far combines =
    let (within, at) = item_after operands i t below is in
    rw (map-take_more operand_of operands (i + 1) t within at) (chain_more names (map operand_of (take (i + 1) operands)) (operand_of t) a os o so_far combines)

chain_of : (first : Arithmetic) (box : Box Arithmetic Global) (rest : Vec Operation Global) → box.value ≡ first → arithmetic_of (arithmetics.Chain box rest) ≡ changed (arithmetic_of first) (map operation_of rest.items)
chain_of first box rest holds = arithmetic_of-Chain box rest ∙ ap (λ (a : Arithmetic). changed (arithmetic_of a) (map operation_of rest.items)) holds

pub chain_made : (names : Names) (operands : List Operand) (i : ℕ) (first : Arithmetic) (box : Box Arithmetic Global) (rest : Vec Operation Global) → 0 < length operands → length (take (length operands - 1) (drop 1 operands)) ≤ i → box.value ≡ first
    → ChainIs names (operands_after no_operands (map operand_of (take (i + 1) operands))) (changed (arithmetic_of first) (map operation_of rest.items)) → ChainIs names (operands_after no_operands (map operand_of operands)) (arithmetic_of (arithmetics.Chain box rest))
chain_made names operands i first box rest some done holds is =
    let long = length_after operands some in
    let all : take (i + 1) operands ≡ operands = take_all (i + 1) operands (omega arith) in
    rw (chain_of first box rest holds) (subst (λ (l : List Operand). ChainIs names (operands_after no_operands (map operand_of l)) (changed (arithmetic_of first) (map operation_of rest.items))) all is)

-- One operation.

pub combines_operand : (names : Names) (t : Operand) (operand : Arithmetic) → ArithmeticIs names (expression_of t.value) (arithmetic_of operand) → Combines names (operand_of t) (roll-Operation (record { operator = t.operator; operand = operand }))
combines_operand names t operand is =
    record { operand = arithmetic_of operand; is_operand = is; does = λ b. ap (λ (change : Change). change b) (operation_of_roll (record { operator = t.operator; operand = operand })) }
