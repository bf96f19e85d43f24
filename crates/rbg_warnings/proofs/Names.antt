-- Which variables the parts of arithmetic name.
use Rattle.std.proofs.Common.{◌≡◌, ℕ, zero, suc, ◌+◌, ◌<◌, ◌==◌, ◌||◌, Bool, true, false, List, [], ◌∷◌, length, get_or, take, map, Option, None, refl, sym, ap, subst, ◌∙◌, arith, Vec, Box, Global}
use Rattle.std.proofs.lemmas.Bool.{eqb-true, eq-eqb}
use Rattle.rbg_rules.specs.Meaning.{AbstractArithmetic, arithmetic_of, operation_of, operated, changed}
use Rattle.rbg_rules.specs.declared.arithmetic.Arithmetic.{Arithmetic}
use Rattle.rbg_rules.specs.declared.arithmetic.Arithmetic.TheVariants.{Chain}
use Rattle.rbg_rules.specs.declared.arithmetic.Operation.{Operation}
use Rattle.rbg_base.specs.declared.operator.Operator.{Operator}
use Rattle.rbg_base.specs.declared.operator.Operator.TheVariants.{Plus, Minus, Times, Over}
use Rattle.rbg_rules.proofs.Bridge.{arithmetic_of-Chain, operation_of_out}
use Rattle.rbg_warnings.specs.Warnings.{names_variable}
use Rattle.rbg_warnings.specs.internal.Walking.{number_in, operands_name}

or_assoc : (a b c : Bool) → (a || b) || c ≡ a || (b || c)
or_assoc true b c = refl
or_assoc false b c = refl

pub or_false : (a : Bool) → a || false ≡ a
or_false true = refl
or_false false = refl

-- an operation makes this of what comes before it
operation_of_is : (o : Operation) (e : AbstractArithmetic) → operation_of o e ≡ operated o.operator e (arithmetic_of o.operand)
operation_of_is o e = ap (λ (change : AbstractArithmetic → AbstractArithmetic). change e) (operation_of_out o)

operated_names : (v : ℕ) (operator : Operator) (e f : AbstractArithmetic) → names_variable v (operated operator e f) ≡ names_variable v e || names_variable v f
operated_names v Plus e f = refl
operated_names v Minus e f = refl
operated_names v Times e f = refl
operated_names v Over e f = refl

operation_names : (v : ℕ) (o : Operation) (e : AbstractArithmetic) → names_variable v (operation_of o e) ≡ names_variable v e || names_variable v (arithmetic_of o.operand)
operation_names v o e = ap (names_variable v) (operation_of_is o e) ∙ operated_names v o.operator e (arithmetic_of o.operand)

changed_names : (v : ℕ) (e : AbstractArithmetic) (os : List Operation) → names_variable v (changed e (map operation_of os)) ≡ names_variable v e || operands_name v os
unfolding operands_name
changed_names v e [] = sym (or_false (names_variable v e))
changed_names v e (o ∷ os) =
    changed_names v (operation_of o e) os ∙ (ap (λ b. b || operands_name v os) (operation_names v o e) ∙ or_assoc (names_variable v e) (names_variable v (arithmetic_of o.operand)) (operands_name v os))

-- a chain names what its first part and its operands name
pub chain_names : (v : ℕ) (e : Arithmetic) (first : Box Arithmetic Global) (rest : Vec Operation Global) → e ≡ Chain first rest → names_variable v (arithmetic_of e) ≡ names_variable v (arithmetic_of first.value) || operands_name v rest.items
chain_names v e first rest is = ap (λ (x : Arithmetic). names_variable v (arithmetic_of x)) is ∙ (ap (names_variable v) (arithmetic_of-Chain first rest) ∙ changed_names v (arithmetic_of first.value) rest.items)

pub operands_none : (v : ℕ) (os : List Operation) → operands_name v (take zero os) ≡ false
unfolding operands_name
operands_none v [] = refl
operands_none v (o ∷ os) = refl

-- the operands up to one, and that one
first_false : (b x y : Bool) → (x ≡ false → y ≡ false) → b || x ≡ false → b || y ≡ false
first_false true x y later h = h
first_false false x y later h = later h

pub operands_more : (v : ℕ) (os : List Operation) (i : ℕ) (o : Operation) → i < length os → o ≡ get_or os i o → operands_name v (take i os) ≡ false → names_variable v (arithmetic_of o.operand) ≡ false → operands_name v (take (i + 1) os) ≡ false
unfolding operands_name
operands_more v [] i o below at_i before here = absurd (omega arith)
operands_more v (p ∷ os) zero o below at_i before here =
    let first : names_variable v (arithmetic_of p.operand) ≡ false = ap (λ (x : Operation). names_variable v (arithmetic_of x.operand)) (sym at_i) ∙ here in
    ap (λ b. b || operands_name v (take zero os)) first ∙ operands_none v os
operands_more v (p ∷ os) (suc i) o below at_i before here =
    let e : suc (i + 1) ≡ suc i + 1 = omega arith in
    let more : operands_name v (take (suc (i + 1)) (p ∷ os)) ≡ false = first_false (names_variable v (arithmetic_of p.operand)) (operands_name v (take i os)) (operands_name v (take (i + 1) os)) (λ h. operands_more v os i o (omega arith) at_i h here) before in
    subst (λ (n : ℕ). operands_name v (take n (p ∷ os)) ≡ false) e more

or_true : (b : Bool) → b || true ≡ true
or_true true = refl
or_true false = refl

-- an operand that names the variable
pub operand_found : (v : ℕ) (os : List Operation) (i : ℕ) (o : Operation) → i < length os → o ≡ get_or os i o → names_variable v (arithmetic_of o.operand) ≡ true → operands_name v os ≡ true
unfolding operands_name
operand_found v [] i o below at_i here = absurd (omega arith)
operand_found v (p ∷ os) zero o below at_i here =
    let first : names_variable v (arithmetic_of p.operand) ≡ true = ap (λ (x : Operation). names_variable v (arithmetic_of x.operand)) (sym at_i) ∙ here in
    ap (λ b. b || operands_name v os) first
operand_found v (p ∷ os) (suc i) o below at_i here =
    ap (λ b. names_variable v (arithmetic_of p.operand) || b) (operand_found v os i o (omega arith) at_i here) ∙ or_true (names_variable v (arithmetic_of p.operand))

-- a chain with an operation is no number
no_number_operated : (operator : Operator) (e f : AbstractArithmetic) → number_in (operated operator e f) ≡ None
no_number_operated Plus e f = refl
no_number_operated Minus e f = refl
no_number_operated Times e f = refl
no_number_operated Over e f = refl

no_number_operation : (o : Operation) (e : AbstractArithmetic) → number_in (operation_of o e) ≡ None
no_number_operation o e = ap number_in (operation_of_is o e) ∙ no_number_operated o.operator e (arithmetic_of o.operand)

no_number_changed : (e : AbstractArithmetic) (os : List Operation) → number_in e ≡ None → number_in (changed e (map operation_of os)) ≡ None
no_number_changed e [] none = none
no_number_changed e (o ∷ os) none = no_number_changed (operation_of o e) os (no_number_operation o e)

pub chain_number : (e : Arithmetic) (first : Box Arithmetic Global) (rest : Vec Operation Global) → e ≡ Chain first rest → length rest.items ≡ 0 → number_in (arithmetic_of e) ≡ number_in (arithmetic_of first.value)
chain_number e first rest is empty = ap (λ (x : Arithmetic). number_in (arithmetic_of x)) is ∙ (ap number_in (arithmetic_of-Chain first rest) ∙ alone (arithmetic_of first.value) rest.items empty)
  where
    alone : (x : AbstractArithmetic) (os : List Operation) → length os ≡ 0 → number_in (changed x (map operation_of os)) ≡ number_in x
    alone x [] empty = refl
    alone x (o ∷ os) empty = absurd (omega arith)

pub chain_no_number : (e : Arithmetic) (first : Box Arithmetic Global) (rest : Vec Operation Global) → e ≡ Chain first rest → 0 < length rest.items → number_in (arithmetic_of e) ≡ None
chain_no_number e first rest is some = ap (λ (x : Arithmetic). number_in (arithmetic_of x)) is ∙ (ap number_in (arithmetic_of-Chain first rest) ∙ long (arithmetic_of first.value) rest.items some)
  where
    long : (x : AbstractArithmetic) (os : List Operation) → 0 < length os → number_in (changed x (map operation_of os)) ≡ None
    long x [] some = absurd (omega arith)
    long x (o ∷ os) some = no_number_changed (operation_of o x) os (no_number_operation o x)

-- What the code finds of a chain: its first part, and then its operands.
pub chain_first : (v : ℕ) (e : Arithmetic) (first : Box Arithmetic Global) (rest : Vec Operation Global) → e ≡ Chain first rest → (d : Arithmetic) → d ≡ first.value → (b : Bool) → b ≡ names_variable v (arithmetic_of d) → b ≡ true → b ≡ names_variable v (arithmetic_of e)
chain_first v e first rest is d same b told found =
    let named : names_variable v (arithmetic_of first.value) ≡ true = ap (λ (x : Arithmetic). names_variable v (arithmetic_of x)) (sym same) ∙ (sym told ∙ found) in
    found ∙ sym (chain_names v e first rest is ∙ ap (λ b. b || operands_name v rest.items) named)

pub chain_rest : (v : ℕ) (e : Arithmetic) (first : Box Arithmetic Global) (rest : Vec Operation Global) → e ≡ Chain first rest → (d : Arithmetic) → d ≡ first.value → (b : Bool) → b ≡ names_variable v (arithmetic_of d) → b ≡ false → (os : List Operation) → os ≡ rest.items → (r : Bool) → r ≡ operands_name v os → r ≡ names_variable v (arithmetic_of e)
chain_rest v e first rest is d same b told none os items r rest_told =
    let named : names_variable v (arithmetic_of first.value) ≡ false = ap (λ (x : Arithmetic). names_variable v (arithmetic_of x)) (sym same) ∙ (sym told ∙ none) in
    rest_told ∙ (ap (operands_name v) items ∙ sym (chain_names v e first rest is ∙ ap (λ b. b || operands_name v rest.items) named))

-- The number that the code finds of a chain.
pub chain_alone : (e : Arithmetic) (first : Box Arithmetic Global) (rest : Vec Operation Global) → e ≡ Chain first rest → (os : List Operation) → os ≡ rest.items → (b : Bool) → b ≡ (length os == 0) → b ≡ true → (d : Arithmetic) → d ≡ first.value → (r : Option ℕ) → r ≡ number_in (arithmetic_of d) → r ≡ number_in (arithmetic_of e)
chain_alone e first rest is os items b test empty d same r told =
    let none : length rest.items ≡ 0 = ap length (sym items) ∙ eqb-true (length os) 0 (sym test ∙ empty) in
    told ∙ (ap (λ (x : Arithmetic). number_in (arithmetic_of x)) same ∙ sym (chain_number e first rest is none))

some_items : (os : List Operation) (b : Bool) → b ≡ (length os == 0) → b ≡ false → 0 < length os
some_items [] b test some = let apart : true ≡ false = sym (test ∙ eq-eqb 0 0 refl) ∙ some in cc
some_items (o ∷ os) b test some = omega arith

pub chain_long : (e : Arithmetic) (first : Box Arithmetic Global) (rest : Vec Operation Global) → e ≡ Chain first rest → (os : List Operation) → os ≡ rest.items → (b : Bool) → b ≡ (length os == 0) → b ≡ false → None ≡ number_in (arithmetic_of e)
chain_long e first rest is os items b test some =
    let more : 0 < length os = some_items os b test some in
    sym (chain_no_number e first rest is (subst (λ (xs : List Operation). 0 < length xs) items more))
