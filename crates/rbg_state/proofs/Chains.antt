-- Chains of operations: a loop that takes one operation after another, and stops when there is no value.
use Rattle.rbg_base.proofs.Common.{◌≡◌, ℕ, zero, suc, ◌+◌, ◌<◌, List, [], ◌∷◌, length, get_or, take, map, fold, Option, None, refl, sym, ap, ◌∙◌, ℤ, arith, fold_more, Vec, Box, IfSome, Some, Global}
use Rattle.rbg_rules.specs.Meaning.{AbstractArithmetic, on_values, value_of, AbstractState, arithmetic_of, operation_of, operated, changed}
use Rattle.rbg_rules.specs.declared.arithmetic.Arithmetic.{Arithmetic}
use Rattle.rbg_rules.specs.declared.arithmetic.Arithmetic.TheVariants.{Chain}
use Rattle.rbg_rules.specs.declared.arithmetic.Operation.{Operation}
use Rattle.rbg_base.specs.declared.operator.Operator.{Operator}
use Rattle.rbg_base.specs.declared.operator.Operator.TheVariants.{Plus, Minus, Times, Over}
use Rattle.rbg_rules.proofs.Bridge.{arithmetic_of-Chain}
use Rattle.rbg_state.proofs.Reading.{operation_of_is}
use Rattle.rbg_state.specs.Evaluation.{result_of, value_after}

module _ (s : AbstractState) where
  -- the value after one operation
  abbrev after_one : Option ℤ → Operation → Option ℤ
  after_one x o = on_values (result_of o.operator) x (value_of (arithmetic_of o.operand) s)

  pub value_after-None : (operations : List Operation) → value_after s None operations ≡ None
  unfolding value_after
  value_after-None [] = refl
  value_after-None (o ∷ operations) = value_after-None operations

  -- if the operations up to one leave no value, all together leave none
  pub no_value_after : (x : Option ℤ) (operations : List Operation) (i : ℕ) → value_after s x (take i operations) ≡ None → value_after s x operations ≡ None
  unfolding value_after
  no_value_after x [] zero h = h
  no_value_after x [] (suc i) h = h
  no_value_after x (o ∷ operations) zero h = rw h (value_after-None operations)
  no_value_after x (o ∷ operations) (suc i) h = no_value_after (after_one x o) operations i h

  -- the value after the operations up to one, and that one
  pub value_after_more : (x : Option ℤ) (operations : List Operation) (i : ℕ) (o : Operation) → i < length operations → o ≡ get_or operations i o → value_after s x (take (i + 1) operations) ≡ on_values (result_of o.operator) (value_after s x (take i operations)) (value_of (arithmetic_of o.operand) s)
  unfolding value_after
  value_after_more x operations i o is_one at_i = fold_more after_one x operations i o is_one ∙ ap (after_one (fold after_one x (take i operations))) (sym at_i)

  -- the value after one operation alone
  pub value_after_one : (x : Option ℤ) (operations : List Operation) (o : Operation) → length operations ≡ 1 → o ≡ get_or operations 0 o → value_after s x operations ≡ on_values (result_of o.operator) x (value_of (arithmetic_of o.operand) s)
  unfolding value_after
  value_after_one x [] o one at_first = absurd (omega (arith, one))
  value_after_one x (p ∷ []) o one at_first = ap (after_one x) (sym at_first)
  value_after_one x (p ∷ q ∷ operations) o one at_first = absurd (omega (arith, one))

  -- the value of a chain is what its operations make of the first value
  value_of-operated : (operator : Operator) (e f : AbstractArithmetic) → value_of (operated operator e f) s ≡ on_values (result_of operator) (value_of e s) (value_of f s)
  value_of-operated Plus e f = refl
  value_of-operated Minus e f = refl
  value_of-operated Times e f = refl
  value_of-operated Over e f = refl

  value_of-operation_of : (e : AbstractArithmetic) (o : Operation) → value_of (operation_of o e) s ≡ after_one (value_of e s) o
  value_of-operation_of e o = ap (λ (f : AbstractArithmetic). value_of f s) (operation_of_is o e) ∙ value_of-operated o.operator e (arithmetic_of o.operand)

  value_of-changed : (e : AbstractArithmetic) (operations : List Operation) → value_of (changed e (map operation_of operations)) s ≡ value_after s (value_of e s) operations
  unfolding value_after
  value_of-changed e [] = refl
  value_of-changed e (o ∷ operations) = value_of-changed (operation_of o e) operations ∙ ap (λ (x : Option ℤ). fold after_one x operations) (value_of-operation_of e o)

  pub value_of-Chain : (e : Arithmetic) (first : Box Arithmetic Global) (rest : Vec Operation Global) → e ≡ Chain first rest → value_of (arithmetic_of e) s ≡ value_after s (value_of (arithmetic_of first.value) s) rest.items
  value_of-Chain e first rest is = rw (is, arithmetic_of-Chain) (value_of-changed (arithmetic_of first.value) rest.items)

-- The value, if there is one.
pub some_value : (r o : Option ℤ) → o ≡ r → IfSome r (λ v. o ≡ Some v)
some_value (Some v) o is = is
some_value None o is = tt

pub some_as : (r o o' : Option ℤ) → o ≡ o' → IfSome r (λ v. o' ≡ Some v) → IfSome r (λ v. o ≡ Some v)
some_as (Some v) o o' same is = same ∙ is
some_as None o o' same is = tt
