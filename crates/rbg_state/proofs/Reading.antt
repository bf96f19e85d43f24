-- What the parts of arithmetic read.
use Rattle.rbg_base.proofs.Common.{◌≡◌, ℕ, ◌<◌, List, [], ◌∷◌, length, get_or, map, sym, subst, ap, ◌∙◌, arith, All-cons, All, Vec, Box, Global}
use Rattle.rbg_base.specs.declared.relation.Relation.{Relation}
use Rattle.rbg_rules.specs.Meaning.{AbstractAction, AbstractArithmetic, assignment, comparison, number, variable, piece_count, negated, sum, difference, product, quotient, AbstractGame, AbstractState, IsStateOf, HasNamesOf, IsActionOf, IsGame, arithmetic_of, operation_of, operated, changed, Shows}
use Rattle.rbg_rules.specs.declared.rule.Action.{Action}
use Rattle.rbg_rules.specs.declared.arithmetic.Arithmetic.{Arithmetic}
use Rattle.rbg_rules.specs.declared.arithmetic.Arithmetic.TheVariants.{Negated, Chain}
use Rattle.rbg_rules.specs.declared.arithmetic.Operation.{Operation}
use Rattle.rbg_base.specs.declared.operator.Operator.{Operator}
use Rattle.rbg_base.specs.declared.operator.Operator.TheVariants.{Plus, Minus, Times, Over}
use Rattle.rbg_rules.proofs.Bridge.{arithmetic_of-Negated, arithmetic_of-Chain, operation_of_out}
use Rattle.rbg_state.specs.Reads.{ReadsBelow}

-- arithmetic of a game reads the game's variables
pub reads_variables : (game : AbstractGame) (e : AbstractArithmetic) → HasNamesOf game e → ReadsBelow (length game.variables) e
reads_variables game (number n) h = tt
reads_variables game (variable v) h = h
reads_variables game (piece_count p) h = tt
reads_variables game (negated e) h = reads_variables game e h
reads_variables game (sum e f) (left, right) = (reads_variables game e left, reads_variables game f right)
reads_variables game (difference e f) (left, right) = (reads_variables game e left, reads_variables game f right)
reads_variables game (product e f) (left, right) = (reads_variables game e left, reads_variables game f right)
reads_variables game (quotient e f) (left, right) = (reads_variables game e left, reads_variables game f right)

-- The arithmetic of an action of the game reads variables that a semi-state has.
module _ (game : AbstractGame) (lawful : IsGame game) (s : AbstractState) (fits : IsStateOf game s) (i : Action) (named : (a : AbstractAction) → Shows a i → IsActionOf game a) where
  pub assigned_reads : (v : ℕ) (e : AbstractArithmetic) → Shows (assignment v e) i → (v < length s.values) × ReadsBelow (length s.values) e
  assigned_reads v e shown = let is = named (assignment v e) shown in rw (fits.variables ∙ lawful.bounds) (is.0, reads_variables game e is.1)

  pub compared_reads : (e : AbstractArithmetic) (r : Relation) (f : AbstractArithmetic) → Shows (comparison e r f) i → ReadsBelow (length s.values) e × ReadsBelow (length s.values) f
  compared_reads e r f shown = let is = named (comparison e r f) shown in rw (fits.variables ∙ lawful.bounds) (reads_variables game e is.0, reads_variables game f is.1)

-- an operation makes this of what comes before it
pub operation_of_is : (o : Operation) (e : AbstractArithmetic) → operation_of o e ≡ operated o.operator e (arithmetic_of o.operand)
operation_of_is o e = ap (λ (change : AbstractArithmetic → AbstractArithmetic). change e) (operation_of_out o)

module _ (many : ℕ) where
  -- and reads what the two read
  operated_reads : (operator : Operator) (e f : AbstractArithmetic) → ReadsBelow many (operated operator e f) → ReadsBelow many e × ReadsBelow many f
  operated_reads Plus e f h = h
  operated_reads Minus e f h = h
  operated_reads Times e f h = h
  operated_reads Over e f h = h

  chain_reads : (e : AbstractArithmetic) (operations : List Operation) → ReadsBelow many (changed e (map operation_of operations)) → ReadsBelow many e × All (λ o. ReadsBelow many (arithmetic_of o.operand)) operations
  chain_reads e [] h = (h, λ k d below. absurd (omega arith))
  chain_reads e (o ∷ operations) h =
      let later = chain_reads (operation_of o e) operations h in
      let here = operated_reads o.operator e (arithmetic_of o.operand) (subst (ReadsBelow many) (operation_of_is o e) later.0) in
      (here.0, All-cons (λ o. ReadsBelow many (arithmetic_of o.operand)) o operations here.1 later.1)

  -- The same of the program's trees.
  pub reads_of-Negated : (e operand : Arithmetic) (box : Box Arithmetic Global) → ReadsBelow many (arithmetic_of e) → e ≡ Negated box → operand ≡ box.value → ReadsBelow many (arithmetic_of operand)
  reads_of-Negated e operand box reads is same = rw same (rw (is, arithmetic_of-Negated) at reads)

  pub reads_of-Chain : (e : Arithmetic) (first : Box Arithmetic Global) (rest : Vec Operation Global) → ReadsBelow many (arithmetic_of e) → e ≡ Chain first rest → ReadsBelow many (arithmetic_of first.value) × All (λ o. ReadsBelow many (arithmetic_of o.operand)) rest.items
  reads_of-Chain e first rest reads is = chain_reads (arithmetic_of first.value) rest.items (rw (is, arithmetic_of-Chain) at reads)

  pub operand_reads : (operations : List Operation) (i : ℕ) (o : Operation) → All (λ o. ReadsBelow many (arithmetic_of o.operand)) operations → i < length operations → o ≡ get_or operations i o → ReadsBelow many (arithmetic_of o.operand)
  operand_reads operations i o all is_one at_i = subst (λ (p : Operation). ReadsBelow many (arithmetic_of p.operand)) (sym at_i) (all i o is_one)
