-- What is found on a walk through arithmetic, and through the positions of a game.
use Rattle.std.specs.Prelude.{ℕ, ◌≤◌, ◌||◌, Bool, false, IsTrue, List, [], ◌∷◌, ◌++◌, Option, Some, None}
use Rattle.rbg_rules.specs.declared.arithmetic.Operation.{Operation}
use Rattle.rbg_rules.specs.Meaning.{AbstractArithmetic, number, AbstractAction, HasAction, arithmetic_of, AbstractGame}
use Rattle.rbg_warnings.specs.declared.named_thing.NamedThing.{NamedThing}
use Rattle.rbg_warnings.specs.declared.warning.Warning.{Warning}
use Rattle.rbg_warnings.specs.Sifting.{Keeps}
use Rattle.rbg_warnings.specs.Warnings.{IsWarned, names_variable, uses}

-- whether an operand names the variable
unfoldable pub operands_name : ℕ → List Operation → Bool
operands_name v [] = false
operands_name v (o ∷ os) = names_variable v (arithmetic_of o.operand) || operands_name v os

-- the number that arithmetic is, if it is one
abbrev pub number_in : AbstractArithmetic → Option ℕ
number_in (number n) = Some n
number_in _ = None

-- no action at a position up to this one uses the thing
abbrev pub IsUnusedUpTo : AbstractGame → NamedThing → ℕ → Type 0
IsUnusedUpTo game thing last =
    (p : ℕ) (a : AbstractAction) → p ≤ last → HasAction game.rules p a → IsTrue (uses thing a) → ⊥

-- A list of warnings is extended by those that the game has of these: if it had all the warnings of some before, it
-- then has all of both.
abbrev pub Sifts : AbstractGame → List Warning → List Warning → List Warning → Type 0
Sifts game these old new =
    (before : List Warning) → Keeps (IsWarned game) before old → Keeps (IsWarned game) (before ++ these) new
