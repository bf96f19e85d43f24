-- Examples of what the grammar spells, and of what it doesn't.
use Rattle.std.specs.Prelude.{◌≡◌, ◌+◌, ℕ, List, [], ◌∷◌, ◌++◌, map}
use Rattle.std.specs.List.{range_with_len}
use Rattle.rbg_macro.specs.Token.{Lexeme}
use Rattle.rbg_macro.specs.declared.token.Symbol.{Symbol}
use Rattle.rbg_macro.specs.declared.token.Symbol.TheVariants as symbols
use Rattle.rbg_macro.specs.declared.token.TokenKind.TheVariants as kinds
use Rattle.rbg_base.specs.declared.operator.Operator.TheVariants as operators
use Rattle.rbg_grammar.specs.Grammar.{IsSum, AreRules}
use Rattle.rbg_grammar.specs.Spells.{max_brackets, IsTooDeep}
use Rattle.rbg_grammar.specs.Tree.{SpeltName, SpeltExpression, chain, negated, no_operands, more_operands, SpeltRule, act, shift, assign, star, sequence, no_rules, more_rules}

-- a symbol at a place, and a name of one letter
abbrev pub sign : Symbol → ℕ → Lexeme
sign s at = record { kind = kinds.Symbol s; text = []; at = at }

abbrev pub letter : ℕ → ℕ → Lexeme
letter code at = record { kind = kinds.Name; text = code ∷ []; at = at }

abbrev pub letter_name : ℕ → ℕ → SpeltName
letter_name code at = record { text = code ∷ []; at = at }

abbrev pub named : ℕ → ℕ → SpeltExpression
named code at = SpeltExpression.name (letter_name code at)

-- (a+b)*c is a product whose first factor is a sum.
abbrev pub SumInParentheses : Type 0
SumInParentheses =
    IsSum max_brackets
    (sign symbols.OpenParenthesis 0 ∷ letter 97 1 ∷ sign symbols.Plus 2 ∷ letter 98 3 ∷ sign symbols.CloseParenthesis 4
    ∷ sign symbols.Star 5 ∷ letter 99 6 ∷ [])
    (chain (more_operands (more_operands no_operands operators.Times
    (chain (more_operands (more_operands no_operands operators.Plus (named 97 1)) operators.Plus (named 98 3))))
    operators.Times (named 99 6)))
    []

-- -a*b is a product whose first factor is negated.
abbrev pub NegatedFactor : Type 0
NegatedFactor =
    IsSum max_brackets
    (sign symbols.Minus 0 ∷ letter 97 1 ∷ sign symbols.Star 2 ∷ letter 98 3 ∷ [])
    (chain (more_operands (more_operands no_operands operators.Times (negated (named 97 1)))
    operators.Times (named 98 3)))
    []

-- [$ a = b, c = d]* is the star of the sequence of its assignments.
abbrev pub StarredAssignments : Type 0
StarredAssignments =
    AreRules max_brackets
    (sign symbols.OpenBracket 0 ∷ sign symbols.Dollar 1 ∷ letter 97 2 ∷ sign symbols.Equals 3 ∷ letter 98 4
    ∷ sign symbols.Comma 5 ∷ letter 99 6 ∷ sign symbols.Equals 7 ∷ letter 100 8 ∷ sign symbols.CloseBracket 9
    ∷ sign symbols.Star 10 ∷ [])
    (star (sequence (more_rules (more_rules no_rules
    (act (assign (letter_name 97 2) (named 98 4)))) (act (assign (letter_name 99 6) (named 100 8))))))
    []

-- this symbol this many times, at places that follow one another
abbrev pub signs : Symbol → (at count : ℕ) → List Lexeme
signs s at count = map (sign s) (range_with_len at count)

-- n opening parentheses, the name a, and as many closing ones
abbrev pub in_parentheses : ℕ → List Lexeme
in_parentheses n = signs symbols.OpenParenthesis 0 n ++ letter 97 n ∷ signs symbols.CloseParenthesis (n + 1) n

-- A shift in 128 pairs of parentheses is that shift.
abbrev pub DeepestBrackets : Type 0
DeepestBrackets = AreRules max_brackets (in_parentheses 128) (act (shift (letter_name 97 128))) []

-- In 129 it is no rule.
abbrev pub TooManyBrackets : Type 0
TooManyBrackets = (r : SpeltRule) → AreRules max_brackets (in_parentheses 129) r [] → ⊥

-- a** is no rule, at any depth of brackets.
abbrev pub TwoStars : Type 0
TwoStars =
    (brackets : ℕ) (r : SpeltRule)
    → AreRules brackets (letter 97 0 ∷ sign symbols.Star 1 ∷ sign symbols.Star 2 ∷ []) r [] → ⊥

-- --a is no sum, at any depth of brackets.
abbrev pub TwoMinuses : Type 0
TwoMinuses =
    (brackets : ℕ) (e : SpeltExpression)
    → IsSum brackets (sign symbols.Minus 0 ∷ sign symbols.Minus 1 ∷ letter 97 2 ∷ []) e [] → ⊥

-- A shift in 129 pairs of parentheses is too deep at the last opening one, and at no other place. Nothing else is wrong
-- with it: with one more bracket it is that shift.
pub record TooDeepAlone : Type 0 where
  pub deep : IsTooDeep (in_parentheses 129) 128
  pub only : (at : ℕ) → IsTooDeep (in_parentheses 129) at → at ≡ 128
  pub spelt : AreRules 129 (in_parentheses 129) (act (shift (letter_name 97 129))) []

-- a closing parenthesis, and 129 opening ones
abbrev pub closing_first : List Lexeme
closing_first = sign symbols.CloseParenthesis 0 ∷ signs symbols.OpenParenthesis 1 129

-- It spells nothing at any depth, and no bracket of it is too deep, since no rules begin like this.
pub record MisspeltAlone : Type 0 where
  pub spells_nothing : (brackets : ℕ) (r : SpeltRule) → AreRules brackets closing_first r [] → ⊥
  pub not_deep : (at : ℕ) → IsTooDeep closing_first at → ⊥
