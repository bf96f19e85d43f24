-- What the rules of a description are by numbers. Positions are not counted here: that the actions are numbered in order
-- of text is a statement of its own (IsNumbered).
use Rattle.std.specs.Prelude.{◌≡◌, ℕ, ◌+◌, ◌<◌, ◌^◌, ◌⊎◌, List, Some, None, Contains}
use Rattle.std.specs.List.{AllZip}
use Rattle.rbg_grammar.specs.Tree.{SpeltExpression, SpeltOperands, no_operands, more_operands}
use Rattle.rbg_grammar.specs.Tree.{SpeltRule, SpeltRules, no_rules, more_rules, SpeltAction}
use Rattle.rbg_rules.specs.Meaning.{AbstractArithmetic, number, variable, piece_count, negated, AbstractAction, shift, on, off, assignment, comparison, switch, positive, negative, Expression, act, skip, sequence, fail, choice, star, operated}
use Rattle.rbg_game.specs.NameNumbers.{Names, IsNumberOf}

abbrev mutual
  -- What an arithmetic expression is. A number fits signed 64 bits. A name is a variable if there is one of that name,
  -- and else a piece.
  pub ArithmeticIs : Names → SpeltExpression → AbstractArithmetic → Type 0
  ArithmeticIs names (SpeltExpression.number n) a =
      (value : ℕ)
      × (n.value ≡ Some value)
      × (value < 2 ^ 63)
      × (a ≡ number value)
  ArithmeticIs names (SpeltExpression.name n) a =
      ((v : ℕ) × IsNumberOf names.variables n v × (a ≡ variable v))
      ⊎ ((¬ Contains names.variables n.text) × ((p : ℕ) × IsNumberOf names.pieces n p × (a ≡ piece_count p)))
  ArithmeticIs names (SpeltExpression.negated e) a = (b : AbstractArithmetic) × ArithmeticIs names e b × (a ≡ negated b)
  ArithmeticIs names (SpeltExpression.chain operands) a = ChainIs names operands a

  -- A sum or a product from the left: its first operand, or what comes before the last one, combined with the last one
  -- by its operator.
  pub ChainIs : Names → SpeltOperands → AbstractArithmetic → Type 0
  ChainIs names no_operands a = ⊥
  ChainIs names (more_operands operands operator e) a =
      ((operands ≡ no_operands) × ArithmeticIs names e a)
      ⊎ ((b : AbstractArithmetic)
      × (c : AbstractArithmetic)
      × ChainIs names operands b
      × ArithmeticIs names e c
      × (a ≡ operated operator b c))

abbrev mutual
  -- What an action is. The keeper's switch is that to player 0; players are numbered from 1.
  pub ActionIs : Names → SpeltAction → AbstractAction → Type 0
  ActionIs names (SpeltAction.shift n) b = (d : ℕ) × IsNumberOf names.directions n d × (b ≡ shift d)
  ActionIs names (SpeltAction.on ns) b = (xs : List ℕ) × AllZip (IsNumberOf names.pieces) ns xs × (b ≡ on xs)
  ActionIs names (SpeltAction.off n) b = (x : ℕ) × IsNumberOf names.pieces n x × (b ≡ off x)
  ActionIs names (SpeltAction.assign n e) b =
      (v : ℕ)
      × (a : AbstractArithmetic)
      × IsNumberOf names.variables n v
      × ArithmeticIs names e a
      × (b ≡ assignment v a)
  ActionIs names (SpeltAction.compare e relation f) b =
      (a : AbstractArithmetic)
      × (c : AbstractArithmetic)
      × ArithmeticIs names e a
      × ArithmeticIs names f c
      × (b ≡ comparison a relation c)
  ActionIs names (SpeltAction.switch at None) b = b ≡ switch 0
  ActionIs names (SpeltAction.switch at (Some n)) b = (k : ℕ) × IsNumberOf names.players n k × (b ≡ switch (k + 1))
  ActionIs names (SpeltAction.positive at r) b = (x : Expression) × RuleIs names r x × (b ≡ positive x)
  ActionIs names (SpeltAction.negative at r) b = (x : Expression) × RuleIs names r x × (b ≡ negative x)

  -- What a rule is, whatever the positions of its actions.
  pub RuleIs : Names → SpeltRule → Expression → Type 0
  RuleIs names (SpeltRule.act a) x = (p : ℕ) × (b : AbstractAction) × ActionIs names a b × (x ≡ act p b)
  RuleIs names (SpeltRule.sequence parts) x = PartsAre names sequence skip parts x
  RuleIs names (SpeltRule.choice parts) x = PartsAre names choice fail parts x
  RuleIs names (SpeltRule.star r) x = (y : Expression) × RuleIs names r y × (x ≡ star y)

  -- The parts of a sequence or a sum, from the left: `joined` puts what comes before the last one and the last one
  -- together, and `none` is the expression of no parts.
  pub PartsAre : Names → (joined : Expression → Expression → Expression) → (none : Expression) → SpeltRules → Expression → Type 0
  PartsAre names joined none no_rules x = x ≡ none
  PartsAre names joined none (more_rules parts r) x =
      (y : Expression)
      × (z : Expression)
      × PartsAre names joined none parts y
      × RuleIs names r z
      × (x ≡ joined y z)
