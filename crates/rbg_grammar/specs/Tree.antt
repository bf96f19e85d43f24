-- A description as its text spells it: a tree whose names and numbers have their places in the text.
use Rattle.std.specs.Prelude.{ℕ, List, [], ◌∷◌, Option}
use Rattle.rbg_base.specs.declared.operator.Operator.{Operator}
use Rattle.rbg_base.specs.declared.operator.Operator.TheVariants.{Plus, Times}
use Rattle.rbg_grammar.specs.declared.expression.Rank.{Rank}
use Rattle.rbg_grammar.specs.declared.expression.Rank.TheVariants.{Sum, Product}
use Rattle.rbg_base.specs.declared.relation.Relation.{Relation}

-- a name, and its offset
pub record SpeltName : Type 0 where
  pub text : List ℕ
  pub at : ℕ

-- a number below 2 ^ 64, or None for a larger one, and its offset
pub record SpeltNumber : Type 0 where
  pub value : Option ℕ
  pub at : ℕ

-- a player or a variable with its bound
pub record SpeltBounded : Type 0 where
  pub name : SpeltName
  pub bound : SpeltNumber

mutual
  -- An arithmetic expression. A chain is a sum or a product, of at least two operands.
  pub data SpeltExpression : Type 0 where
    number : SpeltNumber → SpeltExpression
    name : SpeltName → SpeltExpression
    negated : SpeltExpression → SpeltExpression
    chain : SpeltOperands → SpeltExpression

  -- the operands of a sum or a product from the left, each with its operator
  pub data SpeltOperands : Type 0 where
    no_operands : SpeltOperands
    more_operands : SpeltOperands → Operator → SpeltExpression → SpeltOperands

mutual
  -- A regular expression over actions. Sequences and sums have at least two parts.
  pub data SpeltRule : Type 0 where
    act : SpeltAction → SpeltRule
    sequence : SpeltRules → SpeltRule
    choice : SpeltRules → SpeltRule
    star : SpeltRule → SpeltRule

  -- the parts of a sequence or a sum from the left
  pub data SpeltRules : Type 0 where
    no_rules : SpeltRules
    more_rules : SpeltRules → SpeltRule → SpeltRules

  -- An action. A switch has the offset of its arrow, and no player if it is the keeper's; a pattern has the offset of
  -- its opening brace.
  pub data SpeltAction : Type 0 where
    shift : SpeltName → SpeltAction
    on : List SpeltName → SpeltAction
    off : SpeltName → SpeltAction
    assign : SpeltName → SpeltExpression → SpeltAction
    compare : SpeltExpression → Relation → SpeltExpression → SpeltAction
    switch : ℕ → Option SpeltName → SpeltAction
    positive : ℕ → SpeltRule → SpeltAction
    negative : ℕ → SpeltRule → SpeltAction

-- an edge to the vertex of that name
pub record SpeltEdge : Type 0 where
  pub direction : SpeltName
  pub target : SpeltName

-- a vertex with its first piece
pub record SpeltVertex : Type 0 where
  pub name : SpeltName
  pub piece : SpeltName
  pub edges : List SpeltEdge

-- The board by its generator: the names of its directions, and its rows of pieces from top to bottom, or its vertices.
pub data SpeltBoard : Type 0 where
  rectangle : List SpeltName → List (List SpeltName) → SpeltBoard
  hexagon : List SpeltName → List (List SpeltName) → SpeltBoard
  graph : List SpeltVertex → SpeltBoard

-- what the sections spell
pub record SpeltDescription : Type 0 where
  pub players : List SpeltBounded
  pub variables : List SpeltBounded
  pub pieces : List SpeltName
  pub board : SpeltBoard
  pub rules : SpeltRule

-- an operand with its operator
abbrev pub SpeltOperand : Type 0
SpeltOperand = Operator × SpeltExpression

-- further parts at the end of a list of parts
abbrev pub rules_after : SpeltRules → List SpeltRule → SpeltRules
rules_after first [] = first
rules_after first (r ∷ rs) = rules_after (more_rules first r) rs

abbrev pub operands_after : SpeltOperands → List SpeltOperand → SpeltOperands
operands_after first [] = first
operands_after first (o ∷ os) = operands_after (more_operands first o.0 o.1) os

-- Parts after a first one, as a sequence or a sum. One part is itself.
abbrev pub sequence_of : SpeltRule → List SpeltRule → SpeltRule
sequence_of r [] = r
sequence_of r (s ∷ rs) = sequence (rules_after no_rules (r ∷ s ∷ rs))

abbrev pub choice_of : SpeltRule → List SpeltRule → SpeltRule
choice_of r [] = r
choice_of r (s ∷ rs) = choice (rules_after no_rules (r ∷ s ∷ rs))

-- The operator of a chain's first operand: none is spelt before it.
abbrev pub first_of : Rank → Operator
first_of Sum = Plus
first_of Product = Times

-- The operands of a sum or a product as one expression. One operand is itself.
abbrev pub in_chain : List SpeltOperand → SpeltExpression
in_chain [] = chain no_operands
in_chain (o ∷ []) = o.1
in_chain (o ∷ p ∷ os) = chain (operands_after no_operands (o ∷ p ∷ os))
