-- What holds of each description that the grammar can spell, whatever its names are.
use Rattle.std.specs.Prelude.{◌≡◌, ◌<◌, ◌&&◌, ◌||◌, Bool, true, false, length, nat_eq}
use Rattle.rbg_base.specs.declared.operator.Operator.{Operator}
use Rattle.rbg_base.specs.declared.operator.Operator.TheVariants.{Plus, Minus, Times, Over}
use Rattle.rbg_grammar.specs.declared.expression.Rank.{Rank}
use Rattle.rbg_grammar.specs.declared.expression.Rank.TheVariants.{Sum, Product}
use Rattle.rbg_grammar.specs.Tree.{SpeltExpression, SpeltOperands, no_operands, more_operands, SpeltRule, SpeltRules, no_rules, more_rules, SpeltAction, SpeltBoard, rectangle, hexagon, graph, SpeltDescription}

-- the operator is one of this rank
abbrev pub is_of_rank : Rank → Operator → Bool
is_of_rank Sum Plus = true
is_of_rank Sum Minus = true
is_of_rank Sum Times = false
is_of_rank Sum Over = false
is_of_rank Product Plus = false
is_of_rank Product Minus = false
is_of_rank Product Times = true
is_of_rank Product Over = true

-- the operator is that of the first operand in a chain of this rank
abbrev pub is_first_of : Rank → Operator → Bool
is_first_of Sum Plus = true
is_first_of Sum _ = false
is_first_of Product Times = true
is_first_of Product _ = false

-- at least two operands of this rank, of which the first has Plus in a sum and Times in a product
abbrev pub are_of_rank : Rank → SpeltOperands → Bool
are_of_rank rank no_operands = false
are_of_rank rank (more_operands no_operands p e) = false
are_of_rank rank (more_operands (more_operands no_operands p e) q f) = is_first_of rank p && is_of_rank rank q
are_of_rank rank (more_operands (more_operands (more_operands os p e) q f) r g) =
    are_of_rank rank (more_operands (more_operands os p e) q f) && is_of_rank rank r

-- a sum or a product of at least two operands
abbrev pub make_a_chain : SpeltOperands → Bool
make_a_chain os = are_of_rank Sum os || are_of_rank Product os

-- at least two parts
abbrev pub has_two_rules : SpeltRules → Bool
has_two_rules no_rules = false
has_two_rules (more_rules no_rules r) = false
has_two_rules (more_rules (more_rules rs r) s) = true

abbrev mutual
  -- each chain in the expression is a sum or a product of at least two operands
  pub is_formed_expression : SpeltExpression → Bool
  is_formed_expression (SpeltExpression.number n) = true
  is_formed_expression (SpeltExpression.name n) = true
  is_formed_expression (SpeltExpression.negated e) = is_formed_expression e
  is_formed_expression (SpeltExpression.chain os) = make_a_chain os && are_formed_operands os

  pub are_formed_operands : SpeltOperands → Bool
  are_formed_operands no_operands = true
  are_formed_operands (more_operands os p e) = are_formed_operands os && is_formed_expression e

abbrev mutual
  -- each sequence and each sum in the rules has at least two parts, and each chain in their arithmetic is a sum or a product
  -- of at least two operands
  pub is_formed : SpeltRule → Bool
  is_formed (SpeltRule.act a) = is_formed_action a
  is_formed (SpeltRule.sequence rs) = has_two_rules rs && are_formed rs
  is_formed (SpeltRule.choice rs) = has_two_rules rs && are_formed rs
  is_formed (SpeltRule.star r) = is_formed r

  pub are_formed : SpeltRules → Bool
  are_formed no_rules = true
  are_formed (more_rules rs r) = are_formed rs && is_formed r

  pub is_formed_action : SpeltAction → Bool
  is_formed_action (SpeltAction.shift n) = true
  is_formed_action (SpeltAction.on ns) = true
  is_formed_action (SpeltAction.off n) = true
  is_formed_action (SpeltAction.assign n e) = is_formed_expression e
  is_formed_action (SpeltAction.compare e relation f) = is_formed_expression e && is_formed_expression f
  is_formed_action (SpeltAction.switch at player) = true
  is_formed_action (SpeltAction.positive at r) = is_formed r
  is_formed_action (SpeltAction.negative at r) = is_formed r

-- the board has the names of all its generator's directions
abbrev pub has_its_directions : SpeltBoard → Bool
has_its_directions (rectangle names rows) = nat_eq (length names) 4
has_its_directions (hexagon names rows) = nat_eq (length names) 6
has_its_directions (graph vertices) = true

-- There is a player and a piece, and no sequence, sum or product of fewer than two parts.
pub record IsWhole (d : SpeltDescription) : Type 0 where
  pub some_player : 0 < length d.players
  pub some_piece : 0 < length d.pieces
  pub directions : has_its_directions d.board ≡ true
  pub formed : is_formed d.rules ≡ true
