-- The spelt tree that a tree of the code means.
use Rattle.std.specs.Prelude.{List, map, option_map}
use Rattle.std.specs.declared.alloc.Global.{Global}
use Rattle.std.specs.declared.vec.Vec.{Vec}
use Rattle.rbg_grammar.specs.Tree.{SpeltName, SpeltNumber, SpeltBounded, SpeltEdge, SpeltVertex, SpeltBoard, SpeltDescription, SpeltExpression, SpeltOperand, no_operands, SpeltRule, no_rules, SpeltAction, operands_after, rules_after}
use Rattle.rbg_grammar.specs.declared.names.Name.{Name}
use Rattle.rbg_grammar.specs.declared.names.Number.{Number}
use Rattle.rbg_grammar.specs.declared.description.Bounded.{Bounded}
use Rattle.rbg_grammar.specs.declared.description.Edge.{Edge}
use Rattle.rbg_grammar.specs.declared.description.Vertex.{Vertex}
use Rattle.rbg_grammar.specs.declared.description.ParsedBoard.{ParsedBoard}
use Rattle.rbg_grammar.specs.declared.description.ParsedBoard.TheVariants.{Rectangle, Hexagon, Graph}
use Rattle.rbg_grammar.specs.declared.expression.Expression.{Expression, fold-Expression}
use Rattle.rbg_grammar.specs.declared.expression.Operand.{Operand}
use Rattle.rbg_grammar.specs.declared.expression.Expression.TheOpen.{Expression-F, Operand-F}
use Rattle.rbg_grammar.specs.declared.rule.ParsedRule.{ParsedRule, fold-ParsedRule}
use Rattle.rbg_grammar.specs.declared.rule.ParsedAction.{ParsedAction, fold-ParsedAction}
use Rattle.rbg_grammar.specs.declared.rule.ParsedAction.TheOpen.{ParsedAction-F, ParsedRule-F}

abbrev pub name_of : Name → SpeltName
name_of n = record { text = n.text.now; at = n.at }

abbrev pub number_of : Number → SpeltNumber
number_of n = record { value = n.value; at = n.at }

abbrev pub bounded_of : Bounded → SpeltBounded
bounded_of b = record { name = name_of b.name; bound = number_of b.bound }

abbrev pub names_of : Vec Name Global → List SpeltName
names_of v = map name_of v.items

abbrev pub bounded_list_of : Vec Bounded Global → List SpeltBounded
bounded_list_of v = map bounded_of v.items

abbrev pub edge_of : Edge → SpeltEdge
edge_of e = record { direction = name_of e.direction; target = name_of e.target }

abbrev pub vertex_of : Vertex → SpeltVertex
vertex_of v = record { name = name_of v.name; piece = name_of v.piece; edges = map edge_of v.edges.items }

abbrev pub board_of : ParsedBoard → SpeltBoard
board_of (Rectangle directions rows) = SpeltBoard.rectangle (map name_of directions.names) (map names_of rows.items)
board_of (Hexagon directions rows) = SpeltBoard.hexagon (map name_of directions.names) (map names_of rows.items)
board_of (Graph vertices) = SpeltBoard.graph (map vertex_of vertices.items)

-- one level of an expression, with each part already seen as its spelt expression
abbrev pub expression_step : Expression-F SpeltExpression SpeltOperand → SpeltExpression
expression_step (Expression-F.Number n) = SpeltExpression.number (number_of n)
expression_step (Expression-F.Name n) = SpeltExpression.name (name_of n)
expression_step (Expression-F.Negated e) = SpeltExpression.negated e.value
expression_step (Expression-F.Chain operands) = SpeltExpression.chain (operands_after no_operands operands.items)

abbrev pub operand_step : Operand-F SpeltExpression SpeltOperand → SpeltOperand
operand_step o = (o.operator, o.value)

unfoldable pub expression_of : Expression → SpeltExpression
expression_of = fold-Expression SpeltExpression SpeltOperand expression_step operand_step

-- an operand of the code as its operator and its spelt expression
abbrev pub operand_of : Operand → SpeltOperand
operand_of o = (o.operator, expression_of o.value)

-- one level of the rules, with each part already seen as what it spells
abbrev pub action_step : ParsedAction-F SpeltAction SpeltRule → SpeltAction
action_step (ParsedAction-F.Shift n) = SpeltAction.shift (name_of n)
action_step (ParsedAction-F.On ns) = SpeltAction.on (map name_of ns.items)
action_step (ParsedAction-F.Off n) = SpeltAction.off (name_of n)
action_step (ParsedAction-F.Assign n e) = SpeltAction.assign (name_of n) (expression_of e)
action_step (ParsedAction-F.Compare e r f) = SpeltAction.compare (expression_of e) r (expression_of f)
action_step (ParsedAction-F.Switch at player) = SpeltAction.switch at (option_map name_of player)
action_step (ParsedAction-F.PositivePattern at r) = SpeltAction.positive at r.value
action_step (ParsedAction-F.NegativePattern at r) = SpeltAction.negative at r.value

abbrev pub rule_step : ParsedRule-F SpeltAction SpeltRule → SpeltRule
rule_step (ParsedRule-F.Act a) = SpeltRule.act a
rule_step (ParsedRule-F.Then rs) = SpeltRule.sequence (rules_after no_rules rs.items)
rule_step (ParsedRule-F.Or rs) = SpeltRule.choice (rules_after no_rules rs.items)
rule_step (ParsedRule-F.Star r) = SpeltRule.star r.value

unfoldable pub action_of : ParsedAction → SpeltAction
action_of = fold-ParsedAction SpeltAction SpeltRule action_step rule_step

unfoldable pub rule_of : ParsedRule → SpeltRule
rule_of = fold-ParsedRule SpeltAction SpeltRule action_step rule_step

-- what the sections spell, from the trees of the code for them
abbrev pub spelt : Vec Bounded Global → Vec Bounded Global → Vec Name Global → ParsedBoard → ParsedRule → SpeltDescription
spelt players variables pieces board rules =
    record {
      players = map bounded_of players.items;
      variables = map bounded_of variables.items;
      pieces = map name_of pieces.items;
      board = board_of board;
      rules = rule_of rules;
    }
