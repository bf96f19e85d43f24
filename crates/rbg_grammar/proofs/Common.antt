-- The definitions of this crate that most proofs cite, passed on from one place. Declares nothing.
pub use Rattle.rbg_grammar.specs.Descriptions.{description_of, description_of_parts}
pub use Rattle.rbg_grammar.specs.Examples.{DeepestBrackets, MisspeltAlone, NegatedFactor, StarredAssignments, SumInParentheses, TooDeepAlone, TooManyBrackets, TwoMinuses, TwoStars, in_parentheses, letter, letter_name, sign, signs}
pub use Rattle.rbg_grammar.specs.Formed.{IsWhole, are_formed, are_formed_operands, are_of_rank, has_its_directions, has_two_rules, is_first_of, is_formed, is_formed_action, is_formed_expression, is_of_rank, make_a_chain}
pub use Rattle.rbg_grammar.specs.Grammar.{AreAssignments, ArePieces, ArePlayers, AreRules, AreRulesOver, AreVariables, IsAssignment, IsAtom, IsBoard, IsBounded, IsBracketAtom, IsComparison, IsEdge, IsGenerated, IsGraph, IsHexagon, IsItem, IsOpenAtom, IsPrimary, IsRectangle, IsRelation, IsRow, IsSequence, IsSum, IsVertex, assignment, assignments, assigns, bounded, compares, comparison, edge, either, fails, four, generated, graphic, groups, hexagonal, holds, in_turn, keeps, moves, once, puts, rectangular, relation_of, six, stands_on, starred, switches, vertex, vertices}
pub use Rattle.rbg_grammar.specs.Laws.{OnePlaceLaw, OneTooDeepLaw}
pub use Rattle.rbg_grammar.specs.Phrase.{After, IsName, IsNumber, IsOneOf, IsSymbol, IsWord, Listed, Phrase, Repeated, Separated, WithComma, Within, after, again, done, listed, name, nothing, number, one_of, separated, symbol, with_comma, within, word}
pub use Rattle.rbg_grammar.specs.Reading.{Fault, Reading, TakesSome, ended_at, in_sequence, is_in, misfit, next_is, next_word, or_misfit, place_of, repeated_within, token_at, too_deep, ◌>>=◌}
unfoldable pub use Rattle.rbg_grammar.specs.Reading.{after_at, board_at, bounded_at, direction_at, edge_at, further_at, generated_at, graph_at, hexagon_at, listed_at, name_at, number_at, off_at, on_at, one_of_at, open_atom_at, rectangle_at, repeated_at, row_at, rows_at, separated_at, symbol_at, variables_at, vertex_at, whole_at, with_comma_at, within_at, word_at}
pub use Rattle.rbg_grammar.specs.RuleReading.{begins_atom, in_choice, is_operator, operand_at, sum_over_at, too_deep_at}
unfoldable pub use Rattle.rbg_grammar.specs.RuleReading.{assignment_at, assignments_at, atom_at, bracket_atom_at, chain_at, comparison_at, factor_at, further_operand_at, in_braces_at, in_brackets_at, item_at, negative_at, number_or_name_at, pattern_at, positive_at, primary_at, rules_at, rules_over_at, sequence_at, sum_at}
pub use Rattle.rbg_grammar.specs.Sections.{AreDifferent, count_of, same_kind, sections_of}
pub use Rattle.rbg_grammar.specs.Spells.{CanGoOn, EndsEarly, HasSection, IsMisfit, IsSection, IsSpelt, IsTooDeep, MayHaveVariables, Spells, TokenAt, open_after, open_with}
pub use Rattle.rbg_grammar.specs.Tree.{SpeltAction, SpeltBoard, SpeltBounded, SpeltDescription, SpeltEdge, SpeltExpression, SpeltName, SpeltNumber, SpeltOperand, SpeltOperands, SpeltRule, SpeltRules, SpeltVertex, act, assign, choice_of, compare, first_of, graph, hexagon, in_chain, more_operands, more_rules, negative, no_operands, no_rules, operands_after, positive, rectangle, rules_after, sequence_of, shift, star, switch}
pub use Rattle.rbg_grammar.specs.Views.{bounded_of, edge_of, name_of, names_of, number_of, operand_of, vertex_of}
unfoldable pub use Rattle.rbg_grammar.specs.Views.{action_of, expression_of, rule_of}
pub use Rattle.rbg_grammar.specs.declared.expression.Expression.{Expression}
pub use Rattle.rbg_grammar.specs.declared.expression.Operand.{Operand}
pub use Rattle.rbg_grammar.specs.declared.expression.Rank.{Rank}
pub use Rattle.rbg_grammar.specs.declared.names.Name.{Name}
pub use Rattle.rbg_grammar.specs.declared.names.Number.{Number}
pub use Rattle.rbg_grammar.specs.declared.rule.ParsedAction.{ParsedAction}
pub use Rattle.rbg_grammar.specs.declared.rule.ParsedRule.{ParsedRule}
