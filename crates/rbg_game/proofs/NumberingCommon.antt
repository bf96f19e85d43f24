-- The definitions of this crate that most proofs cite, passed on from one place. Declares nothing.
pub use Rattle.rbg_game.specs.RuleFaults.{HasArithmeticFault, HasExpression, HasPart, HasPattern, HasPatternInside, HasRuleFault, HasSpeltAction, HasSwitch, HasUnknown, IsSpeltPattern, Purpose, SomeHasSpeltAction, SomeOperandHasPart, Uses, actions_in, actions_in_all, actions_of, arithmetic_memory, as_direction, as_piece, as_player, as_variable, assigned, assigns, deep_pattern, earlier, earlier_operand, gives_turn, great_number, in_arithmetic, in_chain, in_choice, in_negated, in_negative, in_none, in_one_more, in_positive, in_sequence, in_star, itself, last, last_operand, left_side, many_positions, names_for, negative_pattern, positive_pattern, puts, right_side, rule_memory, shifts, stands_on, switch_in_pattern, this, unknown_use, unknown_value}
pub use Rattle.rbg_game.specs.NameTables.{HasLookUpFault, HasNameFault, OccursAfter, bytes_of, no_memory, not_there, same_name}
pub use Rattle.rbg_game.specs.NameNumbers.{HasDifferentNames, IsNumberOf, Names, texts_of}
pub use Rattle.rbg_game.specs.Numbered.{HasAsMany, HasNoSwitchInPattern, IsRuleByNumbers, names_of}
pub use Rattle.rbg_game.specs.Rules.{ActionIs, ArithmeticIs, ChainIs, PartsAre, RuleIs}
pub use Rattle.rbg_game.specs.declared.game_error.GameError.{GameError}
pub use Rattle.rbg_game.specs.declared.game_error.GameError.TheVariants.{Memory, Bound, SameName, SwitchInPattern, UnknownName}
pub use Rattle.rbg_game.specs.internal.Actions.{HasActionFault, HasOpeningFault, OpensPattern, is_spelt_pattern, no_memory_left, too_deep, too_many}
pub use Rattle.rbg_game.specs.internal.Arithmetic.{Combines}
pub use Rattle.rbg_game.specs.internal.Steps.{AddsParts, AddsRule, AreNumbered, HasFaultFrom, IsLawful, IsLawfulAction, Numbers, actions_in_list, from_arithmetic, from_depth, from_inner_switch, from_memory, from_positions, from_switch, from_use}
pub use Rattle.rbg_game.specs.internal.Tables.{GivesPlaces, number_for}
