-- The words of the meaning that other crates use, on one page: each `use` names the page that defines them.
pub use Rattle.rbg_board.specs.Limits.{most_vertices}
pub use Rattle.rbg_rules.specs.State.{AbstractGame, AbstractState, IsStateOf, start_of}
pub use Rattle.rbg_rules.specs.Positions.{HasAction, HasInside, HasNoModifier, HasNoSwitch, HasOwnAction, IsLevel, IsModifierAt, IsNumbered, IsPatternAt, IsPatternOf, IsSwitchAt, Level, inside, is_modifier, is_pattern, outermost, positions_inside, positions_of}
pub use Rattle.rbg_rules.specs.Words.{Ends, Follows, Repeats, Start, Word, WordOf, after, again, beginning, done}
pub use Rattle.rbg_rules.specs.Moves.{AbstractPlace, Finished, IsLegal, Legal, RunPairs, modify, pass, point_of, stay}
pub use Rattle.rbg_rules.specs.Expression.{AbstractAction, AbstractArithmetic, Expression, act, assignment, choice, choice_of, comparison, difference, fail, negated, negative, number, off, on, piece_count, positive, product, quotient, sequence, sequence_of, shift, skip, star, sum, switch, variable}
pub use Rattle.rbg_rules.specs.Games.{HasNamesOf, HasNoEmptySum, HasNoEmptySumInside, InsideNestsWithin, IsActionOf, IsGame, IsWithinLimits, NestsWithin}
pub use Rattle.rbg_rules.specs.Questions.{AnswersAfter, Forced, GoesTo, HasForced, HasOpenings, IsDeep, IsForcedDeep, IsForcedTo, IsMove, IsProperPrefix, IsWide, Item, Opening, Question, RunsOn, SomeWordRuns, at, beyond, find_move, items_of, list_moves, modifier_at, pattern, pattern_at, reach, try_move}
pub use Rattle.rbg_rules.specs.Actions.{Acts, ActsIn, Applies, Run, Runs, rest, step}
pub use Rattle.rbg_rules.specs.Places.{IsLastOf, IsPlaceOf}
pub use Rattle.rbg_rules.specs.Translation.{Change, act_of, action_at, action_of, arithmetic_of, changed, expression_of, operated, operation_of, pattern_of, rules_of, shows_pattern}
pub use Rattle.rbg_rules.specs.Limits.{max_bound, most_directions, most_modifiers, most_nested_patterns, most_openings, most_pieces, most_players, most_positions, most_variables}
pub use Rattle.rbg_rules.specs.Heavy.{IsHeavyToFind, IsHeavyToTry, IsTooHard}
pub use Rattle.rbg_rules.specs.LawfulNames.{AreDifferentNames, AreLawfulNames, AreNames}
pub use Rattle.rbg_rules.specs.Laws.{IsJoinOfWords, IsStart, SameButVertex}
pub use Rattle.rbg_rules.specs.Table.{IsWithin, Shows, IsActionAt}
pub use Rattle.rbg_rules.specs.Values.{Relates, divided, if_fits, on_values, value_of}
pub use Rattle.rbg_rules.specs.Texts.{texts}
