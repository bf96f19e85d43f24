-- The definitions of this crate that most proofs cite, passed on from one place. Declares nothing.
pub use Rattle.rbg_macro.specs.Call.{Arguments, Calls, Cuts, Ends, Meets, Mismatched, Nesting, NoCall, Stays, Within, arguments, arguments_by, called, closing, cutting, meets, met, nesting, with_argument, with_arguments, with_token}
pub use Rattle.rbg_macro.specs.Definition.{A_Macro, A_Section, Defined, Definitions, Part, after_equals, beyond_name, defined, defined_as, definitions, definitions_of, expect, first_at, is_hash_token, is_new_name, parameter_list, part_of, parts, section_named, with_defined, with_section}
pub use Rattle.rbg_macro.specs.Errors.{UnlessMemory}
pub use Rattle.rbg_macro.specs.Expansion.{Expands, ExpandsAll, ExpandsWithin, Fails, FailsAll, FailsReading, HasFault, HasMacroFault, HasSections, Reads, after_call, beyond_kept, call, here, in_call, kept, later, list, no_call, no_join, none, nothing, one_more, reading, stays, too_deep, too_many_kept, too_many_read}
pub use Rattle.rbg_macro.specs.Joining.{beyond, join_at, joined, joined_from, joined_kind, joined_token, with_kind}
pub use Rattle.rbg_macro.specs.Macro.{Macro, body_of, filled, filled_item, macro_named}
pub use Rattle.rbg_macro.specs.Sections.{AreLexemes, SectionTokens}
pub use Rattle.rbg_macro.specs.Steps.{◌>>=◌}
pub use Rattle.rbg_macro.specs.declared.buffer.KeptToken.{KeptToken}
pub use Rattle.rbg_macro.specs.declared.buffer.Span.{Span}
pub use Rattle.rbg_macro.specs.declared.definition.SectionBody.{SectionBody}
pub use Rattle.rbg_macro.specs.declared.error.MacroError.{MacroError}
pub use Rattle.rbg_macro.specs.declared.error.MacroError.TheVariants.{ArgumentCount, BadDefinition, BadJoin, Depth, Memory, TooManyTokens, Twice}
pub use Rattle.rbg_macro.specs.declared.expansion.ExpandedTokens.{ExpandedTokens}
pub use Rattle.rbg_macro.specs.declared.joining.JoinedToken.{JoinedToken}
pub use Rattle.rbg_macro.specs.declared.joining.JoinedToken.TheVariants.{Joined, Single}
pub use Rattle.rbg_macro.specs.declared.limits.TheConstants.{MAX_JOINED, MAX_KEPT, MAX_LEVEL, MAX_READ}
pub use Rattle.rbg_macro.specs.declared.macros.Template.{Template}
pub use Rattle.rbg_macro.specs.declared.read_token.ReadToken.{ReadToken}
pub use Rattle.rbg_macro.specs.declared.source.SectionKind.{SectionKind}
pub use Rattle.rbg_macro.specs.declared.source.SectionSpan.{SectionSpan}
pub use Rattle.rbg_macro.specs.internal.Calls.{AreArguments, IsCall, IsMiscall, begins_with_parenthesis}
pub use Rattle.rbg_macro.specs.internal.Defines.{AddsDefined, AddsParameter, BeginsDefinition, defines_of, section_of, with_one_more}
pub use Rattle.rbg_macro.specs.internal.Joined.{AddsChain, FailsChain, IsJoinedWithin, JoinsChain, JoinsNext, begins_with_tilde, joined_word, word_at}
pub use Rattle.rbg_macro.specs.internal.Marks.{AreMarkedLists, FillsMarks, IsMarked, IsMarkedItem, IsMarkedTemplate, IsMarkedWord, IsNumberOf, IsTemplateAt, KeepsMarks, Word, lexeme_in_word, word_of}
pub use Rattle.rbg_macro.specs.internal.ReadTokens.{read_lexeme}
pub use Rattle.rbg_macro.specs.internal.Span.{IsKeptAs, IsKeptWithin, IsSectionIn, IsSectionWithin, IsSpanWithin, kept_lexeme, lexeme_in, section_in}
pub use Rattle.rbg_macro.specs.internal.Template.{IsNamed, item_in, lists_in, macro_in, macro_of, texts_in}
