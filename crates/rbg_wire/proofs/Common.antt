-- The definitions of this crate that most proofs cite, passed on from one place. Declares nothing.
pub use Rattle.rbg_wire.specs.Bytes.{IsFirstPlace, LacksByte}
pub use Rattle.rbg_wire.specs.Cursors.{IsCursorOf, IsEnd, unread}
pub use Rattle.rbg_wire.specs.Inboxes.{item_of}
pub use Rattle.rbg_wire.specs.Laws.{ItemsAreTexts, RestsStayShort, SpellingsAreApart, SpellingsAreItems, TooLongComesOnce, item_for}
pub use Rattle.rbg_wire.specs.Lines.{line_feed, line_of, lines_of}
pub use Rattle.rbg_wire.specs.Messages.{AbstractMessage, ArePairs, HasSpelling, IsShortPair, OutcomeHasSpelling, end_message, game_letter, game_message, join_message, limits_message, message_of, move_message, pair_text, reason_number, refusal_message, who_message}
unfoldable pub use Rattle.rbg_wire.specs.Messages.{message_text, outcome_text, pairs_text, spelling}
pub use Rattle.rbg_wire.specs.Reading.{ArePairWords, HasFewPairs, ReadsMessage, ReadsPairs, SpellsLimits, SpellsMessage, SpellsMove, SpellsOutcome, SpellsPairs, SpellsPlayer, SpellsScores, SpellsTooMany, SpellsWho, TellsPairs, pair_words}
pub use Rattle.rbg_wire.specs.Streams.{Cut, IsRest, Item, Rest, Stream, after_items, complete, dropping, incomplete, next_byte, too_long, with_bytes, without_first}
unfoldable pub use Rattle.rbg_wire.specs.Streams.{cut}
pub use Rattle.rbg_wire.specs.Whole.{IsCutAlone, ItemsAreCutAgain, filler, whole_item}
pub use Rattle.rbg_wire.specs.Words.{BeginsWithNumber, words_of}
pub use Rattle.rbg_wire.specs.Writing.{AppendsAll}
pub use Rattle.rbg_wire.specs.declared.cursor.Cursor.{Cursor}
pub use Rattle.rbg_wire.specs.declared.error.WireError.{WireError}
pub use Rattle.rbg_wire.specs.declared.error.WireError.TheVariants.{Malformed, TooManyPairs}
pub use Rattle.rbg_wire.specs.declared.message.Message.{Message}
pub use Rattle.rbg_wire.specs.declared.message.Reason.{Reason}
pub use Rattle.rbg_wire.specs.declared.message.Reason.TheVariants.{MoveTooLong, NoSeat, NotLegal, OutOfTurn, Unreadable}
pub use Rattle.rbg_wire.specs.declared.outcome.Outcome.{Outcome}
pub use Rattle.rbg_wire.specs.declared.outcome.Outcome.TheVariants.{Finished, Gone, Heavy, Refusals, Time}
