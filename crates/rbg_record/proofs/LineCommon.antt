-- The definitions of this crate that most proofs cite, passed on from one place. Declares nothing.
pub use Rattle.rbg_record.specs.Entries.{EntryHasSpelling, SpellsEntry, SpellsIn, SpellsTimed, TimedHasSpelling, timed_text, unwritten_moment, with_moment}
unfoldable pub use Rattle.rbg_record.specs.Entries.{entry_text}
pub use Rattle.rbg_record.specs.Heading.{HaveNames, SpellsPlayers, SpellsStart, StartHasSpelling, players_text}
unfoldable pub use Rattle.rbg_record.specs.Heading.{start_text, version_text}
pub use Rattle.rbg_record.specs.LineLaws.{EntriesAreApart, HeadingsAreApart, LinesAreApart, SpellingsAreLines}
pub use Rattle.rbg_record.specs.NextLine.{BeginsWith, GoesOn, HasFormFault, IsFirstLine, Left}
pub use Rattle.rbg_record.specs.Reading.{HasForm, Misreads, HasContent, TakesLine, next_after}
pub use Rattle.rbg_record.specs.declared.entry.Entry.{Entry}
pub use Rattle.rbg_record.specs.declared.entry.Entry.TheVariants.{End, Move}
pub use Rattle.rbg_record.specs.declared.entry.Timed.{Timed}
pub use Rattle.rbg_record.specs.declared.heading.Start.{Start}
pub use Rattle.rbg_record.specs.declared.heading.Version.{Version}
pub use Rattle.rbg_record.specs.declared.heading.Version.TheVariants.{One, Two}
