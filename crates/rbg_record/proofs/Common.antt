-- The definitions of this crate that most proofs cite, passed on from one place. Declares nothing.
pub use Rattle.rbg_record.specs.ByLine.{IsReachedIn, Refuses, RefusesEntry, reached_of}
pub use Rattle.rbg_record.specs.Judged.{FitsUnasked, IsBadLine, IsFormFault, IsGoodByLines, IsHeavyLine, IsJudged, IsLineOf, IsMisfit}
pub use Rattle.rbg_record.specs.Laws.{GoodByLines, IsUndecided, MatchesAreRight, OneJudgement, OnePlainFault, OneRecord}
pub use Rattle.rbg_record.specs.Lines.{EntryLeads, HasForm, IsMomentFor, LeadTo, Leads, Reached, MatchSoFar, entry_next, next_of, nothing_next, play_at, players_next, start_next, version_next}
pub use Rattle.rbg_record.specs.Migration.{HasPlainForm, IsMigrated, IsPlainFault, IsPlainSoFar, PlainPart, among_moves, before_version, beyond_end, migrated}
pub use Rattle.rbg_record.specs.OfMatch.{WritesRecord, plain_move, plain_record_of, record_of}
pub use Rattle.rbg_record.specs.Reaching.{IsPlaceAfter, place_in}
pub use Rattle.rbg_record.specs.Records.{AbstractRecord, HasSpelling, PlainMove, PlainRecord, Spells, TimedRecord, made_entry, plain, plain_entries, plain_entry, texts_of, timed, timed_entries}
pub use Rattle.rbg_record.specs.Right.{FitsPlace, IsRight, IsRightPlain, IsRightRecord, IsRightTimed, made_at, recorded_play, turn_config}
pub use Rattle.rbg_record.specs.declared.checked.Checked.{Checked}
pub use Rattle.rbg_record.specs.declared.checked.Checked.TheVariants.{Bad, Good}
pub use Rattle.rbg_record.specs.declared.error.RecordError.{RecordError}
pub use Rattle.rbg_record.specs.declared.error.RecordError.TheVariants.{Form, Memory, Over}
pub use Rattle.rbg_record.specs.declared.fault.LineFault.{LineFault}
pub use Rattle.rbg_record.specs.declared.fault.Misfit.{Misfit}
pub use Rattle.rbg_record.specs.internal.Faults.{verdict_at}
pub use Rattle.rbg_record.specs.internal.Following.{EndsAt, IsAt, ends_at}
pub use Rattle.rbg_record.specs.internal.Migrating.{AreMigrated, IsPlainNext, IsPlainRefusal, IsWritten, Migrates, MigratesLine, TellsAll, head_texts, part_of, timed_texts}
pub use Rattle.rbg_record.specs.internal.Reading.{EndsSo, SomeIsLegal}
pub use Rattle.rbg_record.specs.internal.Written.{entries_bytes, made_text, text_in}
