-- The definitions of this crate that most proofs cite, passed on from one place. Declares nothing.
pub use Rattle.rbg_hall.specs.Allowed.{IsAllowed, bytes_by, bytes_for}
pub use Rattle.rbg_hall.specs.Apart.{asks_for, concerning, concerns}
pub use Rattle.rbg_hall.specs.Failing.{HeldHall}
pub use Rattle.rbg_hall.specs.Halls.{AbstractTable, EachHears, HallRun, HallState, HallSteps, HearsEach, begun_at, begun_of, line_at, line_beyond, lines_after, new_hall, refused_by, refused_first, refused_for, refused_in}
pub use Rattle.rbg_hall.specs.Hearing.{HallHears}
pub use Rattle.rbg_hall.specs.Laws.{BegunMatchesHoldTranscripts, HoldsMatch, LinesHaveTheSameBytes, LogSends, LoggedRun, LogsSendWhatIsTold, OthersAreUnheard, RunIsAllowed, ServedHallIsAllowed, ServedHallRunsOn, TablesAreApart, early_refusal}
pub use Rattle.rbg_hall.specs.Ledgers.{Becomes, EachBecomes, EachWrites, HallStops, HallWrites, HasLogFailed, IsLogAt, KeptHearsEach, given_at, given_to, kept, log_at, log_of}
pub use Rattle.rbg_hall.specs.Limits.{most_tables}
pub use Rattle.rbg_hall.specs.Lines.{HallLine, asking, asks, first_request, has_ended, line_after, line_cut, over, sent_by, silent, stream_of}
pub use Rattle.rbg_hall.specs.Openings.{AreLoaded, AreWithinLimits, IsNewHall, IsRefusedHall, MayBeTables, memory, start_of, starts_of}
pub use Rattle.rbg_hall.specs.Own.{heard_first, heard_of, heard_of_end, heard_of_piece, own, own_after}
pub use Rattle.rbg_hall.specs.Requests.{is_for, is_request}
unfoldable pub use Rattle.rbg_hall.specs.Requests.{requested}
pub use Rattle.rbg_hall.specs.Serving.{HasSeatThere, HaveAllEnded, IsServedHall, SpeaksAs, hall_event, hall_events, of_hall}
pub use Rattle.rbg_hall.specs.Wholes.{HasRun, IsOfHall}
pub use Rattle.rbg_hall.specs.declared.error.HallError.{HallError}
pub use Rattle.rbg_hall.specs.declared.error.HallError.TheVariants.{Config, Memory, Tables}
pub use Rattle.rbg_hall.specs.declared.hearing.First.{First}
pub use Rattle.rbg_hall.specs.declared.line.LinePhase.{LinePhase}
pub use Rattle.rbg_hall.specs.declared.line.LinePhase.TheVariants.{Over}
pub use Rattle.rbg_hall.specs.declared.table.Table.{Table}
pub use Rattle.rbg_hall.specs.internal.First.{IsFirst, IsTaken, index_within}
pub use Rattle.rbg_hall.specs.internal.Hearing.{EachKeptHears, HearsEachFor, PieceHeard, TablesHear, TablesStop, said_by}
pub use Rattle.rbg_hall.specs.internal.Parts.{AreReady, AreWhole, FirstHaveLimits, HaveLimits, IsEmptied, IsFaulty, IsPlaced, IsReady, hall_of, ledgers_of, line_of, lines_of, new_kept, new_line, new_tables, states_of}
