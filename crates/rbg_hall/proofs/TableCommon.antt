-- The definitions of this crate that most proofs cite, passed on from one place. Declares nothing.
pub use Rattle.rbg_hall.specs.TableHearing.{HearsFor, SaysWhole, input_of, line_in}
pub use Rattle.rbg_hall.specs.TableLaws.{Beginning, Hands, HandsEach, HoldsTranscript, LinesHaveOneSeat, RunHoldsTranscript, TakesLast, goes_not, late, late_refusal, says_not, stirs_not}
pub use Rattle.rbg_hall.specs.TableLimits.{lines_in_all}
pub use Rattle.rbg_hall.specs.Tables.{AreTaken, HallOf, HasNoSeat, HasSeat, Hears, IsFirstFree, OwnEvent, Plays, SitsAt, TableRun, TableState, arrives, begins, clock, comes_late, frees, goes, goes_unheard, is_early, is_full, is_moment_for_none, is_unheard, joins, leaves, new_table, plays, says, sits, stays, stirs, ticks, waits, waits_too}
pub use Rattle.rbg_hall.specs.Tellings.{Telling, bytes_to, refusal_to, telling, to_lines, told_from, told_on, told_to}
pub use Rattle.rbg_hall.specs.Undoing.{QueueState, at_rest, bytes_in, cut_back, undone}
pub use Rattle.rbg_hall.specs.declared.queues.QueueMark.{QueueMark}
pub use Rattle.rbg_hall.specs.declared.hall_table.Phase.{Phase}
pub use Rattle.rbg_hall.specs.declared.hall_table.Phase.TheVariants.{Begun}
pub use Rattle.rbg_hall.specs.internal.TableHearing.{BeginsFor, IsFirstAt, IsSeatOf, PlaysFor, nothing}
pub use Rattle.rbg_hall.specs.internal.TableParts.{begun_in, game_in}
pub use Rattle.rbg_hall.specs.internal.Running.{AreBetween, ComesWhole, StepsFor}
