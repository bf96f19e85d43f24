-- Definitions of what is followed one by one, passed on from one place. Declares nothing.
pub use Rattle.rbg_search.specs.Closure.{EndsFlat, IsFound, IsReached, Leads, LeadsToEnd, RunsAfter, at_vertex, first, then}
pub use Rattle.rbg_search.specs.Flat.{IsBefore, IsFlatPart, IsNext}
pub use Rattle.rbg_search.specs.Meeting.{Adds, MeetsAll}
pub use Rattle.rbg_search.specs.Met.{IsMetPart}
pub use Rattle.rbg_search.specs.Nesting.{NestsFrom}
pub use Rattle.rbg_search.specs.Part.{IsPart, IsTrialAt, SomeLeadsToEnd}
pub use Rattle.rbg_search.specs.Plain.{CountsPlain, HasPlain}
pub use Rattle.rbg_search.specs.Start.{IsPositionOf, start_of}
