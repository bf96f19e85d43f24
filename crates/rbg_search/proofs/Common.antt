-- The definitions of this crate that most proofs cite, passed on from one place. Declares nothing.
pub use Rattle.rbg_search.specs.Answered.{HasReached, IsAnswered}
pub use Rattle.rbg_search.specs.Counting.{CountsOpenings, IsOverBudget}
pub use Rattle.rbg_search.specs.Forced.{CountsAllForced, CountsForced, HasFewInRow, TakesAfter}
pub use Rattle.rbg_search.specs.Passing.{BeginsAmong, CountsBeginning, CountsUpTo, GoesOn, HasRow, IsTooDeep, Passes, asking, finding, from_here, listing, somewhere, trying}
pub use Rattle.rbg_search.specs.Searching.{Searching, Tally}
pub use Rattle.rbg_search.specs.Taken.{AreWhole, ComesTo, CountsPairs, CountsTaken, HasMet, HasPart, begins, by_modifier, by_pattern, most_candidates}
pub use Rattle.rbg_search.specs.declared.over.Over.{Over}
pub use Rattle.rbg_search.specs.declared.over.Over.TheVariants.{Deep, Memory, Wide}
pub use Rattle.rbg_search.specs.internal.Asked.{BeginsAsked, CountsAsked, GoesAfter, IsAsked, IsCounted, StandsInPattern}
pub use Rattle.rbg_search.specs.internal.Beyond.{IsReady, RunsAfterPair, SomeRunsAfter}
pub use Rattle.rbg_search.specs.internal.BySets.{AdvancesBySets, BeginsBySets, FindsBySets, HasSetsFor, IsBegunBySets, IsToBeAsked, IsWhole, TakesBySets}
pub use Rattle.rbg_search.specs.internal.Finding.{Finds, HasFound}
pub use Rattle.rbg_search.specs.internal.Spent.{AreMany, CountsPart, IsSpent, IsSpentButOne}
pub use Rattle.rbg_search.specs.internal.Straight.{IsScanned, IsScanning, IsTold}
pub use Rattle.rbg_search.specs.internal.Taking.{AsksForced, RanAfter}
pub use Rattle.rbg_search.specs.internal.Trying.{IsAskedAfter, Stays, TriesAfter}
