pub mod Common
pub mod ClockLemmas
pub mod EndLemmas
pub mod HeardLemmas
pub mod InCallLemmas
pub mod LinesLemmas
pub mod PassingLemmas
pub mod PollLemmas
pub mod SaidLemmas
pub mod MemoryLemmas
-- What the proofs of this crate share.
pub mod CuttingLemmas
pub mod Replaying
pub mod Logging
pub mod WritingLemmas
pub mod LogClockLemmas
