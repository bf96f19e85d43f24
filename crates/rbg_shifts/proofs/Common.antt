-- The definitions of this crate that most proofs cite, passed on from one place. Declares nothing.
pub use Rattle.rbg_shifts.specs.Asked.{AreTargetsFrom, IsEndOf}
pub use Rattle.rbg_shifts.specs.Entries.{IsWithin, end_of}
pub use Rattle.rbg_shifts.specs.Leaps.{EndsAcross, IsLeap, IsShiftAt, Leads, go, stay}
pub use Rattle.rbg_shifts.specs.Limits.{row_words}
pub use Rattle.rbg_shifts.specs.Made.{AreLeapsOf, IsEntry, entry_in, entry_of, no_entry}
pub use Rattle.rbg_shifts.specs.Origin.{start_of}
pub use Rattle.rbg_shifts.specs.declared.asking.Leaps.{Leaps}
pub use Rattle.rbg_shifts.specs.declared.branches.Branch.{Branch}
pub use Rattle.rbg_shifts.specs.declared.interner.Interner.{Interner}
pub use Rattle.rbg_shifts.specs.declared.interner.Node.{Node}
pub use Rattle.rbg_shifts.specs.declared.origin.Origin.TheVariants.{After, Begin}
pub use Rattle.rbg_shifts.specs.declared.origin.Origin.{Origin}
pub use Rattle.rbg_shifts.specs.declared.lists.Lists.{Lists}
pub use Rattle.rbg_shifts.specs.declared.table.Entry.{Entry}
pub use Rattle.rbg_shifts.specs.declared.table.Table.{Table}
pub use Rattle.rbg_shifts.specs.declared.target.Target.{Target}
pub use Rattle.rbg_shifts.specs.internal.Branches.{AreBranches, IsBranch, no_branch}
pub use Rattle.rbg_shifts.specs.internal.Interned.{AreListsOf, AreListsUpTo, ExtendsInterner, IsKept, IsNodeOf, branches_at, list_at, may_end_at, node_in, origin_node}
pub use Rattle.rbg_shifts.specs.internal.Spans.{IsNodeWithin, no_node}
pub use Rattle.rbg_shifts.specs.internal.Steps.{AreDirections, AreDirectionsUpTo, Comes, EndsBy, IsAnswerAt, IsLeapBy, IsOnly, IsUpToLast, by_other, by_shift}
pub use Rattle.rbg_shifts.specs.internal.Tables.{AddsAll, AddsTarget, AddsUpTo, AreAllClosed, AreClosedFrom, AreFilled, AreLaid, AreSound, AreSoundBy, Fills, FillsDownTo, FillsOne, FillsRightly, FillsUpTo, Grows, IsClosed, IsFilled, IsGathered, IsMarked, IsSoundEntry, IsSoundTable, IsTargetBy, IsTargetOf, RecordsStepAt, RecordsStep, RecordsStepEverywhere, RecordsStepFrom, IsUnder, IsWhole, IsWholeFrom, Keeps, KeepsRecorded, LeadsBack, LeadsForth, LeadsOneWay, LeadsToMarked, Shares, StaysClosed, StepsBack, StepsForth, HasEnd, HasEndAt, entry_at, no_target, target_at}
