-- The definitions of this crate that most proofs cite, passed on from one place. Declares nothing.
pub use Rattle.rbg_flat.specs.Candidates.{IsCandidate, MayCome, MayEnd}
pub use Rattle.rbg_flat.specs.Ways.{EndsFirst, EndsLead, EndsStep, IsFirstLead, IsLead, IsOfPart, IsStep, Moves, Way, goes, leaping, stays, stepping}
pub use Rattle.rbg_flat.specs.Chains.{ChainLaw, EndsMet, Holds, IsMet, at_vertex, first, then}
pub use Rattle.rbg_flat.specs.Ending.{IsDeadEnd}
pub use Rattle.rbg_flat.specs.Followers.{AreFollowers, AreStepsOf}
pub use Rattle.rbg_flat.specs.Found.{AreFound, HasCandidates, HasPairs, IsFound, most_candidates}
pub use Rattle.rbg_flat.specs.Met.{CountsMet}
pub use Rattle.rbg_flat.specs.Order.{IsBefore, IsLeast}
pub use Rattle.rbg_flat.specs.Paths.{AreFacts, AreShown, ArePathsOf, IsComparisonAt, IsKind, IsStill, IsSureAt, Stays, way_by, way_if, way_of}
pub use Rattle.rbg_flat.specs.declared.followers.Followers.{Followers}
pub use Rattle.rbg_flat.specs.declared.found.Word.{Word}
pub use Rattle.rbg_flat.specs.declared.paths.Facts.{Facts}
pub use Rattle.rbg_flat.specs.declared.paths.Kind.{Kind}
pub use Rattle.rbg_flat.specs.declared.paths.Kind.TheVariants.{Comparison, On, OnEither, Pattern, Plain}
pub use Rattle.rbg_flat.specs.internal.Begun.{IsBegun, Pairs}
pub use Rattle.rbg_flat.specs.internal.Bits.{IsFilled, first_at, first_of, next, pairs_in, with_first}
unfoldable pub use Rattle.rbg_flat.specs.internal.Bits.{bits, pairs_of}
pub use Rattle.rbg_flat.specs.internal.Counted.{Counted}
pub use Rattle.rbg_flat.specs.internal.Ending.{AreDead, IsDead, IsDeadTarget, IsFilledTarget}
pub use Rattle.rbg_flat.specs.internal.Gathering.{Gathered, Gathers, IsBitOf, IsGone, IsKept, Keeps, Lists, PushesWord, at_position}
pub use Rattle.rbg_flat.specs.internal.Leading.{AreOn, AreSizedFor, EndsFrom, EndsPast, IsAmong, IsAmongBits, IsOnBoard, IsPositionIn, IsTargetFor, LeadsFrom, LeadsPast, LearnsEnd}
pub use Rattle.rbg_flat.specs.internal.Passing.{IsOneOf, IsToTry}
pub use Rattle.rbg_flat.specs.internal.Places.{AreSetsByPlace, ForgetsPlace, IsMetAt}
pub use Rattle.rbg_flat.specs.internal.Sets.{ClosesWord, HasBitAt, IsDone, IsInWord, IsLastOf, IsMarked, IsOpen, KeepsDone, Meets, MeetsWord, SetsOfVertices, sets_of, weight}
pub use Rattle.rbg_flat.specs.internal.Setting.{IsToTryIn, LeadsOn, way_in}
pub use Rattle.rbg_flat.specs.internal.Shown.{HasNoPieces, HasPieces, ShowsFacts}
pub use Rattle.rbg_flat.specs.internal.Table.{AreListed}
