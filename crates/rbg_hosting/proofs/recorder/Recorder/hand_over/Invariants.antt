-- What was handed over of the first matches.
use Rattle.std.proofs.Common.{◌≡◌, List}
use Rattle.rbg_hall.specs.Tables.{TableState}
use Rattle.rbg_hosting.specs.internal.Recorded.{HandsFirst, StandAfter, places}
use Rattle.rbg_hosting.proofs.recorder.Recorder.hand_over.Given as goal

abbrev pub invariant-loop-index : goal.invariant-loop-index
invariant-loop-index g l = record {
  as_many : places l.self ≡ places l.initial.self;
  first : (old : List TableState) → StandAfter old l.hall.state.tables →
      HandsFirst g.A.Archive.handed l.initial.self l.self old l.hall.state.tables l.index;
}
