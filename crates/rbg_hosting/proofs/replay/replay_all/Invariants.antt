-- The hall has heard what the first logs hold.
use Rattle.std.proofs.Common.{◌≡◌, ◌≤◌, ℕ, List, [], ◌+◌, drop}
use Rattle.rbg_hall.proofs.Common.{AbstractTable}
use Rattle.rbg_script.specs.Events.{AbstractEvent}
use Rattle.rbg_hosting.proofs.PastLemmas.{HasHeardPart}
use Rattle.rbg_hosting.specs.Pasts.{past_from}
use Rattle.rbg_hosting.specs.internal.Recorded.{HasHeard}
use Rattle.rbg_hosting.specs.internal.Resuming.{pasts_in}
use Rattle.rbg_hosting.proofs.replay.replay_all.Given as goal

abbrev pub invariant-loop-index : goal.invariant-loop-index
invariant-loop-index g l = record {
  heard : (starts : List AbstractTable) (matches : ℕ) (earlier : List AbstractEvent) →
      HasHeard g.A.Archive.handed starts matches l.initial.recorded.recorder earlier l.initial.recorded.hall.state l.initial.out →
      HasHeardPart g.A.Archive.handed starts matches l.recorded.recorder earlier (past_from 1 0 l.players (pasts_in l.pasts))
      (past_from (l.index + 1) l.line (drop l.index l.players) (pasts_in (drop l.index l.pasts))) l.recorded.hall.state l.out;
  nothing : l.pasts ≡ [] → (l.recorded ≡ l.initial.recorded) × (l.out ≡ l.initial.out);
}
