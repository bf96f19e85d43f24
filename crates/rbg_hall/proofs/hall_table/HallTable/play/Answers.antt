use Rattle.std.proofs.Common.{ap}
use Rattle.rbg_match.specs.Arrivals.{arrival_of}
use Rattle.rbg_hall.proofs.TableCommon.{nothing, begun_in}
use Rattle.rbg_hall.proofs.Phases.{ok_phase}
use Rattle.rbg_hall.proofs.hall_table.HallTable.play.Goals.{in-Begun, in-Waiting, in-Failed}
use Rattle.rbg_hall.proofs.hall_table.HallTable.play.Goals as goal

pub returns-clause-plays : goal.returns-clause-plays
returns-clause-plays c = elim c.match-self.branch [
  | in-Begun w ↦ rw (w.result-is, w.out-is, w.self-inside-is, ← c.self.view_is) (ok_phase c.self.inside.text.items c.self.inside.config c.self.inside.seats.items c.self.inside.phase w.in-Begun.running w.step.new.self (arrival_of c.args.arrival) c.args.out.now.queued w.step.new.out.queued w.step.result w.in-Begun.is w.step.ensures.game (rw w.deref.ensures.value at w.step.ensures.steps))
  | in-Waiting w ↦ rw (w.result-is, w.out-is, w.self-inside-is, ← c.self.view_is) (nothing (ap begun_in w.in-Waiting.is))
  | in-Failed w ↦ rw (w.result-is, w.out-is, w.self-inside-is, ← c.self.view_is) (nothing (ap begun_in w.in-Failed.is))
]
