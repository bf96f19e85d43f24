use Rattle.std.proofs.Common.{[]}
use Rattle.rbg_match.proofs.Replying.{nothing_done}
use Rattle.rbg_match.proofs.state.Referee.end_heavy.Goals as goal

pub returns-in-Memory : goal.returns-in-Memory
returns-in-Memory c = record { after = c.args.self.now.play; outgoing = []; becomes = nothing_done _; whole = tt }
