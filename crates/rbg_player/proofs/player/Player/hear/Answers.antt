use Rattle.std.proofs.Common.{sym, ◌∙◌}
use Rattle.rbg_player.specs.Streams.{again}
use Rattle.rbg_player.specs.internal.Stages.{stage_of}
use Rattle.rbg_player.proofs.HearingLemmas.{error_is}
use Rattle.rbg_player.proofs.player.Player.hear.Goals as goal

pub returns-in-Some-clause-fails : goal.returns-in-Some-clause-fails
returns-in-Some-clause-fails g c = rw (← c.self.view_is) (again (error_is (stage_of c.self.inside.stage) c.in-Some.error (sym c.in-Some.is ∙ c.error.ensures)))
