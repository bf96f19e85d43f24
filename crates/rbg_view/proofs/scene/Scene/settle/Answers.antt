-- Where the keeper is to move at last, play is finished.
use Rattle.std.proofs.Common.{sym, ◌∙◌}
use Rattle.rbg_view.proofs.Trying.{settled_keeper, settled_player}
use Rattle.rbg_view.proofs.scene.Scene.settle.Goals as goal

pub returns-then-player-eq0-clause-settles : goal.returns-then-player-eq0-clause-settles
returns-then-player-eq0-clause-settles c =
    settled_keeper c.args.self.now.play c.make_one.new.self.play c.in_ok-make_one.field-0 c.in_ok-make_one.ensures.made (sym c.player.ensures ∙ c.if-player-eq0.true)

pub returns-clause-settles : goal.returns-clause-settles
returns-clause-settles c =
    settled_player c.args.self.now.play c.make_one.new.self.play c.find.new.self c.in_ok-make_one.field-0 c.is_some.result c.in_ok-find.field-0 (λ pairs. pairs.items) c.in_ok-make_one.ensures.made c.find.ensures.kept c.is_some.ensures c.in_ok-find.ensures.found c.in_ok-find.ensures.finished
