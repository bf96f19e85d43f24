-- The pairs of a reading are its move.
use Rattle.rbg_base.proofs.Common.{◌≡◌, IfSome, ℕ, refl, subst, IfOk-weaker}
use Rattle.rbg_view.specs.internal.Trying.{TellsMade}
use Rattle.rbg_view.proofs.Trying.{tells_made}
use Rattle.rbg_view.proofs.scene.Scene.make.Goals as goal

pub returns-then-is_of-clause-made : goal.returns-then-is_of-clause-made
returns-then-is_of-clause-made c =
    let reading = c.args.reading.now in
    let who = subst (λ (p : ℕ). IfSome reading.player (λ said. said ≡ p)) c.player.ensures (c.if-is_of.ensures.0 refl) in
    IfOk-weaker c.make_pairs.result _ (TellsMade reading c.args.self.now.play c.make_pairs.new.self.play)
    (λ made moved. tells_made reading c.args.self.now.play c.make_pairs.new.self.play who made moved)
    c.make_pairs.ensures.made
