use Rattle.rbg_base.proofs.Common.{ap, ◌∙◌, ℕ, length, arith, length_push}
use Rattle.rbg_rules.specs.Meaning.{beginning, inside}
use Rattle.rbg_flat.proofs.Common.{AreFollowers, Followers}
use Rattle.rbg_flat.proofs.Stills.{told_more}
use Rattle.rbg_flat.proofs.followers.all_inside.Goals as goal

pub loop-index-preserved : goal.loop-index-preserved
loop-index-preserved g c = record {
  size =
      let long = ap length c.in_ok-push.ensures.items ∙ length_push c.loop-index.made.items c.in_ok-followers_at.field-0 in
      let size = c.loop-index.invariant.size in
      omega (arith, long, size);
  told =
      told_more (λ (p : ℕ) (told : Followers). AreFollowers c.args.game.now (beginning (inside p)) told) c.loop-index.made.items c.push.new.self.items c.in_ok-followers_at.field-0 c.loop-index.index c.in_ok-push.ensures.items c.loop-index.invariant.size c.loop-index.invariant.told c.in_ok-followers_at.ensures;
}
