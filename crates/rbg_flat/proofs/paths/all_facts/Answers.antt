use Rattle.rbg_base.proofs.Common.{ap, ◌∙◌, length, arith, length_push, subst, sym}
use Rattle.rbg_flat.proofs.Common.{Way, AreFacts, way_by}
use Rattle.rbg_flat.proofs.Stills.{told_more}
use Rattle.rbg_flat.proofs.paths.all_facts.Goals as goal

pub facts_at-requires-clause-next : goal.facts_at-requires-clause-next
facts_at-requires-clause-next g c = c.next.ensures c.args.game.now.rules c.requires

pub loop-index-preserved : goal.loop-index-preserved
loop-index-preserved g c = record {
  size =
      let long = ap length c.in_ok-push.ensures.items ∙ length_push c.loop-index.facts.items c.facts_at.result in
      let size = c.loop-index.invariant.size in
      omega (arith, long, size);
  told =
      told_more (AreFacts (way_by c.args.leaps.now) c.args.game.now) c.loop-index.facts.items c.push.new.self.items c.facts_at.result c.loop-index.index c.in_ok-push.ensures.items c.loop-index.invariant.size c.loop-index.invariant.told
      (subst (λ (way : Way). AreFacts way c.args.game.now c.loop-index.index c.facts_at.result) (sym c.has_leaps-leaping.ensures) (record { still = c.facts_at.ensures.still; shown = c.facts_at.ensures.shown }));
}
