-- One match after the other is looked at.
use Rattle.std.proofs.Common.{◌≡◌, ℕ, suc, ◌+◌, ◌<◌, ◌∙◌, refl, rules, subst, sym, arith}
use Rattle.rbg_hosting.specs.internal.Recorded.{HandsFirst, places}
use Rattle.rbg_hosting.proofs.HandingLemmas.{hands_first, hands_none}
use Rattle.rbg_hosting.proofs.recorder.Recorder.hand_over.Goals as goal

pub loop-index-init : goal.loop-index-init
loop-index-init g c = record {
  as_many = refl;
  first = λ old stand. hands_none g.A.Archive.handed c.args.self.now old c.args.hall.now.state.tables;
}

pub loop-index-preserved : goal.loop-index-preserved
loop-index-preserved g c =
    let within : c.loop-index.index < places c.args.self.now = search rules in
    let number : suc c.loop-index.index ≡ c.loop-index.index + 1 = omega arith in
    record {
      as_many = c.hand_over_at.ensures.as_many ∙ c.loop-index.invariant.as_many;
      first = λ old stand.
          subst (λ n. HandsFirst g.A.Archive.handed c.args.self.now c.hand_over_at.new.self old c.args.hall.now.state.tables n) number
          (hands_first g.A.Archive.handed c.args.self.now c.loop-index.self c.hand_over_at.new.self old c.args.hall.now.state.tables c.loop-index.index within stand
          c.hand_over_at.ensures (c.loop-index.invariant.first old stand));
    }
