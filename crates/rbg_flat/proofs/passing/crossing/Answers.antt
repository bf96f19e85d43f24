use Rattle.std.proofs.Common.{◌≡◌, ℕ, ◌+◌, ◌*◌, sym, ◌∙◌, true, false}
use Rattle.rbg_flat.specs.Chains.{Holds}
use Rattle.rbg_flat.proofs.Passings.{stays, falls, still_left}
use Rattle.rbg_flat.proofs.passing.crossing.Goals as goal

false_not_true : false ≡ true → ⊥
false_not_true e = cc

pub loop-rest-preserved-then-not-crosses : goal.loop-rest-preserved-then-not-crosses
loop-rest-preserved-then-not-crosses c =
    let Good : ℕ → Type 0 = λ b. Holds c.args.game.now c.args.state.now.state (c.args.word.column * 64 + b) c.args.word.position in
    let is = c.loop-rest.invariant in
    let out = c.without-rest.ensures in
    record {
      rest_in = λ b there. is.rest_in b (out.only b there);
      passed_in = λ b there. is.passed_in b (c.without-passed.ensures.only b there);
      still = still_left Good c.args.word.bits c.loop-rest.passed c.loop-rest.rest c.lowest-bit.result c.without-rest.result c.lowest-bit.ensures.set is.still is.told out.gone out.only out.others c.without-passed.result c.without-passed.ensures.others;
      told =
          falls Good c.args.word.bits c.loop-rest.passed c.loop-rest.rest c.lowest-bit.result c.without-rest.result c.lowest-bit.ensures.set is.still is.told out.gone out.only out.others
          (λ good. false_not_true (sym c.if-not-crosses.true ∙ c.crosses.ensures.1 good)) c.without-passed.result c.without-passed.ensures.gone c.without-passed.ensures.others;
    }

pub loop-rest-preserved : goal.loop-rest-preserved
loop-rest-preserved c =
    let Good : ℕ → Type 0 = λ b. Holds c.args.game.now c.args.state.now.state (c.args.word.column * 64 + b) c.args.word.position in
    let is = c.loop-rest.invariant in
    let out = c.without-rest.ensures in
    record {
      rest_in = λ b there. is.rest_in b (out.only b there);
      passed_in = is.passed_in;
      still = λ b there. is.still b (out.only b there);
      told =
          stays Good c.args.word.bits c.loop-rest.passed c.loop-rest.rest c.lowest-bit.result c.without-rest.result c.lowest-bit.ensures.set is.still is.told out.gone out.only out.others
          (c.crosses.ensures.0 c.if-not-crosses.false);
    }
