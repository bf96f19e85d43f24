use Rattle.rbg_base.proofs.Common.{◌≡◌, ℕ, ◌/◌, refl, sym, subst, inl, inr, arith, bit_at}
use Rattle.rbg_rules.specs.Meaning.{IsPatternAt, IsStateOf}
use Rattle.rbg_flat.specs.Paths.{ArePathsOf}
use Rattle.rbg_search.proofs.Kept.{kept_twice, onward_rules}
use Rattle.rbg_search.proofs.DeadWords.{no_bit, asks_none, asks_more, asks_same, same_search}
use Rattle.rbg_search.proofs.search.Search.ask_dead.Goals as goal

zero_not_one : {n : ℕ} → n ≡ 0 → n ≡ 1 → ⊥
zero_not_one none one = omega (arith, none, one)

pub loop-rest-init : goal.loop-rest-init
loop-rest-init g c = record {
  kept = refl;
  rest_in = λ b set. set;
  asked_in = λ b set. absurd (no_bit b set);
  apart = λ b set was. no_bit b was;
  held_in = λ b set. set;
  asks = asks_none c.args.self.now c.args.state.now c.args.position (c.args.vertex / 64);
}

pub answer_dead-requires-clause-paths : goal.answer_dead-requires-clause-paths
answer_dead-requires-clause-paths g c = onward_rules (λ x. ArePathsOf x c.args.paths.now) c.args.self.now c.loop-rest.self c.loop-rest.invariant.kept c.requires.paths

pub answer_dead-requires-clause-fits : goal.answer_dead-requires-clause-fits
answer_dead-requires-clause-fits g c = onward_rules (λ x. IsStateOf x c.args.state.now.state) c.args.self.now c.loop-rest.self c.loop-rest.invariant.kept c.requires.fits

pub answer_dead-requires-clause-vertex : goal.answer_dead-requires-clause-vertex
answer_dead-requires-clause-vertex g c =
    let on = c.requires.board c.lowest-bit.result (c.loop-rest.invariant.rest_in c.lowest-bit.result c.lowest-bit.ensures.set) in
    let size = c.requires.fits.vertices in
    omega (arith, on, size)

pub answer_dead-requires-clause-there : goal.answer_dead-requires-clause-there
answer_dead-requires-clause-there g c = onward_rules (λ x. IsPatternAt x.rules c.args.position) c.args.self.now c.loop-rest.self c.loop-rest.invariant.kept c.requires.there

pub loop-rest-preserved : goal.loop-rest-preserved
loop-rest-preserved g c =
    let is = c.loop-rest.invariant in
    let bit : ℕ = c.lowest-bit.result in
    let out = c.without-rest.ensures in
    let more = c.with-asked.ensures in
    let holds = c.with_if-held.ensures in
    record {
      kept = kept_twice c.args.self.now c.loop-rest.self c.answer_dead.new.self is.kept c.answer_dead.ensures.kept;
      rest_in = λ b set. is.rest_in b (out.only b set);
      asked_in = λ b set. elim (more.only b set) [
        | inl was ↦ is.asked_in b was
        | inr same ↦ subst (λ (k : ℕ). bit_at c.args.word k ≡ 1) (sym same) (is.rest_in bit c.lowest-bit.ensures.set)
      ];
      apart = λ b set was. elim (more.only b was) [
        | inl before ↦ is.apart b (out.only b set) before
        | inr same ↦ zero_not_one out.gone (subst (λ (k : ℕ). bit_at c.without-rest.result k ≡ 1) same set)
      ];
      held_in = λ b set. elim (holds.only b set) [
        | inl was ↦ more.kept b (is.held_in b was)
        | inr this ↦ subst (λ (k : ℕ). bit_at c.with-asked.result k ≡ 1) (sym this.0) more.set
      ];
      asks =
          asks_more c.args.self.now c.loop-rest.self c.answer_dead.new.self c.args.state.now c.args.position (c.args.vertex / 64) c.loop-rest.asked c.loop-rest.held bit c.with-asked.result c.with_if-held.result c.in-Some.valid
          is.asks is.kept c.lowest-bit.ensures.small (is.apart bit c.lowest-bit.ensures.set) is.held_in more.set more.kept more.only holds.set holds.kept holds.only
          c.in-Some.ensures.asked c.in-Some.ensures.valid c.in-Some.ensures.forced;
    }

pub loop-rest-smaller : goal.loop-rest-smaller
loop-rest-smaller g c = c.without-rest.ensures.less c.lowest-bit.ensures.set

pub returns-in_default-clause-kept : goal.returns-in_default-clause-kept
returns-in_default-clause-kept g c = kept_twice c.args.self.now c.loop-rest.self c.answer_dead.new.self c.loop-rest.invariant.kept c.answer_dead.ensures.kept

pub returns-in_default-clause-asks : goal.returns-in_default-clause-asks
returns-in_default-clause-asks g c =
    asks_same c.args.self.now c.loop-rest.self c.answer_dead.new.self c.args.state.now c.args.position (c.args.vertex / 64) c.loop-rest.asked c.loop-rest.held
    (same_search c.loop-rest.self c.answer_dead.new.self c.answer_dead.ensures.kept c.in_default.ensures.none.0 c.in_default.ensures.none.1) c.loop-rest.invariant.asks
