use Rattle.std.proofs.Common.{◌≡◌, ◌<◌, ◌∙◌, ℕ, ◌+◌, List, length, sym, subst, arith}
use Rattle.rbg_shifts.proofs.Common.{Target, IsEndOf, no_target, target_at, HasEnd}
use Rattle.rbg_shifts.proofs.Places.{any_default, before, last, last_place}
use Rattle.rbg_shifts.proofs.closing.has_targets.Goals as goal

pub returns-then-have_same_targets : goal.returns-then-have_same_targets
returns-then-have_same_targets c = λ t j u told.
    let ts : List Target = c.args.table.now.targets.items in
    let same = c.have_same_targets.ensures in
    subst (λ (a : ℕ). HasEnd ts a (a + c.args.entry.many) j u) (sym (same.start c.if-have_same_targets.true))
    (subst (λ (b : ℕ). HasEnd ts c.args.other.start (c.args.other.start + b) j u) (sym (same.many c.if-have_same_targets.true)) told)

pub loop-index-preserved : goal.loop-index-preserved
loop-index-preserved c =
    let ts : List Target = c.args.table.now.targets.items in
    let k : ℕ = c.loop-index.index in
    let there : k < length ts = let within = c.requires.other.ends in omega (arith, within, c.loop-index-test.true) in
    let at : c.index.result.now ≡ target_at ts k = c.index.ensures ∙ any_default ts k c.index.result.now no_target there in
    λ i beyond below j u is. elim (last_place k i below) [
      | before e ↦ c.loop-index.invariant i beyond e j u is
      | last e ↦ c.tells.ensures c.if-not-tells.false j u (subst (λ (t : Target). IsEndOf t j u) (sym at) (subst (λ (m : ℕ). IsEndOf (target_at ts m) j u) e is))
    ]

pub returns : goal.returns
returns c = λ t j u told. c.loop-index.invariant told.at told.beyond (let short = told.before in omega (arith, short, c.loop-index-test.false)) j u told.is
