use Rattle.std.proofs.Common.{◌≡◌, ℕ, ◌<◌, ◌≤◌, subst, arith}
use Rattle.rbg_shifts.specs.Limits.{row_words}
use Rattle.rbg_flat.proofs.Common.{IsToTryIn, IsInWord, Meets}
use Rattle.rbg_flat.proofs.leading.meet_target.Goals as goal

pub returns-then-narrow : goal.returns-then-narrow
returns-then-narrow c =
    let game = c.args.setting.now.game.now in
    let target = c.args.target.now in
    let enough : row_words game ≤ 1 = subst (λ (k : ℕ). row_words game ≤ k) (c.requires.one c.if-narrow.true) c.requires.ready.sized.columns in
    let there : target.column < row_words game = c.requires.target.column in
    let first : 0 ≡ target.column = omega (arith, enough, there) in
    subst (λ (k : ℕ). Meets c.args.sets.now c.meet_at.new.sets (IsInWord target.position k target.word) (IsToTryIn c.args.setting.now)) first c.meet_at.ensures
