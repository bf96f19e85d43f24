use Rattle.rbg_base.proofs.Common.{◌≡◌, not, arith}
use Rattle.std.proofs.Common.{eqb}
use Rattle.rbg_flat.proofs.Walkings.{passable, passage_of, not_zero}
use Rattle.rbg_flat.proofs.walk.opens_at.Goals as goal

pub returns-in-On : goal.returns-in-On
returns-in-On c =
    let game = c.args.setting.now.game.now in
    let s = c.args.setting.now.state.now.state in
    let t = c.args.target.now in
    let one : c.without.result ≡ 0 = omega (arith, c.if-without-ne0.false) in
    passable game s t c.lowest.result c.without.result c.to_try-opens.result c.shared.result
    c.lowest.ensures.small c.lowest.ensures.set c.without.ensures.others one c.to_try-opens.ensures
    c.shared.ensures.only c.shared.ensures.both c.shared.ensures.all c.shared.type_inv
    (λ v. passage_of game c.requires.set.lawful.numbered s v t.position c.facts.result.now c.facts.ensures.shown.kind c.in-On.is)
    (not (eqb c.shared.result 0)) (not_zero c.shared.result)
