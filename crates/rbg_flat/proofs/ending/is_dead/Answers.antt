use Rattle.std.proofs.Common.{◌≡◌, true, false, sym, ◌∙◌, arith}
use Rattle.std.proofs.lemmas.Bool.{eqb-true}
use Rattle.rbg_flat.proofs.Endings.{dead_target}
use Rattle.rbg_flat.proofs.ending.is_dead.Goals as goal

false_not_true : false ≡ true → ⊥
false_not_true e = cc

pub returns : goal.returns
returns c = λ is.
    let one : c.without-rest.result ≡ 0 = omega (arith, c.if-rest-ne0.false) in
    dead_target c.args.setting.now.game.now c.args.setting.now.state.now.state c.args.target.now c.lowest.result c.without-rest.result c.to_try-opens.result c.shared.result
    c.lowest.ensures.small c.lowest.ensures.set c.without-rest.ensures.others one
    (λ modifier. false_not_true (sym c.if-is_modifier.false ∙ c.is_modifier.ensures.1 modifier))
    c.to_try-opens.ensures c.shared.ensures.all (eqb-true c.shared.result 0 is)
