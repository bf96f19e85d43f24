use Rattle.std.proofs.Common.{true, false, refl, sym, ◌≡◌}
use Rattle.rbg_flat.proofs.Crossings.{edge_holds, holds_edge}
use Rattle.rbg_flat.proofs.passing.crosses.Goals as goal

false_not_true : false ≡ true → ⊥
false_not_true e = cc

pub returns-in-Some : goal.returns-in-Some
returns-in-Some c = (
  (λ _. edge_holds c.args.game.now c.requires.lawful.numbered c.args._state.now.state c.args._position c.args.direction c.requires.shift c.args.vertex _ (sym c.in-Some.ensures.is)),
  (λ _. refl),
)

pub returns-in-None : goal.returns-in-None
returns-in-None c = (
  (λ e. absurd (false_not_true e)),
  (λ holds. absurd (holds_edge c.args.game.now c.requires.lawful.numbered c.args._state.now.state c.args._position c.args.direction c.requires.shift c.args.vertex (sym c.in-None.ensures.is) holds)),
)
