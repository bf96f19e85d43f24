use Rattle.std.proofs.Common.{◌≡◌, sym, ap, ◌∙◌, subst}
use Rattle.rbg_rules.specs.Meaning.{IsModifierAt, AbstractGame, AbstractState, Applies, IsGame}
use Rattle.rbg_state.specs.History.{History}
use Rattle.rbg_search.specs.Searching.{Searching}
use Rattle.rbg_search.specs.Closure.{at_vertex}
use Rattle.rbg_search.proofs.Asking.{no_modifier}
use Rattle.rbg_search.proofs.search.Search.apply_at.Goals as goal

pub apply-requires-clause-no_pattern : goal.apply-requires-clause-no_pattern
apply-requires-clause-no_pattern g c =
    let game : c.game.result.now ≡ c.args.self.now.game = c.game.ensures.game ∙ ap (λ (x : Searching). x.game) c.self.view_is in
    let modifies : IsModifierAt c.game.result.now.rules c.args.position = subst (λ (x : AbstractGame). IsModifierAt x.rules c.args.position) (sym game) c.requires.modifies in
    let lawful : IsGame c.game.result.now = subst IsGame (sym c.game.ensures.game) c.game.ensures.lawful in
    λ pattern. no_modifier c.game.result.now.rules lawful.numbered c.args.position pattern modifies

pub returns-clause-only : goal.returns-clause-only
returns-clause-only g c = λ t applies.
    let game : c.game.result.now ≡ c.args.self.now.game = c.game.ensures.game ∙ ap (λ (x : Searching). x.game) c.self.view_is in
    let moved : c.stand_at.new.self.state ≡ at_vertex c.args.state.now.state c.args.vertex = ap (λ (h : History). h.state) c.stand_at.ensures.moved in
    c.apply.ensures.only t
    (subst (λ (x : AbstractGame). Applies x c.args.position c.stand_at.new.self.state t) (sym game)
    (subst (λ (s : AbstractState). Applies c.args.self.now.game c.args.position s t) (sym moved) applies))
