use Rattle.std.proofs.Common.{◌∙◌, ap, sym, subst}
use Rattle.rbg_rules.specs.Meaning.{IsGame, inside, AbstractGame, beginning}
use Rattle.rbg_search.specs.Closure.{at_vertex}
use Rattle.rbg_search.proofs.Common.{Searching, IsTold}
use Rattle.rbg_search.proofs.DeadEnds.{dead_told}
use Rattle.rbg_search.proofs.search.Search.scan_dead.Goals as goal

pub returns-in-Some : goal.returns-in-Some
returns-in-Some g c =
    let game : AbstractGame = c.game.result.now in
    let s = at_vertex c.args.state.now.state c.args.vertex in
    let f = beginning (inside c.args.position) in
    let dead = c.in-Some.dead in
    let lawful : IsGame game = subst IsGame (sym c.game.ensures.game) c.game.ensures.lawful in
    subst (λ (x : AbstractGame). IsTold x s f dead.ends dead.many) (c.game.ensures.game ∙ ap (λ (h : Searching). h.game) c.self.view_is) (dead_told game lawful.numbered s f dead.many dead.ends c.in-Some.ensures)
