use Rattle.std.proofs.Common.{◌≡◌, ap, sym, ◌∙◌, subst}
use Rattle.rbg_rules.specs.Meaning.{IsGame, AbstractGame}
use Rattle.rbg_flat.specs.declared.flat.Flat.{Flat}
use Rattle.rbg_flat.specs.Paths.{way_of}
use Rattle.rbg_search.proofs.Common.{Searching, BeginsBySets}
use Rattle.rbg_search.specs.Start.{start_of}
use Rattle.rbg_search.proofs.BySets.{asked_none}
use Rattle.rbg_search.proofs.search.Search.begun_by_sets.Goals as goal

pub returns-clause-begins : goal.returns-clause-begins
returns-clause-begins g c =
    let game : AbstractGame = c.game.result.now in
    let s = c.args.state.now.state in
    let flat : Flat = c.begin.new.self in
    let same : game ≡ c.args.self.now.game = c.game.ensures.game ∙ ap (λ (x : Searching). x.game) (c.self.view_is ∙ c.unused_sets.ensures.kept) in
    let lawful : IsGame game = subst IsGame (sym c.game.ensures.game) c.game.ensures.lawful in
    let there : BeginsBySets (way_of c.args.paths.now) game s (start_of c.args.origin) flat = record {
      lawful = lawful;
      sets = record { sized = c.begin.ensures.sized; on = c.begin.ensures.on };
      begun = record { begun = c.begin.ensures.begun };
      asked = asked_none game flat c.begin.ensures.fresh;
    } in
    subst (λ (x : AbstractGame). BeginsBySets (way_of c.args.paths.now) x s (start_of c.args.origin) flat) same there
