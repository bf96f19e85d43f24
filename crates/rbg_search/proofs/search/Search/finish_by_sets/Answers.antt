use Rattle.std.proofs.Common.{◌≡◌, ◌≤◌, sym, ap, ◌∙◌, subst, IsTrue, ◌↔◌}
use Rattle.rbg_rules.specs.Meaning.{IsGame, AbstractGame}
use Rattle.rbg_flat.specs.declared.flat.Flat.{Flat}
use Rattle.rbg_flat.proofs.Common.{MayEnd, AreFound, HasPairs}
use Rattle.rbg_search.specs.Flat.{IsFlatPart}
use Rattle.rbg_flat.specs.Paths.{way_of}
use Rattle.rbg_search.proofs.Common.{Searching, most_candidates, IsBegunBySets, IsWhole}
use Rattle.rbg_search.proofs.BySets.{found_part}
use Rattle.rbg_search.proofs.search.Search.finish_by_sets.Goals as goal

pub returns-in-Ok-clause-part : goal.returns-in-Ok-clause-part
returns-in-Ok-clause-part g c = λ f begun.
    let s = c.args.state.now.state in
    let game : AbstractGame = c.game.result.now in
    let same : game ≡ c.args.self.now.game = c.game.ensures.game ∙ ap (λ (x : Searching). x.game) c.self.view_is in
    let lawful : IsGame game = subst IsGame (sym c.game.ensures.game) c.game.ensures.lawful in
    let here : IsBegunBySets (way_of c.args.paths.now) game s f c.args.flat.value = subst (λ (x : AbstractGame). IsBegunBySets (way_of c.args.paths.now) x s f c.args.flat.value) (sym same) begun in
    let before : IsBegunBySets (way_of c.args.paths.now) game s f c.deref_mut.result.now = subst (λ (x : Flat). IsBegunBySets (way_of c.args.paths.now) game s f x) (sym c.deref_mut.ensures.value) here in
    let asked : IsBegunBySets (way_of c.args.paths.now) game s f c.deref.result.now = subst (λ (x : Flat). IsBegunBySets (way_of c.args.paths.now) game s f x) (sym c.deref.ensures) here in
    let whole : IsWhole c.deref.result.now = subst IsWhole (sym c.deref.ensures) c.requires.whole in
    let found : AreFound game s f c.finish.new.found = c.in-Ok.ensures.found f before.begun in
    let decides : IsTrue c.ends-ends.result ↔ MayEnd game s f = c.ends-ends.ensures (way_of c.args.paths.now) game s f lawful.numbered asked.begun whole.closed in
    subst (λ (x : AbstractGame). IsFlatPart x s f c.finish.new.found c.ends-ends.result) same (found_part game lawful.numbered s f c.finish.new.found c.ends-ends.result found decides)

pub returns-in-Ok-clause-taken : goal.returns-in-Ok-clause-taken
returns-in-Ok-clause-taken g c =
    let s = c.args.state.now.state in
    let game : AbstractGame = c.game.result.now in
    let same : game ≡ c.args.self.now.game = c.game.ensures.game ∙ ap (λ (x : Searching). x.game) c.self.view_is in
    record {
      many = c.in-Ok.many;
      has = λ f begun.
          let here : IsBegunBySets (way_of c.args.paths.now) game s f c.args.flat.value = subst (λ (x : AbstractGame). IsBegunBySets (way_of c.args.paths.now) x s f c.args.flat.value) (sym same) begun in
          let before : IsBegunBySets (way_of c.args.paths.now) game s f c.deref_mut.result.now = subst (λ (x : Flat). IsBegunBySets (way_of c.args.paths.now) game s f x) (sym c.deref_mut.ensures.value) here in
          subst (λ (x : AbstractGame). HasPairs (way_of c.args.paths.now) x s f c.in-Ok.many) same (c.in-Ok.ensures.count f before.begun);
      sum = ap (λ (x : Searching). x.taken) c.self-in-Ok.view_is ∙ c.count_pairs.ensures.taken;
      few = subst (λ (x : AbstractGame). c.in-Ok.many ≤ most_candidates x) same c.in-Ok.ensures.few;
    }

pub returns-in-Err-clause-taken : goal.returns-in-Err-clause-taken
returns-in-Err-clause-taken g c =
    let s = c.args.state.now.state in
    let game : AbstractGame = c.game.result.now in
    let same : game ≡ c.args.self.now.game = c.game.ensures.game ∙ ap (λ (x : Searching). x.game) c.self.view_is in
    record {
      many = c.in-Err.lost.many;
      has = λ f begun.
          let here : IsBegunBySets (way_of c.args.paths.now) game s f c.args.flat.value = subst (λ (x : AbstractGame). IsBegunBySets (way_of c.args.paths.now) x s f c.args.flat.value) (sym same) begun in
          let before : IsBegunBySets (way_of c.args.paths.now) game s f c.deref_mut.result.now = subst (λ (x : Flat). IsBegunBySets (way_of c.args.paths.now) game s f x) (sym c.deref_mut.ensures.value) here in
          subst (λ (x : AbstractGame). HasPairs (way_of c.args.paths.now) x s f c.in-Err.lost.many) same (c.in-Err.ensures.count_lost f before.begun);
      sum = c.count_pairs-in-Err.ensures.taken;
      few = subst (λ (x : AbstractGame). c.in-Err.lost.many ≤ most_candidates x) same c.in-Err.ensures.few_lost;
    }
