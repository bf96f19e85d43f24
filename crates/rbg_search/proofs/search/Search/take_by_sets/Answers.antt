use Rattle.std.proofs.Common.{◌≡◌, ap, sym, ◌∙◌, subst}
use Rattle.rbg_rules.specs.Meaning.{IsGame, AbstractGame}
use Rattle.rbg_flat.specs.declared.flat.Flat.{Flat}
use Rattle.rbg_flat.specs.Paths.{way_of}
use Rattle.rbg_search.proofs.Common.{Searching, HasSetsFor, IsToBeAsked, TakesBySets}
use Rattle.rbg_search.proofs.BySets.{asked_one, pattern_holds}
use Rattle.rbg_search.proofs.search.Search.take_by_sets.Goals as goal

pub returns : goal.returns
returns g c =
    let s = c.args.state.now.state in
    let v = c.args.vertex in
    let p = c.args.position in
    let game : AbstractGame = c.game.result.now in
    let old : Flat = c.deref_mut.result.now in
    let new : Flat = c.take.new.self in
    let same : game ≡ c.args.self.now.game = c.game.ensures.game ∙ ap (λ (x : Searching). x.game) c.self.view_is in
    let lawful : IsGame game = subst IsGame (sym c.game.ensures.game) c.game.ensures.lawful in
    let opened : old ≡ c.args.flat.now.value = c.deref_mut.ensures.value in
    let next : IsToBeAsked game old v p = subst (λ (x : AbstractGame). IsToBeAsked x old v p) (sym same) (subst (λ (x : Flat). IsToBeAsked c.args.self.now.game x v p) (sym opened) c.requires.next) in
    let sets : HasSetsFor game old = subst (λ (x : AbstractGame). HasSetsFor x old) (sym same) (subst (λ (x : Flat). HasSetsFor c.args.self.now.game x) (sym opened) c.requires.sets) in
    let there : TakesBySets (way_of c.args.paths.now) game s old new v p c.args.valid = record {
      sets = record { sized = c.take.ensures.sized; on = c.take.ensures.on sets.on };
      begun = λ f decides begun. record { begun = c.take.ensures.begun f (pattern_holds game lawful.numbered s v p c.args.valid next.pattern decides) begun.begun };
      asked = asked_one game old new v p c.take.ensures.still_done c.take.ensures.done c.take.ensures.quiet;
      lighter = c.take.ensures.less next.is_open;
    } in
    record {
      takes =
          subst (λ (x : AbstractGame). TakesBySets (way_of c.args.paths.now) x s c.args.flat.now.value new v p c.args.valid) same
          (subst (λ (x : Flat). TakesBySets (way_of c.args.paths.now) game s x new v p c.args.valid) opened there);
    }
