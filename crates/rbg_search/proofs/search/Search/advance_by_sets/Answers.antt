use Rattle.std.proofs.Common.{◌≡◌, ap, ◌∙◌, subst}
use Rattle.rbg_rules.specs.Meaning.{AbstractGame}
use Rattle.rbg_flat.specs.declared.flat.Flat.{Flat}
use Rattle.rbg_flat.specs.Paths.{way_of}
use Rattle.rbg_search.proofs.Common.{Searching, AdvancesBySets}
use Rattle.rbg_search.proofs.BySets.{asked_still}
use Rattle.rbg_search.proofs.search.Search.advance_by_sets.Goals as goal

pub returns-clause-advances : goal.returns-clause-advances
returns-clause-advances g c =
    let s = c.args.state.now.state in
    let new : Flat = c.advance.new.self in
    let same : c.game.result.now ≡ c.args.self.now.game = c.game.ensures.game ∙ ap (λ (x : Searching). x.game) c.self.view_is in
    let there : AdvancesBySets (way_of c.args.paths.now) c.game.result.now s c.deref_mut.result.now new = record {
      sets = record { sized = c.advance.ensures.sized; on = c.advance.ensures.on };
      begun = λ f begun. record { begun = c.advance.ensures.begun f begun.begun };
      asked = asked_still c.game.result.now c.deref_mut.result.now new c.advance.ensures.still_done c.advance.ensures.quiet;
      lighter = c.advance.ensures.lighter;
    } in
    subst (λ (x : AbstractGame). AdvancesBySets (way_of c.args.paths.now) x s c.args.flat.now.value new) same
    (subst (λ (x : Flat). AdvancesBySets (way_of c.args.paths.now) c.game.result.now s x new) c.deref_mut.ensures.value there)
