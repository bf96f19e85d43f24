use Rattle.std.proofs.Common.{◌≡◌, ◌≤◌, ap, ◌∙◌, subst}
use Rattle.rbg_rules.specs.Meaning.{AbstractGame}
use Rattle.rbg_flat.proofs.Common.{CountsMet, IsMarked}
use Rattle.rbg_flat.specs.declared.flat.Flat.{Flat}
use Rattle.rbg_search.proofs.Common.{Searching, most_candidates}
use Rattle.rbg_search.proofs.search.Search.lose_sets.Goals as goal

pub returns-clause-taken : goal.returns-clause-taken
returns-clause-taken g c =
    let game : AbstractGame = c.game.result.now in
    let same : game ≡ c.args.self.now.game = c.game.ensures.game ∙ ap (λ (x : Searching). x.game) c.self.view_is in
    record {
      many = c.count_met-many.result;
      has = subst (λ (x : Flat). CountsMet (IsMarked x.sets) c.count_met-many.result) c.deref_mut.ensures.value c.count_met-many.ensures.count;
      sum = c.count_pairs.ensures.taken;
      few = subst (λ (x : AbstractGame). c.count_met-many.result ≤ most_candidates x) same c.count_met-many.ensures.few;
    }
