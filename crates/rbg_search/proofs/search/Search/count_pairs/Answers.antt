use Rattle.std.proofs.Common.{rules, ◌≡◌, ◌^◌, ◌+◌, ◌<◌, ◌≤◌, sym, ap, subst}
use Rattle.rbg_rules.specs.Meaning.{AbstractGame}
use Rattle.rbg_search.proofs.Common.{Searching, most_candidates, IsSpentButOne}
use Rattle.rbg_search.proofs.Fewness.{sum_fits}
use Rattle.rbg_search.proofs.search.Search.count_pairs.Goals as goal

pub overflow_add-self : goal.overflow_add-self
overflow_add-self g c =
    let game : c.self.inside.rules ≡ c.args.self.now.game = ap (λ (x : Searching). x.game) c.self.view_is in
    let small : c.self.inside.opened < 2 ^ 32 = search rules in
    let few : c.args.pairs ≤ most_candidates c.self.inside.rules = subst (λ (x : AbstractGame). c.args.pairs ≤ most_candidates x) (sym game) c.requires.few in
    let one : IsSpentButOne c.self.inside.rules c.self.inside.opened c.self.inside.taken = subst (λ (x : Searching). IsSpentButOne x.game x.opened x.taken) (sym c.self.view_is) c.requires.one in
    let sum : c.self.inside.taken + c.args.pairs < 2 ^ 64 = sum_fits c.self.inside.rules c.self.inside.opened c.self.inside.taken c.args.pairs c.game-game.ensures.lawful.limits one small few in
    search rules
