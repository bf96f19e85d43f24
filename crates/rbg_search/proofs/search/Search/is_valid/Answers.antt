use Rattle.std.proofs.Common.{◌≡◌, sym, ap, ◌∙◌, subst, IsTrue, ◌↔◌}
use Rattle.rbg_rules.specs.Meaning.{inside, IsPatternAt, beginning, AbstractGame, Applies, SomeWordRuns, IsGame}
use Rattle.rbg_search.specs.Searching.{Searching}
use Rattle.rbg_search.proofs.Asking.{pattern_position}
use Rattle.rbg_search.proofs.search.Search.is_valid.Goals as goal

pub is_valid-requires-clause-there : goal.is_valid-requires-clause-there
is_valid-requires-clause-there g c =
    let game : c.game.result.now ≡ c.args.self.now.game = c.game.ensures.game ∙ ap (λ (x : Searching). x.game) c.self.view_is in
    subst (λ (x : AbstractGame). IsPatternAt x.rules c.args.position) (sym game) c.requires.there

pub is_valid-requires-clause-position : goal.is_valid-requires-clause-position
is_valid-requires-clause-position g c =
    let game : c.game.result.now ≡ c.args.self.now.game = c.game.ensures.game ∙ ap (λ (x : Searching). x.game) c.self.view_is in
    let there : IsPatternAt c.game.result.now.rules c.args.position = subst (λ (x : AbstractGame). IsPatternAt x.rules c.args.position) (sym game) c.requires.there in
    let lawful : IsGame c.game.result.now = subst IsGame (sym c.game.ensures.game) c.game.ensures.lawful in
    pattern_position c.game.result.now.rules lawful.numbered c.args.position there

pub returns : goal.returns
returns g c = λ s decides.
    let game : c.game.result.now ≡ c.args.self.now.game = c.game.ensures.game ∙ ap (λ (x : Searching). x.game) c.self.view_is in
    subst (λ (x : AbstractGame). IsTrue c.is_valid.result ↔ Applies x c.args.position s s) game
    (c.is_valid.ensures s (subst (λ (x : AbstractGame). IsTrue c.args.runs ↔ SomeWordRuns x s (beginning (inside c.args.position))) (sym game) decides))
