use Rattle.std.proofs.Common.{◌≡◌, ℕ, ◌<◌, ap, subst}
use Rattle.rbg_search.proofs.Takings.{not_ok}
use Rattle.rbg_rules.specs.Meaning.{AbstractGame}
use Rattle.rbg_search.specs.Searching.{Searching}
use Rattle.rbg_search.proofs.Along.{start_of, NestsFrom}
use Rattle.rbg_search.proofs.Asks.{answered, handed_on, answered_on}
use Rattle.rbg_search.proofs.search.Search.reach_flat.Goals as goal

pub own_flat_part-requires-clause-nested : goal.own_flat_part-requires-clause-nested
own_flat_part-requires-clause-nested g c =
    let game : c.self.inside.rules ≡ c.args.self.now.game = ap (λ (x : Searching). x.game) c.self.view_is in
    subst (λ (x : AbstractGame). NestsFrom x.rules c.nesting-nested.result (start_of c.args.origin)) game (c.nesting-nested.ensures.nests (start_of c.args.origin))

pub returns-in_err-ends-clause-answered : goal.returns-in_err-ends-clause-answered
returns-in_err-ends-clause-answered g c =
    let some : 0 < c.args.self.now.modifiers = subst (λ (m : ℕ). 0 < m) (ap (λ (x : Searching). x.modifiers) c.self.view_is) c.self.invariant.3 in
    answered some (handed_on c.own_flat_part.ensures.asked c.from_residual.result c.in_err-ends.field-0.0 c.in_err-ends.was c.from_residual.ensures.1)
    (λ ok. absurd (not_ok c.from_residual.result c.in_err-ends.field-0.0 c.from_residual.ensures.1 ok))

pub returns-clause-answered : goal.returns-clause-answered
returns-clause-answered g c =
    let some : 0 < c.args.self.now.modifiers = subst (λ (m : ℕ). 0 < m) (ap (λ (x : Searching). x.modifiers) c.self.view_is) c.self.invariant.3 in
    answered some (answered_on c.own_flat_part.ensures.asked c.in_ok-ends.ends c.in_ok-ends.ends c.in_ok-ends.was) (λ _ cut. c.in_ok-ends.ensures.found.reaches.forced cut c.args.self.now.modifiers)

pub returns-clause-found : goal.returns-clause-found
returns-clause-found g c = c.in_ok-ends.ensures.found.reaches
