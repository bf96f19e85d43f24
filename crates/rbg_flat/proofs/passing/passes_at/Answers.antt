use Rattle.std.proofs.Common.{◌≡◌, true, false, refl, subst}
use Rattle.rbg_state.specs.Trials.{IsTrial}
use Rattle.rbg_flat.specs.Chains.{at_vertex}
use Rattle.rbg_flat.proofs.passing.passes_at.Goals as goal

false_not_true : false ≡ true → ⊥
false_not_true e = cc

pub returns-in_default : goal.returns-in_default
returns-in_default c = absurd (c.requires.plain c.in_default.ensures.pattern)

pub returns-in-LeadsTo : goal.returns-in-LeadsTo
returns-in-LeadsTo c =
    let told = subst (IsTrial c.args.game.now (at_vertex c.args.state.now.state c.args.vertex) c.args.position) c.in-LeadsTo.is c.in-Some.ensures.told in
    (λ _. record { to = c.in-LeadsTo.field-0; quiet = told.0; applies = told.1 }, λ _. refl)

pub returns-in-Invalid : goal.returns-in-Invalid
returns-in-Invalid c =
    let told = subst (IsTrial c.args.game.now (at_vertex c.args.state.now.state c.args.vertex) c.args.position) c.in-Invalid.is c.in-Some.ensures.told in
    (λ e. absurd (false_not_true e), λ passes. absurd (told _ passes.applies))

pub returns-in-Modifies : goal.returns-in-Modifies
returns-in-Modifies c =
    let told = subst (IsTrial c.args.game.now (at_vertex c.args.state.now.state c.args.vertex) c.args.position) c.in-Modifies.is c.in-Some.ensures.told in
    (λ e. absurd (false_not_true e), λ passes. absurd (passes.quiet told.0))
