use Rattle.std.proofs.Common.{◌≡◌, true, false, refl, subst}
use Rattle.rbg_state.specs.Trials.{IsTrial}
use Rattle.rbg_flat.specs.Chains.{at_vertex}
use Rattle.rbg_flat.proofs.Finishings.{everywhere}
use Rattle.rbg_flat.proofs.ModifierLemmas.{pattern_opens}
use Rattle.rbg_flat.proofs.gathering.is_kept.Goals as goal

false_not_true : false ≡ true → ⊥
false_not_true e = cc

pub returns-in_default : goal.returns-in_default
returns-in_default c = (λ e. absurd (false_not_true e), λ keeps. absurd (pattern_opens c.args.game.now.rules c.requires.lawful.numbered c.args.position c.in_default.ensures.pattern keeps.modifies))

pub returns-in-Modifies : goal.returns-in-Modifies
returns-in-Modifies c =
    let told = subst (IsTrial c.args.game.now (at_vertex c.args.state.now.state c.vertex.result) c.args.position) c.in-Modifies.is c.in-Some.ensures.told in (
      λ _. record {
        modifies = told.0;
        valid = λ v. everywhere c.args.game.now c.requires.lawful.numbered c.args.state.now.state c.args.position c.vertex.result v told.1.0 told.0 told.1.1;
      },
      λ _. refl,
    )

pub returns-in-Invalid : goal.returns-in-Invalid
returns-in-Invalid c =
    let told = subst (IsTrial c.args.game.now (at_vertex c.args.state.now.state c.vertex.result) c.args.position) c.in-Invalid.is c.in-Some.ensures.told in
    (λ e. absurd (false_not_true e), λ keeps. let there = keeps.valid c.vertex.result in absurd (told there.0 there.1))

pub returns-in-LeadsTo : goal.returns-in-LeadsTo
returns-in-LeadsTo c =
    let told = subst (IsTrial c.args.game.now (at_vertex c.args.state.now.state c.vertex.result) c.args.position) c.in-LeadsTo.is c.in-Some.ensures.told in
    (λ e. absurd (false_not_true e), λ keeps. absurd (told.0 keeps.modifies))
