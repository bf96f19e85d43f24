use Rattle.rbg_base.proofs.Common.{[], ◌∷◌, refl, subst, IfSome, IfSome_then}
use Rattle.rbg_rules.specs.Meaning.{shift, on, HasAction, AbstractGame}
use Rattle.rbg_state.specs.Trials.{IsTrial}
use Rattle.rbg_search.proofs.Along.{at_vertex, IsTrialAt}
use Rattle.rbg_search.proofs.Glances.{no_pattern, always_modifies, modifies_plain}
use Rattle.rbg_search.proofs.Modifiers.{trial_at}
use Rattle.rbg_search.proofs.trials.tried.Goals as goal

pub returns-in-Shift-clause-trial : goal.returns-in-Shift-clause-trial
returns-in-Shift-clause-trial g c =
    let here : HasAction c.game.result.now.rules c.args.position (shift c.in-Shift.direction) = rw c.game.ensures.game c.in-Shift.ensures in
    let trial : IsTrialAt c.game.result.now c.args.state.now.state c.args.vertex c.args.position c.shifted.result =
    c.shifted.ensures.trial c.args.state.now.state c.args.position (rw c.game.ensures.game c.requires.lawful.numbered) here in
    subst (λ (x : AbstractGame). IsTrialAt x c.args.state.now.state c.args.vertex c.args.position c.shifted.result) c.game.ensures.game trial

pub returns-in-Shift-clause-plain : goal.returns-in-Shift-clause-plain
returns-in-Shift-clause-plain g c = no_pattern c.args.rules.now.rules c.requires.lawful.numbered c.args.position (shift c.in-Shift.direction) c.in-Shift.ensures refl

pub returns-in-On-clause-plain : goal.returns-in-On-clause-plain
returns-in-On-clause-plain g c = no_pattern c.args.rules.now.rules c.requires.lawful.numbered c.args.position (on (c.in-On.piece ∷ [])) c.in-On.ensures refl

pub returns-in-Modifies-clause-trial : goal.returns-in-Modifies-clause-trial
returns-in-Modifies-clause-trial g c = always_modifies c.args.rules.now c.requires.lawful.numbered c.args.state.now.state c.args.vertex c.args.position c.in-Modifies.ensures

pub returns-in-Modifies-clause-plain : goal.returns-in-Modifies-clause-plain
returns-in-Modifies-clause-plain g c = modifies_plain c.args.rules.now.rules c.requires.lawful.numbered c.args.position c.in-Modifies.ensures

pub returns-in-Unknown-clause-trial : goal.returns-in-Unknown-clause-trial
returns-in-Unknown-clause-trial g c =
    let s = c.args.state.now.state in
    let told : IfSome c.try_at.result (IsTrial c.args.rules.now (at_vertex s c.args.vertex) c.args.position) =
    subst (λ (x : AbstractGame). IfSome c.try_at.result (IsTrial x (at_vertex s c.args.vertex) c.args.position)) c.game-in-Unknown.ensures.game c.try_at.ensures.told in
    IfSome_then c.try_at.result told (trial_at c.args.rules.now c.requires.lawful.numbered s c.args.vertex c.args.position)

pub returns-in-Unknown-clause-there : goal.returns-in-Unknown-clause-there
returns-in-Unknown-clause-there g c = rw (← c.requires.fits.vertices) c.try_at.ensures.there

pub returns-in-OnEither-clause-plain : goal.returns-in-OnEither-clause-plain
returns-in-OnEither-clause-plain g c = no_pattern c.args.rules.now.rules c.requires.lawful.numbered c.args.position (on (c.in-OnEither.piece ∷ c.in-OnEither.other ∷ [])) c.in-OnEither.ensures refl
