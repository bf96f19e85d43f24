use Rattle.std.proofs.Common.{◌≡◌, ℕ, ◌+◌, ◌*◌, ◌⊎◌, inl, inr, subst}
use Rattle.rbg_flat.proofs.Common.{IsKind, Kind, On, OnEither, Comparison, Holds, IsToTry}
use Rattle.rbg_rules.specs.Meaning.{IsNumbered, AbstractGame, AbstractState}
use Rattle.rbg_flat.proofs.ToTry.{tried_passes, comparison_to_try}
use Rattle.rbg_flat.proofs.passing.held.Goals as goal

-- What is to be looked at passes, where its kind tells at which vertices.
passes : (game : AbstractGame) → IsNumbered game.rules → (s : AbstractState) (p : ℕ) (kind : Kind) → (kind ≡ On) ⊎ ((kind ≡ OnEither) ⊎ (kind ≡ Comparison)) → IsKind game.rules p kind → (v : ℕ) → IsToTry game s v p → Holds game s v p
passes game numbered s p kind (inl is) told v =
    let stands = subst (λ (k : Kind). IsKind game.rules p k) is told in
    tried_passes game numbered s p stands.0 stands.1 v
passes game numbered s p kind (inr (inl is)) told v =
    let stands = subst (λ (k : Kind). IsKind game.rules p k) is told in
    tried_passes game numbered s p stands.0 stands.1 v
passes game numbered s p kind (inr (inr is)) told v = (comparison_to_try game numbered s p (subst (λ (k : Kind). IsKind game.rules p k) is told) v).1

pub returns-in-On-clause-told : goal.returns-in-On-clause-told
returns-in-On-clause-told c = λ b small set is.
    (λ _. passes c.args.setting.now.game.now c.requires.set.lawful.numbered c.args.setting.now.state.now.state c.args.position c.facts.result.now.kind c.in-On.is c.facts.ensures.shown.kind (c.args.column * 64 + b) is, λ _. set)
