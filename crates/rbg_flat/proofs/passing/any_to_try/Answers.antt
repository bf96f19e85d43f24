use Rattle.std.proofs.Common.{◌≡◌, ℕ, ◌+◌, ◌*◌, ◌⊎◌, inl, inr, subst}
use Rattle.rbg_rules.specs.Meaning.{IsNumbered, AbstractGame, AbstractState}
use Rattle.rbg_flat.proofs.Common.{IsKind, Kind, Pattern, Plain, IsToTry}
use Rattle.rbg_flat.proofs.ToTry.{pattern_to_try, other_to_try}
use Rattle.rbg_flat.proofs.passing.any_to_try.Goals as goal

everywhere : (game : AbstractGame) → IsNumbered game.rules → (s : AbstractState) (p : ℕ) (kind : Kind) → (kind ≡ Pattern) ⊎ (kind ≡ Plain) → IsKind game.rules p kind → (v : ℕ) → IsToTry game s v p
everywhere game numbered s p kind (inl is) told = pattern_to_try game numbered s p (subst (λ (k : Kind). IsKind game.rules p k) is told)
everywhere game numbered s p kind (inr is) told =
    let plain = subst (λ (k : Kind). IsKind game.rules p k) is told in
    other_to_try game numbered s p plain.0 plain.2 plain.3

pub returns-in-Pattern : goal.returns-in-Pattern
returns-in-Pattern c = λ b small.
    (λ _. everywhere c.args.game.now c.requires.lawful.numbered c.args.state.now.state c.args.position c.facts.result.now.kind c.in-Pattern.is c.facts.ensures.shown.kind (c.args.column * 64 + b), λ _. c.full_word.ensures b small)

pub returns-in-Comparison : goal.returns-in-Comparison
returns-in-Comparison c = λ b small. c.comparison_to_try.ensures (c.args.column * 64 + b) b small
