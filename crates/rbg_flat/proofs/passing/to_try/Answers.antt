use Rattle.rbg_base.proofs.Common.{◌≡◌, ◌+◌, ◌*◌, [], ◌∷◌, subst, bit_at}
use Rattle.rbg_rules.specs.Meaning.{IsPatternAt}
use Rattle.rbg_flat.proofs.Common.{IsKind, Kind}
use Rattle.rbg_flat.proofs.Passings.{one_piece}
use Rattle.rbg_flat.proofs.ToTry.{on_told, pattern_to_try}
use Rattle.rbg_flat.proofs.passing.to_try.Goals as goal

pub returns-then-facts : goal.returns-then-facts
returns-then-facts c = λ b small.
    let game = c.args.setting.now.game.now in
    let s = c.args.setting.now.state.now.state in
    let here = c.args.column * 64 + b in
    let facts = c.facts-facts.result.now in
    on_told game c.requires.set.lawful.numbered s c.args.position (facts.piece ∷ []) (c.facts-facts.ensures.shown.alone c.if-facts.true) here (bit_at c.standing.result b ≡ 1)
    (one_piece facts.piece s.pieces here (bit_at c.standing.result b ≡ 1) (c.standing.ensures b small))

pub returns-in-OnEither : goal.returns-in-OnEither
returns-in-OnEither c = λ b small.
    let game = c.args.setting.now.game.now in
    let facts = c.facts-facts.result.now in
    on_told game c.requires.set.lawful.numbered c.args.setting.now.state.now.state c.args.position (facts.piece ∷ facts.other ∷ []) (c.facts-facts.ensures.shown.two c.in-OnEither.is) (c.args.column * 64 + b) (bit_at c.either_standing.result b ≡ 1) (c.either_standing.ensures b small)

pub returns-in-Pattern : goal.returns-in-Pattern
returns-in-Pattern c = λ b small.
    let game = c.args.setting.now.game.now in
    let pattern : IsPatternAt game.rules c.args.position = subst (λ (k : Kind). IsKind game.rules c.args.position k) c.in-Pattern.is c.facts-facts.ensures.shown.kind in
    (λ _. pattern_to_try game c.requires.set.lawful.numbered c.args.setting.now.state.now.state c.args.position pattern (c.args.column * 64 + b), λ _. c.full_word.ensures b small)
