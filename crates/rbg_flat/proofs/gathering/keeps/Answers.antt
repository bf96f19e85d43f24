use Rattle.rbg_shifts.proofs.ShiftLemmas.{action_within}
use Rattle.rbg_flat.proofs.ModifierLemmas.{sure_keeps}
use Rattle.rbg_flat.proofs.gathering.keeps.Goals as goal

pub is_kept-requires-clause-from_one : goal.is_kept-requires-clause-from_one
is_kept-requires-clause-from_one c =
    let modifier = c.is_modifier.ensures.0 c.if-is_modifier.true in
    (action_within c.args.game.now.rules c.requires.lawful.numbered c.args.position modifier.action modifier.stands).0

pub returns-then-facts : goal.returns-then-facts
returns-then-facts c = (λ _. sure_keeps c.args.game.now c.args.state.now.state c.args.position (c.facts.ensures.shown.sure c.if-facts.true), λ _. c.if-facts.true)
