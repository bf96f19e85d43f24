use Rattle.rbg_base.proofs.Common.{◌≡◌, ℕ, List, [], ◌∷◌, get_or, sym, ◌∙◌, subst, arith}
use Rattle.rbg_auto.specs.Steps.{AreNext}
use Rattle.rbg_flat.proofs.Onwards.{false_not_true, one_item, onward_alone}
use Rattle.rbg_flat.proofs.Stills.{next_within}
use Rattle.rbg_flat.proofs.onward.onward_from.Goals as goal

pub onward_to-requires-clause-position : goal.onward_to-requires-clause-position
onward_to-requires-clause-position c =
    let some = c.in-len1.len_at_least in
    next_within c.args.game.now c.requires.lawful.numbered c.args.position c.args.next.now c.requires.next 0 0 (omega (arith, some))

pub returns-in-len1 : goal.returns-in-len1
returns-in-len1 c =
    let rules = c.args.game.now.rules in
    let next : List ℕ = c.args.next.now in
    let one : next ≡ get_or next 0 0 ∷ [] = one_item next 0 c.in-len1.len_at_least c.in-len1.len_below in
    onward_alone rules c.args.position (get_or next 0 0) (subst (λ (xs : List ℕ). AreNext rules c.args.position xs) one c.requires.next)
    (λ ends. false_not_true (sym c.if-ends.false ∙ c.requires.ends.1 ends)) c.onward_to.result c.onward_to.ensures
