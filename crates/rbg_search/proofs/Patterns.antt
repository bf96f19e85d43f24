-- Where one stands in a pattern: one stays in it, and no switch comes.
use Rattle.std.proofs.Common.{◌≡◌, ℕ, List, [], ◌∷◌, ◌++◌, refl, sym, ◌∙◌, subst}
use Rattle.rbg_rules.specs.Meaning.{AbstractAction, switch, Expression, HasAction, IsNumbered, IsSwitchAt, IsPatternAt, Level, inside, IsLevel, Start, beginning, after, Follows, AbstractGame, IsGame, IsStart}
use Rattle.rbg_rules.proofs.PositionLemmas.{one_action_at}
use Rattle.rbg_rules.proofs.PatternLemmas.{own_is_action}
use Rattle.rbg_rules.proofs.LevelLemmas.{one_level_law}
use Rattle.rbg_search.specs.internal.Asked.{StandsInPattern}
use Rattle.rbg_shifts.proofs.ShiftLemmas.{level_stands}
use Rattle.rbg_search.proofs.Nesting.{goes_on}

-- One stands in a pattern at its beginning.
pub pattern_inside : (rules : Expression) (p : ℕ) → IsPatternAt rules p → StandsInPattern rules (beginning (inside p))
pattern_inside rules p is = record { pattern = p; expression = is.inside_it; is_level = is.stands; stands = refl }

-- .. and so somewhere in the rules.
pub inside_start : (rules : Expression) (f : Start) → StandsInPattern rules f → IsStart rules f
inside_start rules (beginning level) in_one = (in_one.expression, subst (λ (l : Level). IsLevel rules l in_one.expression) in_one.stands in_one.is_level)
inside_start rules (after i) in_one =
    let (a, own) = in_one.stands in
    (a, level_stands rules (inside in_one.pattern) in_one.expression in_one.is_level i a (own_is_action in_one.expression i a own))

-- What comes next stands in the same pattern.
pub inside_onward : (rules : Expression) → IsNumbered rules → (f : Start) → StandsInPattern rules f → (m : List ℕ) (p : ℕ) → Follows rules f (m ++ p ∷ []) → StandsInPattern rules (after p)
inside_onward rules numbered (beginning level) in_one m p follows =
    let on = goes_on rules (beginning level) m p follows in
    record { pattern = in_one.pattern; expression = on.expression; is_level = subst (λ (l : Level). IsLevel rules l on.expression) (on.stands ∙ sym in_one.stands) on.is_level; stands = (on.action, on.own) }
inside_onward rules numbered (after i) in_one m p follows =
    let on = goes_on rules (after i) m p follows in
    let (a, own) = on.stands in
    let (b, own') = in_one.stands in
    let same = one_level_law rules numbered on.level (inside in_one.pattern) on.expression in_one.expression on.is_level in_one.is_level i a b own own' in
    record { pattern = in_one.pattern; expression = on.expression; is_level = subst (λ (l : Level). IsLevel rules l on.expression) same.0 on.is_level; stands = (on.action, on.own) }

-- No switch stands there.
pub inside_plain : (game : AbstractGame) → IsGame game → (p : ℕ) → StandsInPattern game.rules (after p) → ¬ IsSwitchAt game.rules p
inside_plain game lawful p in_one switches =
    let (a, own) = in_one.stands in
    let has : HasAction in_one.expression p a = own_is_action in_one.expression p a own in
    let there : HasAction game.rules p a = level_stands game.rules (inside in_one.pattern) in_one.expression in_one.is_level p a has in
    let same : a ≡ switch switches.player = one_action_at game.rules lawful.numbered p a (switch switches.player) there switches.stands in
    lawful.switches in_one.pattern in_one.expression in_one.is_level p switches.player (subst (λ (b : AbstractAction). HasAction in_one.expression p b) same has)
