-- The actions of a game at its positions.
use Rattle.rbg_base.proofs.Common.{◌≡◌, ℕ, zero, suc, ◌+◌, ◌<◌, ◌≤◌, ◌⊎◌, inl, inr, Bool, true, false, IsTrue, length, sym, ap, subst, ◌∙◌, arith, range_with_len, cases_lt}
use Rattle.rbg_rules.specs.Meaning.{AbstractAction, Expression, skip, HasAction, positions_of, IsNumbered, AbstractGame, IsActionAt, action_of}
use Rattle.rbg_rules.specs.declared.rule.Action.{Action}
use Rattle.rbg_rules.specs.declared.rule.Action.TheVariants.{Shift, On, Off, Assign, Compare, Switch, Positive, Negative}
use Rattle.rbg_rules.proofs.PositionLemmas.{Among, Among-range_with_len, has_position, one_action_at}
use Rattle.rbg_warnings.specs.declared.named_thing.NamedThing.{NamedThing}
use Rattle.rbg_warnings.specs.Warnings.{IsWritten, HasTooGreat, uses, assigns_too_much}
use Rattle.rbg_warnings.specs.internal.Walking.{IsUnusedUpTo}

-- the action at a position, with some inside
pub standing : (rules : Expression) (p : ℕ) (i : Action) → IsActionAt rules p i → (x : Expression) × HasAction rules p (action_of i x)
standing rules p (Shift d) h = (skip, h)
standing rules p (On xs) h = (skip, h)
standing rules p (Off y) h = (skip, h)
standing rules p (Assign v e) h = (skip, h)
standing rules p (Compare e r f) h = (skip, h)
standing rules p (Switch n) h = (skip, h)
standing rules p Positive h = h
standing rules p Negative h = h

-- a test of the action at a position
pub tested : (test : AbstractAction → Bool) (rules : Expression) → IsNumbered rules → (p : ℕ) (i : Action) (b : Bool) → IsActionAt rules p i → ((x : Expression) → b ≡ test (action_of i x)) → (a : AbstractAction) → HasAction rules p a → b ≡ test a
tested test rules numbered p i b stands is a here =
    let there = standing rules p i stands in
    is there.0 ∙ ap test (one_action_at rules numbered p (action_of i there.0) a there.1 here)

pub too_great : (game : AbstractGame) → IsNumbered game.rules → (p : ℕ) (i : Action) (b : Bool) → IsActionAt game.rules p i → ((x : Expression) → b ≡ assigns_too_much game.bounds (action_of i x)) → (IsTrue b → HasTooGreat game p) × (HasTooGreat game p → IsTrue b)
too_great game numbered p i b stands is =
    let there = standing game.rules p i stands in (
      λ above. record { action = action_of i there.0; stands = there.1; too_great = sym (is there.0) ∙ above },
      λ found. tested (assigns_too_much game.bounds) game.rules numbered p i b stands is found.action found.stands ∙ found.too_great,
    )

pub written : (game : AbstractGame) (thing : NamedThing) (p : ℕ) (i : Action) (b : Bool) → IsActionAt game.rules p i → ((x : Expression) → b ≡ uses thing (action_of i x)) → IsTrue b → IsWritten game thing
written game thing p i b stands is used =
    let there = standing game.rules p i stands in
    record { position = p; action = action_of i there.0; stands = there.1; is_used = sym (is there.0) ∙ used }

at_last : (p q : ℕ) → q ≤ p + 1 → (q ≤ p) ⊎ (q ≡ p + 1)
at_last p q below = elim (cases_lt p q) [ inl more ↦ inr (omega arith) | inr less ↦ inl less ]

-- the positions up to the next one
pub unused_more : (game : AbstractGame) (thing : NamedThing) (p : ℕ) (i : Action) (b : Bool) → IsNumbered game.rules → IsActionAt game.rules (p + 1) i → ((x : Expression) → b ≡ uses thing (action_of i x)) → b ≡ false → IsUnusedUpTo game thing p → IsUnusedUpTo game thing (p + 1)
unused_more game thing p i b numbered stands is none before q a below here used =
    elim (at_last p q below) [
      | inl earlier ↦ before q a earlier here used
      | inr same ↦ (let test = tested (uses thing) game.rules numbered (p + 1) i b stands is a (subst (λ n. HasAction game.rules n a) same here) in
          let apart : true ≡ false = sym used ∙ (sym test ∙ none) in cc)
    ]

among_below : (first many x : ℕ) → Among x (range_with_len first many) → x < first + many
among_below first zero x h = absurd h
among_below first (suc many) x (inl e) = omega arith
among_below first (suc many) x (inr h) = let later : x < first + 1 + many = among_below (first + 1) many x h in omega arith

-- the positions of actions are numbered from 1
pub position_within : (rules : Expression) → IsNumbered rules → (p : ℕ) (a : AbstractAction) → HasAction rules p a → (0 < p) × (p ≤ length (positions_of rules))
position_within rules numbered p a here =
    let among = subst (Among p) numbered.in_order (has_position rules p a here) in
    let low : 1 ≤ p = Among-range_with_len 1 (length (positions_of rules)) p among in
    let high : p < 1 + length (positions_of rules) = among_below 1 (length (positions_of rules)) p among in
    (omega arith, omega arith)

pub unused_none : (game : AbstractGame) (thing : NamedThing) → IsNumbered game.rules → IsUnusedUpTo game thing 0
unused_none game thing numbered p a below here used = let within = position_within game.rules numbered p a here in absurd (omega arith)

pub unused_all : (game : AbstractGame) (thing : NamedThing) (last : ℕ) → IsNumbered game.rules → last ≡ length (positions_of game.rules) → IsUnusedUpTo game thing last → IsWritten game thing → ⊥
unused_all game thing last numbered is none written =
    let within = position_within game.rules numbered written.position written.action written.stands in
    none written.position written.action (omega arith) written.stands written.is_used
