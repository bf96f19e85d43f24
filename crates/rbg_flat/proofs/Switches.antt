-- Where switches stand, and shifts.
use Rattle.std.proofs.Common.{◌≡◌, ℕ, Bool, true, false, refl, sym, ap, ◌∙◌, IfNone, IfSome, IsTrue, ◌↔◌}
use Rattle.rbg_rules.specs.Meaning.{AbstractAction, shift, off, switch, positive, negative, Expression, HasAction, IsNumbered, IsSwitchAt, IsActionAt}
use Rattle.rbg_rules.specs.declared.rule.Action.{Action}
use Rattle.rbg_rules.specs.declared.rule.Action.TheVariants.{Shift, On, Off, Assign, Compare, Switch, Positive, Negative}
use Rattle.rbg_rules.proofs.PositionLemmas.{one_action_at}
use Rattle.rbg_shifts.specs.Leaps.{IsShiftAt}
use Rattle.rbg_flat.specs.internal.Shown.{direction_in, shows_shift, shows_switch}

abbrev shifts : AbstractAction → Bool
shifts (shift d) = true
shifts _ = false

abbrev switches : AbstractAction → Bool
switches (switch n) = true
switches _ = false

module _ (rules : Expression) (numbered : IsNumbered rules) (p : ℕ) where
  -- Where an action of no such kind stands, none of the kind does.
  other_stands : (kind : AbstractAction → Bool) (Is : Type 0) → (Is → (b : AbstractAction) × HasAction rules p b × (kind b ≡ true)) → (a : AbstractAction) → HasAction rules p a → kind a ≡ false → IsTrue false ↔ Is
  other_stands kind Is of a stands plain = (
    (λ e. absurd (true_not_false (sym e))),
    (λ is. let (b, other, so) = of is in absurd (true_not_false (sym so ∙ ap kind (one_action_at rules numbered p b a other stands) ∙ plain))),
  )
    where
      true_not_false : true ≡ false → ⊥
      true_not_false e = cc

  no_shift : (a : AbstractAction) → HasAction rules p a → shifts a ≡ false → IsTrue false ↔ IsShiftAt rules p
  no_shift = other_stands shifts (IsShiftAt rules p) (λ is. (shift is.direction, is.stands, refl))

  no_switch : (a : AbstractAction) → HasAction rules p a → switches a ≡ false → IsTrue false ↔ IsSwitchAt rules p
  no_switch = other_stands switches (IsSwitchAt rules p) (λ is. (switch is.player, is.stands, refl))

  -- A shift stands at a position exactly where the program's action there is one.
  pub stands_shift : (i : Action) → IsActionAt rules p i → IsTrue (shows_shift i) ↔ IsShiftAt rules p
  stands_shift (Shift d) stands = ((λ _. record { direction = d; stands = stands }), (λ _. refl))
  stands_shift (On pieces) stands = no_shift _ stands refl
  stands_shift (Off x) stands = no_shift (off x) stands refl
  stands_shift (Assign v e) stands = no_shift _ stands refl
  stands_shift (Compare e r f) stands = no_shift _ stands refl
  stands_shift (Switch n) stands = no_shift (switch n) stands refl
  stands_shift Positive (x, stands) = no_shift (positive x) stands refl
  stands_shift Negative (x, stands) = no_shift (negative x) stands refl

  -- So does a switch.
  pub stands_switch : (i : Action) → IsActionAt rules p i → IsTrue (shows_switch i) ↔ IsSwitchAt rules p
  stands_switch (Shift d) stands = no_switch (shift d) stands refl
  stands_switch (On pieces) stands = no_switch _ stands refl
  stands_switch (Off x) stands = no_switch (off x) stands refl
  stands_switch (Assign v e) stands = no_switch _ stands refl
  stands_switch (Compare e r f) stands = no_switch _ stands refl
  stands_switch (Switch n) stands = ((λ _. record { player = n; stands = stands }), (λ _. refl))
  stands_switch Positive (x, stands) = no_switch (positive x) stands refl
  stands_switch Negative (x, stands) = no_switch (negative x) stands refl

-- The direction that an action shows is that of a shift.
pub direction_stands : (rules : Expression) (p : ℕ) (a : Action) → IsActionAt rules p a → IfSome (direction_in a) (λ d. HasAction rules p (shift d))
direction_stands rules p (Shift d) stands = stands
direction_stands rules p (On pieces) stands = tt
direction_stands rules p (Off x) stands = tt
direction_stands rules p (Assign v e) stands = tt
direction_stands rules p (Compare e r f) stands = tt
direction_stands rules p (Switch n) stands = tt
direction_stands rules p Positive stands = tt
direction_stands rules p Negative stands = tt

pub no_direction : (rules : Expression) → IsNumbered rules → (p : ℕ) (a : Action) → IsActionAt rules p a → IfNone (direction_in a) (¬ IsShiftAt rules p)
no_direction rules numbered p a stands = by_action a (stands_shift rules numbered p a stands)
  where
    false_not_true : false ≡ true → ⊥
    false_not_true e = cc

    by_action : (a : Action) → IsTrue (shows_shift a) ↔ IsShiftAt rules p → IfNone (direction_in a) (¬ IsShiftAt rules p)
    by_action (Shift d) told = tt
    by_action (On pieces) told = λ is. false_not_true (told.1 is)
    by_action (Off x) told = λ is. false_not_true (told.1 is)
    by_action (Assign v e) told = λ is. false_not_true (told.1 is)
    by_action (Compare e r f) told = λ is. false_not_true (told.1 is)
    by_action (Switch n) told = λ is. false_not_true (told.1 is)
    by_action Positive told = λ is. false_not_true (told.1 is)
    by_action Negative told = λ is. false_not_true (told.1 is)
