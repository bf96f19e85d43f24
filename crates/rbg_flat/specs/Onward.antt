-- Where one modifier alone comes next.
use Rattle.std.specs.Prelude.{◌≡◌, ℕ, [], ◌∷◌}
use Rattle.rbg_rules.specs.Meaning.{Expression, IsModifierAt, IsSwitchAt, after, Ends}
use Rattle.rbg_auto.specs.Steps.{AreNext}
use Rattle.rbg_flat.specs.declared.onward.Onward.{Onward}
use Rattle.rbg_flat.specs.declared.onward.Onward.TheVariants.{Unknown, Modifier, Switch}

-- Position q alone comes next after position p, and no word ends before it.
pub record IsAlone (rules : Expression) (p q : ℕ) : Type 0 where
  pub alone : AreNext rules p (q ∷ [])
  pub no_end : ¬ Ends rules (after p) []

-- What is told of the action at position q is so.
abbrev pub IsOnwardTo : Expression → ℕ → Onward → Type 0
IsOnwardTo rules q Unknown = Unit {0}
IsOnwardTo rules q (Modifier r) = (r ≡ q) × IsModifierAt rules q × ¬ IsSwitchAt rules q
IsOnwardTo rules q (Switch r) = (r ≡ q) × IsSwitchAt rules q

-- What is told of what comes next after position p is so.
abbrev pub IsOnward : Expression → ℕ → Onward → Type 0
IsOnward rules p Unknown = Unit {0}
IsOnward rules p (Modifier q) = IsAlone rules p q × IsModifierAt rules q × ¬ IsSwitchAt rules q
IsOnward rules p (Switch q) = IsAlone rules p q × IsSwitchAt rules q
