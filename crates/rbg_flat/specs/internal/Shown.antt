-- What the facts tell of an action of the program, and which are shifts or switches.
use Rattle.std.specs.Prelude.{◌≡◌, ◌⊎◌, ℕ, List, [], ◌∷◌, Option, None, Some, Bool, true, false, IsTrue}
use Rattle.rbg_rules.specs.declared.rule.Action.{Action}
use Rattle.rbg_rules.specs.declared.rule.Action.TheVariants.{Shift, On, Off, Assign, Compare, Switch, Positive, Negative}
use Rattle.rbg_flat.specs.declared.onward.Onward.{Onward}
use Rattle.rbg_flat.specs.declared.onward.Onward.TheVariants.{Unknown, Modifier as OnModifier, Switch as OnSwitch}
use Rattle.rbg_flat.specs.declared.paths.Facts.{Facts}
use Rattle.rbg_flat.specs.declared.paths.Kind.{Kind}
use Rattle.rbg_flat.specs.declared.paths.Kind.TheVariants.{OnEither, Modifier, Pattern, On as OnOne, Comparison, Plain}

-- The facts of an action of this kind, of which no pieces are told.
pub record HasNoPieces (kind : Kind) (sure : Bool) (told : Facts) : Type 0 where
  pub kind_is : told.kind ≡ kind
  pub sure_is : told.sure ≡ sure
  pub alone_is : told.alone ≡ false

-- The facts of an on of these pieces.
pub record HasPieces (pieces : List ℕ) (told : Facts) : Type 0 where
  pub kind : (told.kind ≡ OnOne) ⊎ (told.kind ≡ OnEither)
  pub sure_is : told.sure ≡ false
  pub alone : IsTrue told.alone → pieces ≡ told.piece ∷ []
  pub two : told.kind ≡ OnEither → pieces ≡ told.piece ∷ told.other ∷ []

abbrev pub ShowsFacts : Action → Facts → Type 0
ShowsFacts (Off x) told = HasNoPieces Modifier true told
ShowsFacts (Assign v e) told = HasNoPieces Modifier false told
ShowsFacts (Switch n) told = HasNoPieces Modifier true told
ShowsFacts (Shift d) told = HasNoPieces Plain false told
ShowsFacts (On pieces) told = HasPieces pieces.items told
ShowsFacts (Compare e r f) told = HasNoPieces Comparison false told
ShowsFacts Positive told = HasNoPieces Pattern false told
ShowsFacts Negative told = HasNoPieces Pattern false told

abbrev pub shows_shift : Action → Bool
shows_shift (Shift d) = true
shows_shift (Off x) = false
shows_shift (Assign v e) = false
shows_shift (Switch n) = false
shows_shift (On pieces) = false
shows_shift (Compare e r f) = false
shows_shift Positive = false
shows_shift Negative = false

abbrev pub shows_switch : Action → Bool
shows_switch (Switch n) = true
shows_switch (Shift d) = false
shows_switch (On pieces) = false
shows_switch (Off x) = false
shows_switch (Assign v e) = false
shows_switch (Compare e r f) = false
shows_switch Positive = false
shows_switch Negative = false

-- the direction of a shift
abbrev pub direction_in : Action → Option ℕ
direction_in (Shift d) = Some d
direction_in (On pieces) = None
direction_in (Off x) = None
direction_in (Assign v e) = None
direction_in (Compare e r f) = None
direction_in (Switch n) = None
direction_in Positive = None
direction_in Negative = None

-- What is told of an action at position p, where one may go on to it.
abbrev pub ShowsOnward : ℕ → Action → Onward → Type 0
ShowsOnward p (Off x) told = told ≡ OnModifier p
ShowsOnward p (Assign v e) told = told ≡ OnModifier p
ShowsOnward p (Switch n) told = told ≡ OnSwitch p
ShowsOnward p (Shift d) told = told ≡ Unknown
ShowsOnward p (On pieces) told = told ≡ Unknown
ShowsOnward p (Compare e r f) told = told ≡ Unknown
ShowsOnward p Positive told = told ≡ Unknown
ShowsOnward p Negative told = told ≡ Unknown
