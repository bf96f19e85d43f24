-- What may come next stands in the rules.
use Rattle.std.proofs.Common.{ℕ, [], ◌∷◌}
use Rattle.rbg_rules.specs.Meaning.{AbstractAction, Expression, HasAction, IsNumbered, Start, Follows}
use Rattle.rbg_shifts.proofs.ShiftLemmas.{follower_stands, action_within}
use Rattle.rbg_search.specs.Start.{IsPositionOf}

pub action_position : (rules : Expression) → IsNumbered rules → (p : ℕ) (a : AbstractAction) → HasAction rules p a → IsPositionOf rules p
action_position rules numbered p a h = let within = action_within rules numbered p a h in record { from_one = within.0; there = within.1 }

pub follower_position : (rules : Expression) → IsNumbered rules → (f : Start) (p : ℕ) → Follows rules f (p ∷ []) → IsPositionOf rules p
follower_position rules numbered f p follows =
    let stands = follower_stands rules f p follows in
    action_position rules numbered p stands.0 stands.1
