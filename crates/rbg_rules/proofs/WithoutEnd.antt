-- In `->white ([w])* {}` no switch follows the first one.
use Rattle.std.proofs.Common.{ℕ, List, [], ◌∷◌, ◌++◌, refl, inl, inr}
use Rattle.rbg_rules.specs.Meaning.{off, on, switch, act, star, Expression, sequence_of, IsSwitchAt, Follows, after}
use Rattle.rbg_rules.specs.ExampleGames.{without_end}
use Rattle.rbg_rules.proofs.PositionLemmas.{Among_left, Among_right}
use Rattle.rbg_rules.proofs.ActionsAt.{has_at, is_switch, no_switch_at, of_word}
use Rattle.rbg_rules.proofs.ExampleLemmas.{remains, sequence_word}

abbrev parts : List Expression
parts = star (act 2 (off 1)) ∷ act 3 (on []) ∷ []

pub no_switch_follows : (before : List ℕ) (last : ℕ) → Follows without_end.rules (after 1) (before ++ last ∷ []) → ¬ IsSwitchAt without_end.rules last
no_switch_follows before last follows =
    let m : List ℕ = before ++ last ∷ [] in
    let rest = remains 1 (switch 1) parts (record { in_order = refl }) (inl (inl (inr (refl, refl)))) refl m follows in
    no_switch_at without_end.rules last (of_word (has_at is_switch without_end.rules) (sequence_of parts) refl (m ++ rest.back) (sequence_word parts (m ++ rest.back) rest.others) last (Among_left last m rest.back (Among_right last before (last ∷ []) (inl refl))))
