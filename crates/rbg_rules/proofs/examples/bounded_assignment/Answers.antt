-- The proof of `examples::bounded_assignment`.
use Rattle.std.proofs.Common.{[], ◌∷◌, refl, inl, inr, arith}
use Rattle.rbg_rules.specs.Meaning.{assignment, switch, variable, number, sum, outermost, done, again, stay, modify}
use Rattle.rbg_rules.specs.ExampleGames.{counting, state_of}
use Rattle.rbg_rules.proofs.ActionsAt.{no_switches}
use Rattle.rbg_rules.proofs.ExampleLemmas.{legal_by}
use Rattle.rbg_rules.proofs.examples.bounded_assignment.Goals as goal

pub returns-clause-at_zero : goal.returns-clause-at_zero
returns-clause-at_zero c = record { action = assignment 2 (sum (variable 2) (number 1)); stands = inl (inr (inl (refl, refl))); acts = (1, refl, omega arith, refl) }

pub returns-clause-once : goal.returns-clause-once
returns-clause-once c =
    legal_by (2 ∷ []) 3 (state_of 2 (0 ∷ []) 1)
    (outermost, [], [], record { expression = counting.rules; is_level = refl; is_word = (1 ∷ 2 ∷ [], 3 ∷ [], (1 ∷ [], 2 ∷ [], ([], 1 ∷ [], refl, refl, refl), again refl done, refl), refl, refl) })
    (modify (record { action = assignment 2 (sum (variable 2) (number 1)); stands = inl (inr (inl (refl, refl))); acts = (1, refl, omega arith, refl) }) refl (modify (record { action = switch 2; stands = inr (inl (refl, refl)); acts = refl }) refl stay))
    (record { player = 2; stands = inr (inl (refl, refl)) }) (no_switches counting.rules (2 ∷ []) refl)
