-- The proof of `examples::openings_in_a_pattern`.
use Rattle.std.proofs.Common.{◌≡◌, ℕ, List, [], ◌∷◌, refl, inl, inr, subst}
use Rattle.rbg_board.specs.Graph.{next}
use Rattle.rbg_rules.specs.Meaning.{shift, off, positive, negative, Expression, HasAction, outermost, inside, IsLevel, beginning, WordOf, Word, AbstractState, RunPairs, stay, modify, pass, at, beyond, AnswersAfter, GoesTo, pattern}
use Rattle.rbg_rules.specs.ExampleGames.{looking_right}
use Rattle.rbg_rules.proofs.ActionsAt.{no_switches, not_quiet}
use Rattle.rbg_rules.proofs.ExampleLemmas.{only_nothing, all_of_one, acts_word, only_word}
use Rattle.rbg_rules.proofs.LookingRight.{inner, right_off, actions, numbered, looks}
use Rattle.rbg_rules.proofs.PositionLemmas.{one_action_at}
use Rattle.rbg_rules.proofs.ExampleStates.{at_first, at_second, after_off}
use Rattle.rbg_rules.proofs.examples.openings_in_a_pattern.Goals as goal

steps : HasAction looking_right.rules 3 (shift 3)
steps = inl (inl (inl (inl (inr (inr (inl (inr (inl (refl, refl)))))))))

puts : HasAction looking_right.rules 4 (off 1)
puts = inl (inl (inl (inl (inr (inr (inr (inl (refl, refl))))))))

runs_inside : RunPairs looking_right (3 ∷ 4 ∷ []) at_first after_off ((1, 4) ∷ [])
unfolding next
runs_inside = pass {middle = at_second} (record { action = shift 3; stands = steps; acts = (1, refl, refl) }) refl (modify {middle = after_off} (record { action = off 1; stands = puts; acts = refl }) refl stay)

-- The inside of the pattern at position 2 is the one written there, with one word.
inside_is : (x : Expression) → IsLevel looking_right.rules (inside 2) x → x ≡ right_off
inside_is x (inl h) = let same = one_action_at looking_right.rules numbered 2 (positive x) (positive right_off) h looks in cc
inside_is x (inr h) = let same = one_action_at looking_right.rules numbered 2 (negative x) (positive right_off) h looks in absurd cc

inside_word : (w : List ℕ) → WordOf looking_right.rules (inside 2) w → w ≡ 3 ∷ 4 ∷ []
inside_word w of_level = only_word inner w (subst (λ (x : Expression). Word x w) (inside_is of_level.expression of_level.is_level) of_level.is_word)

-- .. and no run of it is without a modifier.
some_pair : (t : AbstractState) → ¬ RunPairs looking_right (3 ∷ 4 ∷ []) at_first t []
some_pair t (pass applied quiet (pass applied' quiet' stay)) = not_quiet refl applied' quiet'

no_answer : ¬ AnswersAfter looking_right pattern at_first (beginning (inside 2)) []
no_answer (m, t, runs, ends) = some_pair t (subst (λ (w : List ℕ). RunPairs looking_right w at_first t []) (inside_word m ends) runs.runs)

goes_inside : GoesTo looking_right pattern at_first (beginning (inside 2)) ((1, 4) ∷ [])
goes_inside qs (more, some, e) answer = no_answer (subst (λ (ps : List (ℕ × ℕ)). AnswersAfter looking_right pattern at_first (beginning (inside 2)) ps) (all_of_one (1, 4) qs more some e) answer)

pub returns : goal.returns
returns c = beyond {m = []} {t = at_first} {ps = []} {p = 2}
    (record { no_switch = no_switches looking_right.rules [] refl; follows = (outermost, [], 2 ∷ 5 ∷ 6 ∷ 7 ∷ 8 ∷ [], record { expression = looking_right.rules; is_level = refl; is_word = acts_word actions }); runs = stay })
    (λ qs (more, some, e). absurd (only_nothing qs more some e))
    (outermost, [], 5 ∷ 6 ∷ 7 ∷ 8 ∷ [], record { expression = looking_right.rules; is_level = refl; is_word = acts_word actions })
    (record { inside_it = right_off; stands = inl looks })
    (at {m = 3 ∷ 4 ∷ []} {t = after_off} {ps = (1, 4) ∷ []}
    (record { no_switch = no_switches looking_right.rules (3 ∷ 4 ∷ []) refl; follows = ([], record { expression = right_off; is_level = inl looks; is_word = acts_word inner }); runs = runs_inside })
    goes_inside)
