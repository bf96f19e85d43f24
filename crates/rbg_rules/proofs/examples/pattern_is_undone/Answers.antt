-- The proof of `examples::pattern_is_undone`.
use Rattle.std.proofs.Common.{ℕ, ◌==◌, List, [], ◌∷◌, ◌++◌, refl, inl, inr, subst, arith}
use Rattle.rbg_board.specs.Graph.{next}
use Rattle.rbg_rules.specs.Meaning.{shift, on, off, positive, switch, HasAction, outermost, Applies, rest, step, stay, modify, pass}
use Rattle.rbg_rules.specs.ExampleGames.{looking_right}
use Rattle.rbg_rules.proofs.PositionLemmas.{Among, Among_left, Among_right}
use Rattle.rbg_rules.proofs.ActionsAt.{no_switches, of_list, true_not_false}
use Rattle.rbg_rules.proofs.ExampleLemmas.{legal_by, goes_on, pair_first, pair_position, places, acts_word, only_word}
use Rattle.rbg_rules.proofs.LookingRight.{right_off, actions, numbered, looks}
use Rattle.rbg_rules.proofs.ExampleStates.{at_first, at_second, after_off, after_switch}
use Rattle.rbg_rules.proofs.examples.pattern_is_undone.Goals as goal

steps : HasAction looking_right.rules 5 (shift 3)
steps = inl (inl (inl (inr (inl (refl, refl)))))

tests : HasAction looking_right.rules 6 (on (0 ∷ []))
tests = inl (inl (inr (inl (refl, refl))))

puts : HasAction looking_right.rules 7 (off 1)
puts = inl (inr (inl (refl, refl)))

ends : HasAction looking_right.rules 8 (switch 2)
ends = inr (inl (refl, refl))

abbrev looking : Applies looking_right 2 at_first at_first
unfolding next
looking = record { action = positive right_off; stands = looks; acts = ((3 ∷ 4 ∷ [], after_off, (3 ∷ [], 4 ∷ [], ([], 3 ∷ [], refl, refl, refl), refl, refl), step {middle = at_second} (inl (inr (refl, (1, refl, refl)))) (step (inr (refl, refl)) rest)), refl) }

abbrev stepping : Applies looking_right 5 at_first at_second
unfolding next
stepping = record { action = shift 3; stands = steps; acts = (1, refl, refl) }

pub returns-clause-legal : goal.returns-clause-legal
unfolding looking stepping
returns-clause-legal c =
    legal_by (2 ∷ 5 ∷ 6 ∷ 7 ∷ []) 8 after_switch
    (outermost, [], [], record { expression = looking_right.rules; is_level = refl; is_word = acts_word actions })
    (pass looking refl (pass stepping refl (pass {middle = at_second} (record { action = on (0 ∷ []); stands = tests; acts = ((0, omega arith, refl), refl) }) refl (modify {middle = after_off} (record { action = off 1; stands = puts; acts = refl }) refl (modify (record { action = switch 2; stands = ends; acts = refl }) refl stay)))))
    (record { player = 2; stands = ends }) (no_switches looking_right.rules (2 ∷ 5 ∷ 6 ∷ 7 ∷ []) refl)

-- Position 4 belongs to the pattern, so no word of the rules has it.
pub returns-clause-not_its_off : goal.returns-clause-not_its_off
returns-clause-not_its_off c (to, legal) =
    let m : List ℕ = legal.before ++ legal.last ∷ [] in
    let on_from = goes_on looking_right.rules numbered 1 (switch 1) (inl (inl (inl (inl (inl (inr (refl, refl))))))) m legal.follows in
    let word : List ℕ = on_from.front ++ 1 ∷ (m ++ on_from.back) in
    let only = only_word actions word on_from.word in
    let four : Among 4 word = Among_right 4 on_from.front (1 ∷ (m ++ on_from.back)) (inr (Among_left 4 m on_from.back (pair_position legal.runs 1 4 (pair_first 1 4 ((1, 7) ∷ (1, 8) ∷ []))))) in
    true_not_false (of_list (λ q. 4 == q) (places actions) refl 4 (subst (Among 4) only four))
