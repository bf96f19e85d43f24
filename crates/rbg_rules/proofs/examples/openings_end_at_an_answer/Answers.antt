-- The proof of `examples::openings_end_at_an_answer`.
use Rattle.std.proofs.Common.{◌≡◌, ℕ, List, [], ◌∷◌, refl, inl, inr}
use Rattle.rbg_rules.specs.Meaning.{outermost, after, done, stay, at, beyond, AnswersAfter, GoesTo, find_move, is_pattern}
use Rattle.rbg_rules.specs.ExampleGames.{star_of_offs, state_of}
use Rattle.rbg_rules.proofs.ActionsAt.{none_such, no_switches, no_pattern_at}
use Rattle.rbg_rules.proofs.examples.openings_end_at_an_answer.Goals as goal

-- The switch to black comes after no modifier.
answer : AnswersAfter star_of_offs find_move (state_of 1 (0 ∷ []) 0) (after 1) []
answer = (
  [],
  state_of 1 (0 ∷ []) 0,
  3,
  record {
    no_switch = no_switches star_of_offs.rules [] refl;
    follows = (outermost, [], 3 ∷ [], record { expression = star_of_offs.rules; is_level = refl; is_word = (1 ∷ [], 3 ∷ [], (1 ∷ [], [], ([], 1 ∷ [], refl, refl, refl), done, refl), refl, refl) });
    runs = stay;
  },
  (outermost, [], [], record { expression = star_of_offs.rules; is_level = refl; is_word = (1 ∷ [], 3 ∷ [], (1 ∷ [], [], ([], 1 ∷ [], refl, refl, refl), done, refl), refl, refl) }),
  record { player = 2; stands = inr (inl (refl, refl)) },
)

stops : (ps : List (ℕ × ℕ)) → GoesTo star_of_offs find_move (state_of 1 (0 ∷ []) 0) (after 1) ps → ps ≡ []
stops [] goes = refl
stops (q ∷ ps) goes = absurd (goes [] (q ∷ ps, (λ e. cc), refl) answer)

pub returns : goal.returns
returns c o (at {ps} runs goes) = rw (stops ps goes)
returns c o (beyond {p} runs goes follows pattern more) = absurd (no_pattern_at star_of_offs.rules p (none_such (λ q a. is_pattern a) star_of_offs.rules refl p) pattern)
