-- A pattern's answer is whether some word of its inside runs.
use Rattle.std.proofs.Common.{◌≡◌, ℕ, List, subst, inl, inr, ◌↔◌}
use Rattle.rbg_rules.specs.Expression.{positive, negative, Expression}
use Rattle.rbg_rules.specs.Positions.{HasAction, IsNumbered, IsLevel, inside}
use Rattle.rbg_rules.specs.Words.{Word, WordOf, beginning}
use Rattle.rbg_rules.specs.State.{AbstractGame, AbstractState}
use Rattle.rbg_rules.specs.Actions.{Applies, Run}
use Rattle.rbg_rules.specs.Questions.{SomeWordRuns}
use Rattle.rbg_rules.specs.Laws.{AnswerLaw}
use Rattle.rbg_rules.proofs.PositionLemmas.{one_action_at}
use Rattle.rbg_rules.proofs.PlaceLemmas.{RunPairs-Runs, Runs-RunPairs}
use Rattle.rbg_rules.proofs.MoveLemmas.{positive_law, negative_law}

-- The inside of a pattern is the one at its position.
positive_is : (rules : Expression) → IsNumbered rules → (p : ℕ) (x y : Expression) → HasAction rules p (positive x) → IsLevel rules (inside p) y → y ≡ x
positive_is rules numbered p x y stands (inl h) = let same = one_action_at rules numbered p (positive y) (positive x) h stands in cc
positive_is rules numbered p x y stands (inr h) = let same = one_action_at rules numbered p (negative y) (positive x) h stands in absurd cc

negative_is : (rules : Expression) → IsNumbered rules → (p : ℕ) (x y : Expression) → HasAction rules p (negative x) → IsLevel rules (inside p) y → y ≡ x
negative_is rules numbered p x y stands (inl h) = let same = one_action_at rules numbered p (positive y) (negative x) h stands in absurd cc
negative_is rules numbered p x y stands (inr h) = let same = one_action_at rules numbered p (negative y) (negative x) h stands in cc

-- A word of the inside that runs.
abbrev InsideRuns : AbstractGame → Expression → AbstractState → Type 0
InsideRuns game x s = (w : List ℕ) × (end : AbstractState) × Word x w × Run game w s end

some_word : (game : AbstractGame) (p : ℕ) (x : Expression) (s : AbstractState) → IsLevel game.rules (inside p) x → InsideRuns game x s → SomeWordRuns game s (beginning (inside p))
some_word game p x s is (w, end, word, run) =
    let (ps, pairs) = Runs-RunPairs run in
    record { word = w; end = end; pairs = ps; ends = record { expression = x; is_level = is; is_word = word }; runs = pairs }

inside_word : (game : AbstractGame) (p : ℕ) (x : Expression) (s : AbstractState) → ((y : Expression) → IsLevel game.rules (inside p) y → y ≡ x) → SomeWordRuns game s (beginning (inside p)) → InsideRuns game x s
inside_word game p x s only runs =
    let of_level : WordOf game.rules (inside p) runs.word = runs.ends in
    (runs.word, runs.end, subst (λ (y : Expression). Word y runs.word) (only of_level.expression of_level.is_level) of_level.is_word, RunPairs-Runs runs.runs)

pub answer_law : AnswerLaw
answer_law game numbered p x s = (yes, no)
  where
    yes : HasAction game.rules p (positive x) → Applies game p s s ↔ SomeWordRuns game s (beginning (inside p))
    yes stands =
        let law = positive_law game numbered p x stands s in (
          (λ applied. some_word game p x s (inl stands) (law.0 applied)),
          (λ runs. law.1 (inside_word game p x s (λ y is. positive_is game.rules numbered p x y stands is) runs)),
        )

    no : HasAction game.rules p (negative x) → Applies game p s s ↔ (¬ SomeWordRuns game s (beginning (inside p)))
    no stands =
        let law = negative_law game numbered p x stands s in (
          (λ applied runs. let (w, end, word, run) = inside_word game p x s (λ y is. negative_is game.rules numbered p x y stands is) runs in law.0 applied w end word run),
          (λ none. law.1 (λ w end word run. none (some_word game p x s (inr stands) (w, end, word, run)))),
        )
