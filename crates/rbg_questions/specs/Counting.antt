-- How many sequences of moves a game has from a place.
use Rattle.std.specs.Prelude.{◌≡◌, ℕ, ◌+◌, ◌⊎◌, zero, suc, List, [], ◌∷◌, ◌++◌}
use Rattle.rbg_rules.specs.Meaning.{AbstractGame, AbstractPlace, Legal, Finished}
use Rattle.rbg_moves.specs.Settling.{Settles}
use Rattle.rbg_questions.specs.Places.{AreLegalMoves}
use Rattle.rbg_questions.specs.declared.extent.Extent.{Extent}
use Rattle.rbg_questions.specs.declared.extent.Extent.TheVariants.{Ends, Moves}

-- Each item has two numbers, and these are the sums.
pub data Sums {A : Type 0} (Has : A → ℕ → ℕ → Type 0) : List A → ℕ → ℕ → Type 0 where
  none : Sums Has [] 0 0
  more :
      {items : List A} {item : A} {m n m' n' : ℕ} →
      Sums Has items m n →
      Has item m' n' →
      Sums Has (items ++ item ∷ []) (m + m') (n + n')

-- Play is finished at the place and the number is 1, or it isn't and the number is 0.
abbrev pub TellsFinished : AbstractGame → AbstractPlace → ℕ → Type 0
TellsFinished game place n = ((n ≡ 1) × Finished game place) ⊎ ((n ≡ 0) × ¬ Finished game place)

-- From the place there are so many sequences of this number of moves of the players, and after so many of them play is
-- finished. Before each of these moves the keeper makes legal moves, any, until a player is to move or play is finished.
-- It does so after the last one too where the ends are asked for. Where they aren't, no sequence counts as ended.
abbrev pub AreCounted :
    AbstractGame → (moves : ℕ) → Extent → AbstractPlace → (sequences ended : ℕ) → Type 0
AreCounted game zero Ends place sequences ended =
    (to : AbstractPlace) × Settles game place to × (sequences ≡ 1) × TellsFinished game to ended
AreCounted game zero Moves place sequences ended = (sequences ≡ 1) × (ended ≡ 0)
AreCounted game (suc moves) extent place sequences ended =
    (to : AbstractPlace) × (all : List (List (ℕ × ℕ))) ×
    Settles game place to ×
    AreLegalMoves game to all ×
    Sums
    (λ pairs m n. (next : AbstractPlace) × Legal game to pairs next × AreCounted game moves extent next m n)
    all sequences ended

-- The same after the move of these pairs.
abbrev pub AreCountedAfter :
    AbstractGame → (moves : ℕ) → Extent → AbstractPlace → List (ℕ × ℕ) → (sequences ended : ℕ) → Type 0
AreCountedAfter game moves extent place pairs sequences ended =
    (next : AbstractPlace) × Legal game place pairs next × AreCounted game moves extent next sequences ended
