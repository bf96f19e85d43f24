-- Which moves are listed, and in which order.
use Rattle.std.specs.Prelude.{◌≡◌, ◌≢◌, ℕ, ◌≤◌, ◌⊎◌, List, [], ◌∷◌, length, All, AllPairs, Contains, Bool, true, false}
use Rattle.rbg_rules.specs.Meaning.{AbstractGame, AbstractPlace, IsLegal}
use Rattle.rbg_search.specs.Flat.{IsBefore}

-- A move stands before another: the first pair in which they differ decides, by its vertex and then by its position;
-- and the first part of a list stands before the whole of it.
abbrev pub IsMoveBefore : List (ℕ × ℕ) → List (ℕ × ℕ) → Type 0
IsMoveBefore [] [] = ⊥
IsMoveBefore [] (q ∷ qs) = Unit {0}
IsMoveBefore (p ∷ ps) [] = ⊥
IsMoveBefore (p ∷ ps) (q ∷ qs) = IsBefore p q ⊎ ((p ≡ q) × IsMoveBefore ps qs)

-- A legal move that is not among these.
pub record OtherMove (game : AbstractGame) (place : AbstractPlace) (moves : List (List (ℕ × ℕ))) : Type 0 where
  pub pairs : List (ℕ × ℕ)
  pub legal : IsLegal game place pairs
  pub missing : ¬ Contains moves pairs

-- The moves are legal, each stands once, they are in order, and they are at most `max`. If they are not cut, every
-- legal move is among them. If they are cut, they are exactly `max`, and there is another legal move.
pub record IsListed
    (game : AbstractGame) (place : AbstractPlace) (max : ℕ) (moves : List (List (ℕ × ℕ))) (cut : Bool)
    : Type 0
  where
    pub legal : All (IsLegal game place) moves
    pub different : AllPairs (λ a b. a ≢ b) moves
    pub order : AllPairs IsMoveBefore moves
    pub few : length moves ≤ max
    pub whole : cut ≡ false → (pairs : List (ℕ × ℕ)) → IsLegal game place pairs → Contains moves pairs
    pub full : cut ≡ true → length moves ≡ max
    pub more : cut ≡ true → OtherMove game place moves

-- The moves are legal, each stands once, and they are at most `max`. If they are not cut, every legal move is among
-- them. If they are cut, they are exactly `max`, and there is another legal move.
pub record IsGathered
    (game : AbstractGame) (place : AbstractPlace) (max : ℕ) (moves : List (List (ℕ × ℕ))) (cut : Bool)
    : Type 0
  where
    pub legal : All (IsLegal game place) moves
    pub different : AllPairs (λ a b. a ≢ b) moves
    pub few : length moves ≤ max
    pub whole : cut ≡ false → (pairs : List (ℕ × ℕ)) → IsLegal game place pairs → Contains moves pairs
    pub full : cut ≡ true → length moves ≡ max
    pub more : cut ≡ true → OtherMove game place moves
