-- What a flat part finds, and how many candidates it has.
use Rattle.std.specs.Prelude.{◌≡◌, ◌≢◌, ℕ, ◌*◌, ◌↔◌, List, length, AllPairs, Contains}
use Rattle.rbg_rules.specs.Meaning.{IsModifierAt, positions_of, Start, AbstractGame, AbstractState, Applies}
use Rattle.rbg_flat.specs.Candidates.{IsCandidate}
use Rattle.rbg_flat.specs.Ways.{Way, leaping, IsOfPart}

-- The candidate at position p and vertex v is a modifier, and valid there.
pub record IsFound (game : AbstractGame) (s : AbstractState) (f : Start) (v p : ℕ) : Type 0 where
  pub later : AbstractState
  pub candidate : IsCandidate game s f v p
  pub modifies : IsModifierAt game.rules p
  pub applies : Applies game p (record s { vertex = v }) later

-- Found are the modifiers that come next and are valid, each once.
pub record AreFound (game : AbstractGame) (s : AbstractState) (f : Start) (found : List (ℕ × ℕ)) : Type 0 where
  pub next : (v p : ℕ) → Contains found (v, p) ↔ IsFound game s f v p
  pub different : AllPairs (λ a b. a ≢ b) found

-- The flat part has so many pairs, if it is led on so: each vertex with each position that may come next there, once. By
-- leaps, shifts are left out.
pub record HasPairs (way : Way) (game : AbstractGame) (s : AbstractState) (f : Start) (many : ℕ) : Type 0 where
  pub pairs : List (ℕ × ℕ)
  pub all : (v p : ℕ) → Contains pairs (v, p) ↔ IsOfPart way game s f v p
  pub different : AllPairs (λ a b. a ≢ b) pairs
  pub count : length pairs ≡ many

-- There are so many candidates.
abbrev pub HasCandidates : AbstractGame → AbstractState → Start → (many : ℕ) → Type 0
HasCandidates game s f many = HasPairs leaping game s f many

-- the most candidates that there are: each vertex with each position
abbrev pub most_candidates : AbstractGame → ℕ
most_candidates game = length (positions_of game.rules) * length game.board.first
