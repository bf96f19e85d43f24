-- How many pairs of a vertex and a position a search takes: those that its flat parts meet, each when it is met.
use Rattle.std.specs.Prelude.{◌≡◌, ◌≢◌, ℕ, ◌+◌, ◌≤◌, ◌⊎◌, List, [], ◌∷◌, length, sum, All, AllPairs, Contains}
use Rattle.rbg_rules.specs.Meaning.{IsPatternAt, inside, Start, beginning, after, Follows, AbstractGame, AbstractState, Question, pattern}
use Rattle.rbg_shifts.specs.Leaps.{IsShiftAt}
use Rattle.rbg_flat.specs.Candidates.{IsCandidate, MayCome}
pub use Rattle.rbg_flat.specs.Found.{most_candidates}
use Rattle.rbg_search.specs.Passing.{GoesOn}

-- A question comes to the flat part from t and g: it begins with it, or a pattern does that may come next there or
-- further on, or the question goes on to it after modifiers.
pub data ComesTo (game : AbstractGame) (t : AbstractState) (g : Start) : Question → AbstractState → Start → Type 0 where
  begins : {question : Question} → ComesTo game t g question t g
  by_pattern :
      {question : Question} {s : AbstractState} {f : Start} {v p : ℕ} →
      IsCandidate game s f v p →
      IsPatternAt game.rules p →
      ComesTo game t g pattern (record s { vertex = v }) (beginning (inside p)) →
      ComesTo game t g question s f
  by_modifier :
      {question question' : Question} {s later : AbstractState} {f : Start} {v p : ℕ} →
      GoesOn game question s f v p question' later →
      ComesTo game t g question' later (after p) →
      ComesTo game t g question s f

-- The pairs are all that a flat part has: each candidate. Where shifts are followed one by one, they are among the pairs,
-- each with each vertex at which it may come next; where leaps tell to where they lead, no shift is.
pub record AreWhole (game : AbstractGame) (s : AbstractState) (f : Start) (pairs : List (ℕ × ℕ)) : Type 0 where
  pub all : (v p : ℕ) → IsCandidate game s f v p → Contains pairs (v, p)
  pub shifts :
      ((v p : ℕ) → Contains pairs (v, p) → ¬ IsShiftAt game.rules p)
      ⊎ ((v p : ℕ) → MayCome game s f v p → Contains pairs (v, p))

-- So many pairs were met in a flat part, each once, and each may come next there. Where no memory was refused, those that
-- may come first are among them, but for shifts; and where the question was answered, they are all.
pub record HasMet
    (game : AbstractGame) (s : AbstractState) (f : Start) (Answered Held : Type 0) (many : ℕ)
    : Type 0
  where
    pub pairs : List (ℕ × ℕ)
    pub met : (v p : ℕ) → Contains pairs (v, p) → MayCome game s f v p
    pub different : AllPairs (λ a b. a ≢ b) pairs
    pub count : length pairs ≡ many
    pub few : many ≤ most_candidates game
    pub begun :
        Held → (p : ℕ) → Follows game.rules f (p ∷ []) → ¬ IsShiftAt game.rules p → Contains pairs (s.vertex, p)
    pub whole : Answered → AreWhole game s f pairs

-- So many were met in a flat part to which the question comes.
pub record HasPart
    (game : AbstractGame) (question : Question) (s : AbstractState) (f : Start) (Answered Held : Type 0) (many : ℕ)
    : Type 0
  where
    pub state : AbstractState
    pub start : Start
    pub comes : ComesTo game state start question s f
    pub has : HasMet game state start Answered Held many

-- While the count of openings went from the old number to the new one, that of pairs went from `taken` to `all`. It
-- counts the pairs that were met in one flat part for each opening, also in those that were not found whole.
--   Answered: the question was answered
--   Held: no memory was refused
pub record CountsTaken
    (game : AbstractGame) (question : Question) (s : AbstractState) (f : Start) (old new taken all : ℕ)
    (Answered Held : Type 0)
    : Type 0
  where
    pub parts : List ℕ
    pub found : All (HasPart game question s f Answered Held) parts
    pub total : all ≡ taken + sum parts
    pub each : new ≡ old + length parts

-- The same where the question is sure to be answered in the one case of which more is told.
abbrev pub CountsPairs :
    AbstractGame → Question → AbstractState → Start → (old new taken all : ℕ) → (Answered : Type 0) → Type 0
CountsPairs game question s f old new taken all Answered = CountsTaken game question s f old new taken all Answered Answered
