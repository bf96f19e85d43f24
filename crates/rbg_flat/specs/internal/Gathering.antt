-- How what was found is gathered, word by word.
use Rattle.std.specs.Prelude.{◌≡◌, ◌≢◌, ◌↔◌, ℕ, ◌/◌, ◌%◌, ◌≤◌, List, ◌++◌, length, map, Bool, true, false, AllPairs, Contains}
use Rattle.std.specs.Int.{bit_at}
use Rattle.rbg_rules.specs.Meaning.{IsModifierAt, AbstractGame, AbstractState, Applies}
use Rattle.rbg_flat.specs.internal.Sets.{SetsOfVertices, IsMarked}

-- The items are those of which something is so, each once.
pub record Lists {X : Type 0} (Is : X → Type 0) (items : List X) : Type 0 where
  pub all : (x : X) → Contains items x ↔ Is x
  pub different : AllPairs (λ a b. a ≢ b) items

-- each vertex with the position
abbrev pub at_position : ℕ → List ℕ → List (ℕ × ℕ)
at_position p vertices = map (λ (v : ℕ). (v, p)) vertices

-- The vertex is a bit of the word in that column.
pub record IsBitOf (c word v : ℕ) : Type 0 where
  pub column : v / 64 ≡ c
  pub set : bit_at word (v % 64) ≡ 1

-- The vertices of a word, each with the position, stand after what was there.
pub record PushesWord (old new : List (ℕ × ℕ)) (p c word : ℕ) : Type 0 where
  pub vertices : List ℕ
  pub lists : Lists (IsBitOf c word) vertices
  pub grown : new ≡ old ++ at_position p vertices

-- So many vertices of a word were counted, and kept where that is wanted.
pub record Gathers (In : ℕ → Type 0) (old new : List (ℕ × ℕ)) (p : ℕ) (keeps : Bool) (many most : ℕ) : Type 0 where
  pub vertices : List ℕ
  pub lists : Lists In vertices
  pub count : many ≡ length vertices
  pub kept : keeps ≡ true → new ≡ old ++ at_position p vertices
  pub left : keeps ≡ false → new ≡ old
  pub few : many ≤ most

-- A modifier stands at the position, and is valid at each vertex.
pub record Keeps (game : AbstractGame) (s : AbstractState) (p : ℕ) : Type 0 where
  pub modifies : IsModifierAt game.rules p
  pub valid : (v : ℕ) → (t : AbstractState) × Applies game p (record s { vertex = v }) t

-- It was met at first, and is forgotten by now.
pub record IsGone (first now : SetsOfVertices) (pair : ℕ × ℕ) : Type 0 where
  pub marked : IsMarked first pair.0 pair.1
  pub forgotten : ¬ IsMarked now pair.0 pair.1

pub record IsKept (game : AbstractGame) (s : AbstractState) (first now : SetsOfVertices) (pair : ℕ × ℕ) : Type 0 where
  pub gone : IsGone first now pair
  pub keeps : Keeps game s pair.1

-- What is forgotten was counted, and kept where it is a modifier that is valid.
pub record Gathered
    (game : AbstractGame) (s : AbstractState) (first now : SetsOfVertices) (found : List (ℕ × ℕ)) (count : ℕ)
    : Type 0
  where
    pub under : (v p : ℕ) → IsMarked now v p → IsMarked first v p
    pub pairs : List (ℕ × ℕ)
    pub lists : Lists (IsGone first now) pairs
    pub count_is : count ≡ length pairs
    pub kept : Lists (IsKept game s first now) found
