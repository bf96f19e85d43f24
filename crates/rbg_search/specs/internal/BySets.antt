-- A flat part that is being found by sets of vertices.
use Rattle.std.specs.Prelude.{◌↔◌, ℕ, ◌<◌, ◌≤◌, List, [], ◌∷◌, ◌++◌, length, Bool, Contains, IsTrue}
use Rattle.rbg_rules.specs.Meaning.{IsGame, IsPatternAt, Start, AbstractGame, AbstractState, Applies}
use Rattle.rbg_state.specs.History.{History}
use Rattle.rbg_flat.specs.declared.flat.Flat.{Flat}
use Rattle.rbg_flat.specs.Ways.{Way}
use Rattle.rbg_flat.specs.internal.Begun.{IsBegun}
use Rattle.rbg_flat.specs.internal.Leading.{AreSizedFor, AreOn}
use Rattle.rbg_flat.specs.internal.Sets.{IsMarked, IsOpen, IsDone, WaitsLast, weight}
use Rattle.rbg_search.specs.Searching.{Searching}
use Rattle.rbg_search.specs.Closure.{at_vertex}
use Rattle.rbg_search.specs.internal.Finding.{Finds}

-- What was found so far is right.
pub record IsBegunBySets (way : Way) (game : AbstractGame) (s : AbstractState) (f : Start) (flat : Flat) : Type 0 where
  pub begun : IsBegun way game s f (IsMarked flat.sets) (IsOpen flat.sets) flat.ends

-- There are sets for the game, and all that was met is of the game.
pub record HasSetsFor (game : AbstractGame) (flat : Flat) : Type 0 where
  pub sized : AreSizedFor game flat.sets
  pub on : AreOn game flat.sets

-- Nothing is left to be looked at.
pub record IsWhole (flat : Flat) : Type 0 where
  pub closed : (v p : ℕ) → ¬ IsOpen flat.sets v p

-- The pairs are the patterns that were asked.
pub record AreAsked (game : AbstractGame) (flat : Flat) (pairs : List (ℕ × ℕ)) : Type 0 where
  pub done : (v p : ℕ) → Contains pairs (v, p) → IsDone flat.sets v p
  pub all : (v p : ℕ) → IsPatternAt game.rules p → IsDone flat.sets v p → Contains pairs (v, p)

-- A flat part is begun, and nothing was asked.
pub record BeginsBySets (way : Way) (game : AbstractGame) (s : AbstractState) (f : Start) (flat : Flat) : Type 0 where
  pub lawful : IsGame game
  pub sets : HasSetsFor game flat
  pub begun : IsBegunBySets way game s f flat
  pub asked : AreAsked game flat []

-- A flat part goes on, and nothing is asked.
pub record AdvancesBySets (way : Way) (game : AbstractGame) (s : AbstractState) (old new : Flat) : Type 0 where
  pub sets : HasSetsFor game new
  pub begun : (f : Start) → IsBegunBySets way game s f old → IsBegunBySets way game s f new
  pub asked : (pairs : List (ℕ × ℕ)) → AreAsked game old pairs → AreAsked game new pairs
  pub lighter : weight new.sets ≤ weight old.sets

-- The vertex is to be asked about the pattern at the position.
pub record IsToBeAsked (game : AbstractGame) (flat : Flat) (v p : ℕ) : Type 0 where
  pub pattern : IsPatternAt game.rules p
  pub vertex : v < length game.board.first
  pub marked : IsMarked flat.sets v p
  pub is_open : IsOpen flat.sets v p
  pub last : WaitsLast flat.sets v p

-- It was asked, and the pattern is valid there or isn't.
pub record TakesBySets (way : Way) (game : AbstractGame) (s : AbstractState) (old new : Flat) (v p : ℕ) (valid : Bool) : Type 0 where
  pub sets : HasSetsFor game new
  pub begun :
      (f : Start) →
      IsTrue valid ↔ Applies game p (at_vertex s v) (at_vertex s v) →
      IsBegunBySets way game s f old →
      IsBegunBySets way game s f new
  pub asked : (pairs : List (ℕ × ℕ)) → AreAsked game old pairs → AreAsked game new (pairs ++ (v, p) ∷ [])
  pub lighter : weight new.sets < weight old.sets

-- A search finds a flat part by sets. The pairs are the patterns that were asked.
pub record FindsBySets (way : Way) (h k : Searching) (s l : History) (f : Start) (flat : Flat) : Type 0 where
  pub pairs : List (ℕ × ℕ)
  pub finds : Finds h k s l f pairs
  pub asked : AreAsked h.game flat pairs
  pub sets : HasSetsFor h.game flat
  pub begun : IsBegunBySets way h.game s.state f flat
