-- Patterns that are dead ends, asked at the vertices of a word.
use Rattle.std.specs.Prelude.{◌≡◌, ℕ, ◌+◌, ◌*◌, ◌%◌, ◌<◌, ◌↔◌, List, ◌++◌, Contains}
use Rattle.std.specs.Int.{bit_at}
use Rattle.rbg_rules.specs.Meaning.{IsPatternAt, Start, AbstractGame, AbstractState, Applies}
use Rattle.rbg_state.specs.History.{History}
use Rattle.rbg_flat.specs.declared.flat.Flat.{Flat}
use Rattle.rbg_flat.specs.Ways.{Way}
use Rattle.rbg_flat.specs.internal.Gathering.{Lists, IsBitOf, at_position}
use Rattle.rbg_flat.specs.internal.Leading.{IsOnBoard}
use Rattle.rbg_flat.specs.internal.Sets.{IsMarked, IsOpen, weight}
use Rattle.rbg_search.specs.Closure.{at_vertex, IsReached}
use Rattle.rbg_search.specs.Searching.{Searching}
use Rattle.rbg_search.specs.internal.BySets.{AreAsked, HasSetsFor, IsBegunBySets}
use Rattle.rbg_search.specs.internal.Finding.{Finds}

-- The bit of a word in column c is a vertex that waits to be asked about the pattern at position p.
pub record IsWaiting (flat : Flat) (p c b : ℕ) : Type 0 where
  pub small : b < 64
  pub is_open : IsOpen flat.sets (c * 64 + b) p
  pub marked : IsMarked flat.sets (c * 64 + b) p

-- Each bit of the word does, and is on the board.
pub record AreWaiting (game : AbstractGame) (flat : Flat) (p c word : ℕ) : Type 0 where
  pub board : IsOnBoard game c word
  pub waits : (b : ℕ) → bit_at word b ≡ 1 → IsWaiting flat p c b

-- Each vertex is reached, and wasn't asked about the pattern at position p.
pub record AreFresh
    (h : Searching) (s : History) (f : Start) (done : List (ℕ × ℕ)) (p : ℕ) (vertices : List ℕ)
    : Type 0
  where
    pub reached : (v : ℕ) → Contains vertices v → IsReached h.game s.state f v p
    pub fresh : (v : ℕ) → Contains vertices v → ¬ Contains done (v, p)

-- It is told where the pattern at position p is valid, at the vertices of a word in column c.
abbrev pub TellsValid : AbstractGame → AbstractState → (p c asked held : ℕ) → Type 0
TellsValid game s p c asked held =
    (v : ℕ) → IsBitOf c asked v → (bit_at held (v % 64) ≡ 1) ↔ Applies game p (at_vertex s v) (at_vertex s v)

-- The pattern at position p was asked at the vertices of a word in column c, and `held` tells where it is valid. The search
-- was h before that, and is k after it.
pub record AsksDead (h k : Searching) (l : History) (p c asked held : ℕ) : Type 0 where
  pub vertices : List ℕ
  pub lists : Lists (IsBitOf c asked) vertices
  pub told : TellsValid h.game l.state p c asked held
  pub finds :
      (first : Searching) (s : History) (f : Start) (done : List (ℕ × ℕ)) → Finds first h s l f done →
      IsPatternAt first.game.rules p →
      AreFresh first s f done p vertices →
      Finds first k s l f (done ++ at_position p vertices)

-- They were taken.
pub record TakesWord
    (way : Way) (game : AbstractGame) (s : AbstractState) (old new : Flat) (p c asked held : ℕ)
    : Type 0
  where
    pub sets : HasSetsFor game new
    pub begun :
        (f : Start) → TellsValid game s p c asked held → IsBegunBySets way game s f old → IsBegunBySets way game s f new
    pub done :
        (pairs : List (ℕ × ℕ)) (vertices : List ℕ) → Lists (IsBitOf c asked) vertices → AreAsked game old pairs →
        AreAsked game new (pairs ++ at_position p vertices)
    pub lighter : (b : ℕ) → bit_at asked b ≡ 1 → weight new.sets < weight old.sets
