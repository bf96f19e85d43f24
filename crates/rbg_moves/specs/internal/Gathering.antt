-- Moves that are gathered in one list, part by part.
use Rattle.std.specs.Prelude.{◌≡◌, ◌≢◌, ℕ, ◌-◌, ◌<◌, ◌≤◌, ◌⊎◌, List, [], ◌∷◌, ◌++◌, length, map, All, AllPairs, Contains, Bool, true, false}
use Rattle.std.specs.List.Sorted.{IsPermutation}
use Rattle.rbg_base.specs.Move.{most_pairs, IsMoveLength}
use Rattle.rbg_rules.specs.Meaning.{Expression, IsSwitchAt, AbstractGame, AbstractPlace, point_of, IsLegal}
use Rattle.rbg_search.specs.Flat.{IsFlatPart}
use Rattle.rbg_search.specs.Searching.{Searching}
use Rattle.rbg_moves.specs.internal.Asking.{CountsAnswer, question_of, is_cut}

-- A list of pairs that is wanted and not among these. Where there is room for none, `first` is this list after the
-- front, and as long as a move may be.
pub record IsMissing
    (IsWanted : List (ℕ × ℕ) → Type 0) (front : List (ℕ × ℕ)) (max : ℕ) (found : List (List (ℕ × ℕ)))
    (first : List (ℕ × ℕ))
    : Type 0
  where
    pub pairs : List (ℕ × ℕ)
    pub wanted : IsWanted pairs
    pub missing : ¬ Contains found pairs
    pub told : max ≡ 0 → first ≡ front ++ pairs
    pub sized : max ≡ 0 → IsMoveLength (length first)

-- The new list is the old one with lists of pairs that are wanted, each once and each after these first pairs. If it
-- is not cut, they are all that are wanted. If it is cut, the new list is full, and another one is wanted.
pub record Gathers
    (IsWanted : List (ℕ × ℕ) → Type 0) (front : List (ℕ × ℕ)) (max : ℕ) (old new : List (List (ℕ × ℕ)))
    (first : List (ℕ × ℕ)) (cut : Bool)
    : Type 0
  where
    pub found : List (List (ℕ × ℕ))
    pub grown : new ≡ old ++ map (λ ps. front ++ ps) found
    pub wanted : All IsWanted found
    pub different : AllPairs (λ a b. a ≢ b) found
    pub few : length new ≤ max
    pub whole : cut ≡ false → (ps : List (ℕ × ℕ)) → IsWanted ps → Contains found ps
    pub full : cut ≡ true → length new ≡ max
    pub more : cut ≡ true → IsMissing IsWanted front max found first

-- The list begins with the pair, and the rest of it is wanted.
pub record IsBeyond (q : ℕ × ℕ) (IsWanted : List (ℕ × ℕ) → Type 0) (ps : List (ℕ × ℕ)) : Type 0 where
  pub rest : List (ℕ × ℕ)
  pub is : ps ≡ q ∷ rest
  pub wanted : IsWanted rest

-- The list begins with such a pair.
abbrev pub Begins : (ℕ × ℕ → Type 0) → List (ℕ × ℕ) → Type 0
Begins IsTaken [] = ⊥
Begins IsTaken (q ∷ qs) = IsTaken q

-- The list is a legal move and begins with such a pair.
pub record IsLegalBy
    (game : AbstractGame) (place : AbstractPlace) (IsTaken : ℕ × ℕ → Type 0) (ps : List (ℕ × ℕ))
    : Type 0
  where
    pub legal : IsLegal game place ps
    pub begins : Begins IsTaken ps

-- the pair is of a switch, and is one of these
abbrev pub IsSwitchAmong : Expression → List (ℕ × ℕ) → ℕ × ℕ → Type 0
IsSwitchAmong rules done q = IsSwitchAt rules q.1 × Contains done q

-- the pair is of a switch, or is one of these
abbrev pub IsSwitchOr : Expression → List (ℕ × ℕ) → ℕ × ℕ → Type 0
IsSwitchOr rules done q = IsSwitchAt rules q.1 ⊎ Contains done q

-- The new list is the old one with the moves of one switch that is done, wherever the pairs are those that come next.
pub record ListsSwitches
    (game : AbstractGame) (pairs done front : List (ℕ × ℕ)) (max : ℕ) (old new : List (List (ℕ × ℕ)))
    (first : List (ℕ × ℕ)) (cut : Bool)
    : Type 0
  where
    pub lists :
        (place : AbstractPlace) (ends : Bool) →
        IsFlatPart game place.state (point_of place.last) pairs ends →
        Gathers (IsLegalBy game place (IsSwitchAmong game.rules done)) front max old new first cut

-- The switches among the pairs were taken, and the others are left.
pub record LeavesOthers (rules : Expression) (old new : List (ℕ × ℕ)) : Type 0 where
  pub switches : List (ℕ × ℕ)
  pub moves : IsPermutation old (switches ++ new)
  pub switching : All (λ q. IsSwitchAt rules q.1) switches
  pub plain : All (λ q. ¬ IsSwitchAt rules q.1) new

-- The move of the front and the pair was added to a list that may hold so many; or, where there was no room, the pair to
-- the front.
abbrev pub AddsMove : ℕ → List (List (ℕ × ℕ)) → List (List (ℕ × ℕ)) → List (ℕ × ℕ) → List (ℕ × ℕ) → ℕ × ℕ → Bool → Type 0
AddsMove max old new front front' q true = (length old ≡ max) × ((new ≡ old) × (front' ≡ front ++ q ∷ []))
AddsMove max old new front front' q false =
    (length old < max) × ((new ≡ old ++ (front ++ q ∷ []) ∷ []) × (front' ≡ front))

-- A walk from a place gathered its moves after these first pairs, which are fewer than a move may have, and counted what
-- its question takes up.
pub record IsWalked
    (old new : Searching) (place : AbstractPlace) (front : List (ℕ × ℕ)) (max : ℕ)
    (had has : List (List (ℕ × ℕ))) (first : List (ℕ × ℕ)) (ended : Bool)
    : Type 0
  where
    pub short : length front < most_pairs
    pub gathers : Gathers (IsLegal old.game place) front max had has first ended
    pub counts :
        CountsAnswer old new (is_cut ended max) (question_of max)
        place.state (point_of place.last) (most_pairs - length front)
