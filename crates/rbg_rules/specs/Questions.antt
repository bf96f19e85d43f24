-- The openings of a question, and when it is heavy. (All of it is own: the paper sets no limits.)
use Rattle.std.specs.Prelude.{◌≡◌, ℕ, ◌+◌, ◌⊎◌, ◌≢◌, List, [], ◌∷◌, ◌++◌, length, map, All, AllPairs, Bool, false}
use Rattle.rbg_rules.specs.Positions.{IsSwitchAt, IsPatternAt, HasNoSwitch, inside}
use Rattle.rbg_rules.specs.Words.{Start, beginning, Follows, Ends}
use Rattle.rbg_rules.specs.State.{AbstractGame, AbstractState}
use Rattle.rbg_rules.specs.Moves.{RunPairs}

-- The kinds of question, asked of a semi-state and of a point in the rules: whether these pairs are a move; for some
-- move; for the moves; which modifiers are reached without one; whether a word of a pattern's inside runs.
pub data Question : Type 0 where
  try_move : List (ℕ × ℕ) → Question
  find_move : Question
  list_moves : Question
  reach : Question
  pattern : Question

-- One step of a search: a modifier was applied, or a pattern was asked, at a vertex, by its position.
pub data Item : Type 0 where
  modifier_at pattern_at : (vertex position : ℕ) → Item

abbrev pub items_of : List (ℕ × ℕ) → List Item
items_of ps = map (λ q. modifier_at q.0 q.1) ps

-- m runs from s without a switch, follows from f, ends in t and leaves these pairs.
pub record RunsOn
    (game : AbstractGame) (s : AbstractState) (f : Start) (m : List ℕ) (t : AbstractState) (ps : List (ℕ × ℕ))
    : Type 0
  where
    pub no_switch : HasNoSwitch game.rules m
    pub follows : Follows game.rules f m
    pub runs : RunPairs game m s t ps

-- The list is a move from s and f: it is the pairs of such a run and of a switch after it.
pub record IsMove (game : AbstractGame) (s : AbstractState) (f : Start) (ps : List (ℕ × ℕ)) : Type 0 where
  pub before : List ℕ
  pub last : ℕ
  pub end : AbstractState
  pub no_switch : HasNoSwitch game.rules before
  pub switches : IsSwitchAt game.rules last
  pub follows : Follows game.rules f (before ++ last ∷ [])
  pub runs : RunPairs game (before ++ last ∷ []) s end ps

-- Some word runs from s: the answer to a pattern's question is yes. (A negative pattern is then not valid.)
pub record SomeWordRuns (game : AbstractGame) (s : AbstractState) (f : Start) : Type 0 where
  pub word : List ℕ
  pub end : AbstractState
  pub pairs : List (ℕ × ℕ)
  pub ends : Ends game.rules f word
  pub runs : RunPairs game word s end pairs

-- After the modifiers ps, and without one more, there is an answer: a switch, or for a pattern the end of a word.
abbrev pub AnswersAfter : AbstractGame → Question → AbstractState → Start → List (ℕ × ℕ) → Type 0
AnswersAfter game find_move s f ps =
    (m : List ℕ) × (t : AbstractState) × (q : ℕ) ×
    RunsOn game s f m t ps ×
    Follows game.rules f (m ++ q ∷ []) ×
    IsSwitchAt game.rules q
AnswersAfter game pattern s f ps = (m : List ℕ) × (t : AbstractState) × RunsOn game s f m t ps × Ends game.rules f m
AnswersAfter game (try_move qs) s f ps = ⊥
AnswersAfter game list_moves s f ps = ⊥
AnswersAfter game reach s f ps = ⊥

-- ps is the first part of the list, but not all of it.
abbrev pub IsProperPrefix : List (ℕ × ℕ) → List (ℕ × ℕ) → Type 0
IsProperPrefix ps whole = (more : List (ℕ × ℕ)) × (more ≢ []) × (whole ≡ ps ++ more)

-- The question may go as far as the modifiers ps: `try_move` follows its own pairs but the last, `reach` takes no
-- modifier, and `find_move` and `pattern` don't go past an answer.
abbrev pub GoesTo : AbstractGame → Question → AbstractState → Start → List (ℕ × ℕ) → Type 0
GoesTo game (try_move qs) s f ps = IsProperPrefix ps qs
GoesTo game reach s f ps = ps ≡ []
GoesTo game list_moves s f ps = Unit {0}
GoesTo game find_move s f ps = (qs : List (ℕ × ℕ)) → IsProperPrefix qs ps → ¬ AnswersAfter game find_move s f qs
GoesTo game pattern s f ps = (qs : List (ℕ × ℕ)) → IsProperPrefix qs ps → ¬ AnswersAfter game pattern s f qs

-- A list of items by which the question opens a semi-state. Either the modifiers of a run; or those, then a pattern
-- that follows the run, asked at the vertex where it ended, then an opening of that pattern's own question.
pub data Opening (game : AbstractGame) : Question → AbstractState → Start → List Item → Type 0 where
  at :
      {question : Question} {s : AbstractState} {f : Start} {m : List ℕ} {t : AbstractState} {ps : List (ℕ × ℕ)} →
      RunsOn game s f m t ps →
      GoesTo game question s f ps →
      Opening game question s f (items_of ps)
  beyond :
      {question : Question} {s : AbstractState} {f : Start} {m : List ℕ} {t : AbstractState} {ps : List (ℕ × ℕ)} {p : ℕ}
      {more : List Item} →
      RunsOn game s f m t ps →
      GoesTo game question s f ps →
      Follows game.rules f (m ++ p ∷ []) →
      IsPatternAt game.rules p →
      Opening game pattern t (beginning (inside p)) more →
      Opening game question s f (items_of ps ++ pattern_at t.vertex p ∷ more)

-- There are at least `many` different openings.
pub record HasOpenings
    (game : AbstractGame) (question : Question) (s : AbstractState) (f : Start) (many : ℕ)
    : Type 0
  where
    pub openings : List (List Item)
    pub different : AllPairs (λ o o'. o ≢ o') openings
    pub opened : All (Opening game question s f) openings
    pub count : length openings ≡ many

-- An opening has this number of modifiers in a row, with no pattern between.
pub record IsDeep
    (game : AbstractGame) (question : Question) (s : AbstractState) (f : Start) (modifiers : ℕ)
    : Type 0
  where
    pub before : List Item
    pub row : List (ℕ × ℕ)
    pub later : List Item
    pub opened : Opening game question s f (before ++ items_of row ++ later)
    pub count : length row ≡ modifiers

-- Heavy is deep, or wide: more different openings than allowed.
abbrev pub IsWide : AbstractGame → Question → AbstractState → Start → ℕ → Type 0
IsWide game question s f openings = HasOpenings game question s f (openings + 1)

abbrev pub IsHeavy : AbstractGame → Question → AbstractState → Start → (openings modifiers : ℕ) → Type 0
IsHeavy game question s f openings modifiers = IsDeep game question s f modifiers ⊎ IsWide game question s f openings

-- Every search that answers the question takes up the list of modifiers ps, in whatever order it searches: the empty
-- list; and every list if the answer needs all of them (it is no, or isn't cut, or is a place). If `try_move` finds no
-- place, no list is forced, not even the empty one. Only the moves of `list_moves` can be cut.
abbrev pub IsForcedTo : AbstractGame → (cut : Bool) → Question → AbstractState → Start → List (ℕ × ℕ) → Type 0
IsForcedTo game cut (try_move qs) s f ps = IsMove game s f qs
IsForcedTo game cut find_move s f ps = (ps ≡ []) ⊎ ((qs : List (ℕ × ℕ)) → ¬ IsMove game s f qs)
IsForcedTo game cut list_moves s f ps = (ps ≡ []) ⊎ (cut ≡ false)
IsForcedTo game cut reach s f ps = Unit {0}
IsForcedTo game cut pattern s f ps = (ps ≡ []) ⊎ ¬ SomeWordRuns game s f

-- An opening that every search which answers the question takes up, for an answer that is cut or one that isn't.
pub data Forced (game : AbstractGame) (cut : Bool) : Question → AbstractState → Start → List Item → Type 0 where
  at :
      {question : Question} {s : AbstractState} {f : Start} {m : List ℕ} {t : AbstractState} {ps : List (ℕ × ℕ)} →
      RunsOn game s f m t ps →
      GoesTo game question s f ps →
      IsForcedTo game cut question s f ps →
      Forced game cut question s f (items_of ps)
  beyond :
      {question : Question} {s : AbstractState} {f : Start} {m : List ℕ} {t : AbstractState} {ps : List (ℕ × ℕ)} {p : ℕ}
      {more : List Item} →
      RunsOn game s f m t ps →
      GoesTo game question s f ps →
      IsForcedTo game cut question s f ps →
      Follows game.rules f (m ++ p ∷ []) →
      IsPatternAt game.rules p →
      Forced game cut pattern t (beginning (inside p)) more →
      Forced game cut question s f (items_of ps ++ pattern_at t.vertex p ∷ more)

-- There are at least `many` different forced openings.
pub record HasForced
    (game : AbstractGame) (cut : Bool) (question : Question) (s : AbstractState) (f : Start) (many : ℕ)
    : Type 0
  where
    pub openings : List (List Item)
    pub different : AllPairs (λ o o'. o ≢ o') openings
    pub forced : All (Forced game cut question s f) openings
    pub count : length openings ≡ many

-- A forced opening has this number of modifiers in a row, with no pattern between.
pub record IsForcedDeep
    (game : AbstractGame) (cut : Bool) (question : Question) (s : AbstractState) (f : Start) (modifiers : ℕ)
    : Type 0
  where
    pub before : List Item
    pub row : List (ℕ × ℕ)
    pub later : List Item
    pub forced : Forced game cut question s f (before ++ items_of row ++ later)
    pub count : length row ≡ modifiers
