-- Laws that the definitions have to obey, in the words of the language. The module `laws` proves each.
use Rattle.std.specs.Prelude.{◌≡◌, ◌≢◌, ℕ, ◌⊎◌, ◌↔◌, List, [], ◌∷◌, ◌++◌, All, Contains, Some, slice_get}
use Rattle.std.specs.List.{concat}
use Rattle.rbg_rules.specs.Expression.{AbstractAction, positive, negative, Expression, star, sequence_of, choice_of}
use Rattle.rbg_rules.specs.Positions.{HasAction, HasOwnAction, IsNumbered, Level, inside, IsLevel}
use Rattle.rbg_rules.specs.Words.{Word, Start, beginning, after, Follows, Ends}
use Rattle.rbg_rules.specs.State.{AbstractGame, AbstractState, start_of, IsStateOf}
use Rattle.rbg_rules.specs.Actions.{Applies, Run}
use Rattle.rbg_rules.specs.Moves.{RunPairs, AbstractPlace, Legal, IsLegal, Finished, point_of}
use Rattle.rbg_rules.specs.Questions.{Question, try_move, IsMove, SomeWordRuns, Opening}
use Rattle.rbg_rules.specs.Games.{IsGame, HasNoEmptySum}

-- w is a word of the first part, then a word of the second, and so on.
abbrev pub IsJoinOfWords : List Expression → List ℕ → Type 0
IsJoinOfWords [] w = w ≡ []
IsJoinOfWords (x ∷ xs) w = (u : List ℕ) × (v : List ℕ) × Word x u × IsJoinOfWords xs v × (w ≡ u ++ v)

-- The words of a sequence are the joins of one word of each part in order.
abbrev pub SequenceLaw : Type 0
SequenceLaw = (parts : List Expression) (w : List ℕ) → Word (sequence_of parts) w ↔ IsJoinOfWords parts w

-- The words of a sum are the words of its parts.
abbrev pub SumLaw : Type 0
SumLaw =
    (parts : List Expression) (w : List ℕ) →
    Word (choice_of parts) w ↔ ((k : ℕ) × (x : Expression) × (slice_get parts k ≡ Some x) × Word x w)

-- The words of a star are the joins of finitely many words of its part.
abbrev pub StarLaw : Type 0
StarLaw =
    (x : Expression) (w : List ℕ) →
    Word (star x) w ↔ ((ws : List (List ℕ)) × All (Word x) ws × (concat ws ≡ w))

-- An action belongs directly to at most one level.
abbrev pub OneLevelLaw : Type 0
OneLevelLaw =
    (rules : Expression) → IsNumbered rules →
    (level level' : Level) (x x' : Expression) → IsLevel rules level x → IsLevel rules level' x' →
    (i : ℕ) (a a' : AbstractAction) → HasOwnAction x i a → HasOwnAction x' i a' →
    (level ≡ level') × (x ≡ x')

-- An action of the rules belongs directly to some level.
abbrev pub SomeLevelLaw : Type 0
SomeLevelLaw =
    (rules : Expression) (i : ℕ) (a : AbstractAction) → HasAction rules i a →
    (level : Level) × (x : Expression) × IsLevel rules level x × HasOwnAction x i a

-- A list of positions that runs leaves a list of pairs, and one that leaves pairs runs.
abbrev pub PairsLaw : Type 0
PairsLaw =
    (game : AbstractGame) (w : List ℕ) (s t : AbstractState) →
    Run game w s t ↔ ((ps : List (ℕ × ℕ)) × RunPairs game w s t ps)

-- The positions of a word are those of its own level's actions.
abbrev pub OwnWordLaw : Type 0
OwnWordLaw =
    (x : Expression) (w : List ℕ) → Word x w →
    (i : ℕ) → Contains w i → (a : AbstractAction) × HasOwnAction x i a

-- A run of a joined list is a run of the first and then a run of the second.
abbrev pub RunLaw : Type 0
RunLaw =
    (game : AbstractGame) (u v : List ℕ) (s t : AbstractState) →
    Run game (u ++ v) s t ↔ ((middle : AbstractState) × Run game u s middle × Run game v middle t)

-- If the positions are numbered, a run from one semi-state ends in at most one.
abbrev pub OneRunLaw : Type 0
OneRunLaw =
    (game : AbstractGame) → IsNumbered game.rules →
    (w : List ℕ) (s t t' : AbstractState) → Run game w s t → Run game w s t' → t ≡ t'

-- A pattern leaves the semi-state as it was.
abbrev pub PatternLaw : Type 0
PatternLaw =
    (game : AbstractGame) → IsNumbered game.rules →
    (p : ℕ) (x : Expression) → HasAction game.rules p (positive x) ⊎ HasAction game.rules p (negative x) →
    (s t : AbstractState) → Applies game p s t → t ≡ s

-- A positive pattern is valid exactly if some word of its inner expression runs from there by the game's own actions.
abbrev pub PositiveLaw : Type 0
PositiveLaw =
    (game : AbstractGame) → IsNumbered game.rules →
    (p : ℕ) (x : Expression) → HasAction game.rules p (positive x) → (s : AbstractState) →
    Applies game p s s ↔ ((w : List ℕ) × (end : AbstractState) × Word x w × Run game w s end)

-- A negative pattern is valid exactly if none does.
abbrev pub NegativeLaw : Type 0
NegativeLaw =
    (game : AbstractGame) → IsNumbered game.rules →
    (p : ℕ) (x : Expression) → HasAction game.rules p (negative x) → (s : AbstractState) →
    Applies game p s s ↔ ((w : List ℕ) (end : AbstractState) → Word x w → ¬ Run game w s end)

-- Legal moves are the moves of the question at the place, and play is finished if there is none.
abbrev pub MoveLaw : Type 0
MoveLaw =
    (game : AbstractGame) (place : AbstractPlace) →
    ((ps : List (ℕ × ℕ)) → IsLegal game place ps ↔ IsMove game place.state (point_of place.last) ps) ×
    (Finished game place ↔ ((ps : List (ℕ × ℕ)) → ¬ IsMove game place.state (point_of place.last) ps))

-- A place and a list of pairs reach at most one place.
abbrev pub OnePlaceLaw : Type 0
OnePlaceLaw =
    (game : AbstractGame) → IsNumbered game.rules →
    (from : AbstractPlace) (ps : List (ℕ × ℕ)) (to to' : AbstractPlace) →
    Legal game from ps to → Legal game from ps to' → to ≡ to'

-- In an accepted game the start is one of its semi-states, and its actions lead from one of its semi-states to another
-- one.
abbrev pub StateLaw : Type 0
StateLaw =
    (game : AbstractGame) → IsGame game →
    IsStateOf game (start_of game) ×
    ((p : ℕ) (s t : AbstractState) → IsStateOf game s → Applies game p s t → IsStateOf game t)

-- An expression in which no sum is empty has a word.
abbrev pub WordLaw : Type 0
WordLaw = (x : Expression) → HasNoEmptySum x → (w : List ℕ) × Word x w

-- Neighbours decide: in numbered rules a list that goes through position j follows exactly if its part up to j follows
-- and the rest follows j; and it ends a word exactly if the part up to j follows and the rest ends a word after j.
abbrev pub LocalityLaw : Type 0
LocalityLaw =
    (rules : Expression) → IsNumbered rules → (f : Start) (m : List ℕ) (j : ℕ) (later : List ℕ) →
    (Follows rules f (m ++ j ∷ later) ↔ (Follows rules f (m ++ j ∷ []) × Follows rules (after j) later)) ×
    (Ends rules f (m ++ j ∷ later) ↔ (Follows rules f (m ++ j ∷ []) × Ends rules (after j) later))

-- The points in the rules from which a list may follow: the beginning of a level, or the point after one of their
-- actions.
abbrev pub IsStart : Expression → Start → Type 0
IsStart rules (beginning level) = (x : Expression) × IsLevel rules level x
IsStart rules (after i) = (a : AbstractAction) × HasAction rules i a

-- If no sum is empty, each own action is in some word.
abbrev pub TrimLaw : Type 0
TrimLaw =
    (x : Expression) → HasNoEmptySum x → (i : ℕ) (a : AbstractAction) → HasOwnAction x i a →
    (u : List ℕ) × (v : List ℕ) × Word x (u ++ i ∷ v)

-- .. and so a list may end at any point: the empty list follows everywhere.
abbrev pub EmptyLaw : Type 0
EmptyLaw = (rules : Expression) → HasNoEmptySum rules → (f : Start) → IsStart rules f → Follows rules f []

-- .. and the empty list is an opening everywhere, of every question but that for the move of no pairs.
abbrev pub EmptyOpeningLaw : Type 0
EmptyOpeningLaw =
    (game : AbstractGame) → HasNoEmptySum game.rules → (f : Start) → IsStart game.rules f →
    (question : Question) → question ≢ try_move [] → (s : AbstractState) → Opening game question s f []

-- The answer of a pattern's question: a positive pattern is valid exactly if some word of its inside runs, a negative
-- one exactly if none does.
abbrev pub AnswerLaw : Type 0
AnswerLaw =
    (game : AbstractGame) → IsNumbered game.rules → (p : ℕ) (x : Expression) (s : AbstractState) →
    (HasAction game.rules p (positive x) → Applies game p s s ↔ SomeWordRuns game s (beginning (inside p))) ×
    (HasAction game.rules p (negative x) → Applies game p s s ↔ (¬ SomeWordRuns game s (beginning (inside p))))

-- Two semi-states differ in nothing but the current vertex.
pub record SameButVertex (s t : AbstractState) : Type 0 where
  pub player : s.player ≡ t.player
  pub pieces : s.pieces ≡ t.pieces
  pub values : s.values ≡ t.values

-- The actions of the pairs, each applied at its pair's vertex, take s to t.
pub data ByPairs (game : AbstractGame) : AbstractState → List (ℕ × ℕ) → AbstractState → Type 0 where
  none : {s : AbstractState} → ByPairs game s [] s
  next :
      {v p : ℕ} {ps : List (ℕ × ℕ)} {s middle t : AbstractState} →
      Applies game p (record s { vertex = v }) middle →
      ByPairs game middle ps t →
      ByPairs game s ((v, p) ∷ ps) t

-- Pairs fix the state: two runs from one semi-state with the same pairs end in the same semi-state but for the current
-- vertex, and the end of such a run is, but for the current vertex, what the pairs' actions make at their vertices.
abbrev pub PairsStateLaw : Type 0
PairsStateLaw =
    (game : AbstractGame) → IsNumbered game.rules → (w : List ℕ) (s t : AbstractState) (ps : List (ℕ × ℕ)) →
    RunPairs game w s t ps →
    ((w' : List ℕ) (t' : AbstractState) → RunPairs game w' s t' ps → SameButVertex t t') ×
    ((u : AbstractState) × ByPairs game s ps u × SameButVertex t u)
