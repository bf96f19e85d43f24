-- What is written of matches after each legal move, and of one match.
use Rattle.std.specs.Prelude.{◌≡◌, ℕ, List, ◌++◌, length, map, All, Bool, true, false}
use Rattle.std.specs.List.{flat_map}
use Rattle.rbg_rules.specs.Meaning.{AbstractGame, AbstractPlace, Finished}
use Rattle.rbg_wire.specs.Lines.{line_of}
use Rattle.rbg_wire.specs.Messages.{pairs_text}
use Rattle.rbg_questions.specs.Answers.{Answer, answer_text, searched, sampled as sampled_answer}
use Rattle.rbg_questions.specs.Answering.{StandsAt}
use Rattle.rbg_questions.specs.Searching.{AreSearched, IsSampled, IsSearched, Searched, searched_line}
use Rattle.rbg_questions.specs.Sessions.{Leads}

-- The line of the move of these pairs stands after the bytes that were there.
pub record WritesOne
    (game : AbstractGame) (place : AbstractPlace) (count : ℕ) (pairs : List (ℕ × ℕ)) (before after : List ℕ)
    : Type 0
  where
    pub one : Searched
    pub same : one.pairs ≡ pairs
    pub played : IsSearched game place count one
    pub told : after ≡ before ++ searched_line (length game.players) one

-- The lines of these moves do.
pub record WritesMoves
    (game : AbstractGame) (place : AbstractPlace) (count : ℕ) (moves : List (List (ℕ × ℕ))) (before after : List ℕ)
    : Type 0
  where
    pub every : List Searched
    pub same : map (λ one. one.pairs) every ≡ moves
    pub played : All (IsSearched game place count) every
    pub told : after ≡ before ++ flat_map (searched_line (length game.players)) every

-- The lines of all legal moves do.
pub record WritesSearch (game : AbstractGame) (place : AbstractPlace) (count : ℕ) (before after : List ℕ) : Type 0 where
  pub every : List Searched
  pub are : AreSearched game place count every
  pub told : after ≡ before ++ answer_text (searched (length game.players) every)

-- A move by chance leads on, and its line stands after the bytes that were there; or there is none.
pub data TellsMove (game : AbstractGame) (from : AbstractPlace) (before : List ℕ) : Bool → (to : AbstractPlace) → (after : List ℕ) → Type 0 where
  moved : {to : AbstractPlace} {after : List ℕ} (pairs : List (ℕ × ℕ)) →
      Leads game from pairs to →
      after ≡ before ++ line_of (pairs_text pairs) →
      TellsMove game from before true to after
  rests : Finished game from → TellsMove game from before false from before

-- So many moves by chance, at most as many as are wanted, lead on, and their lines are these.
pub record IsMade
    (game : AbstractGame) (from : AbstractPlace) (most made : ℕ) (to : AbstractPlace) (lines : List ℕ)
    : Type 0
  where
    pub moves : List (List (ℕ × ℕ))
    pub sampled : IsSampled game from most moves to
    pub many : length moves ≡ made
    pub told : lines ≡ flat_map (λ pairs. line_of (pairs_text pairs)) moves

-- The lines of one match stand after the bytes that were there.
pub record WritesSample (game : AbstractGame) (from : AbstractPlace) (most : ℕ) (before after : List ℕ) : Type 0 where
  pub moves : List (List (ℕ × ℕ))
  pub to : AbstractPlace
  pub standing : Answer
  pub sampled : IsSampled game from most moves to
  pub stands : StandsAt game to standing
  pub told : after ≡ before ++ answer_text (sampled_answer moves standing)
