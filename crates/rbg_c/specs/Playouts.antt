-- Matches that are played by chance from a state.
use Rattle.std.specs.Prelude.{◌≡◌, ℕ, ◌+◌, ◌<◌, List, [], ◌∷◌, ◌++◌, length, drop, Option, None, Some}
use Rattle.std.specs.List.{flat_map}
use Rattle.rbg_rules.specs.Meaning.{AbstractGame, AbstractPlace}
use Rattle.rbg_questions.specs.declared.question_error.QuestionError.{QuestionError}
use Rattle.rbg_questions.specs.declared.question_error.QuestionError.TheVariants.{Memory}
use Rattle.rbg_questions.specs.Chance.{AreTallied, Counted, IsUnmoved, IsUnplayed, Plays}
use Rattle.rbg_questions.specs.Limits.{IsCount}
use Rattle.rbg_questions.specs.Searching.{IsSampled}
use Rattle.rbg_questions.specs.Sessions.{Leads}
use Rattle.rbg_c.specs.States.{AbstractState, copy_of}
use Rattle.rbg_c.specs.Opening.{Keeps}
use Rattle.rbg_c.specs.Results.{Refuses, empty, memory, ok, range, small}
use Rattle.rbg_c.specs.Filling.{Fills}
use Rattle.rbg_c.specs.Listing.{numbers_of_moves}

-- The row of matches that ended alike: how many they are, and the players' scores. Those that were stopped have none.
abbrev pub ending_row : Option (List ℕ) → (matches : ℕ) → List ℕ
ending_row None matches = []
ending_row (Some scores) matches = matches ∷ scores

abbrev pub row_of : Counted → List ℕ
row_of counted = ending_row counted.scores counted.matches

-- So many matches by chance were played from the place, and these are the rows of those that were finished.
pub record ArePlayed (game : AbstractGame) (place : AbstractPlace) (count : ℕ) (rows : List ℕ) : Type 0 where
  pub counted : List Counted
  pub tallied : AreTallied game place count counted
  pub told : rows ≡ flat_map row_of counted

-- A call that plays so many matches by chance, and puts their rows into a buffer.
--   no_count: the matches are none, or more than 1,000,000.
--   nothing: the handle holds no state.
--   played: the matches are played. Their rows are put into the buffer, if it has room for them.
--   failed: one of the matches isn't played to its end.
pub data PlaysOut (count : ℕ) (before after : Option AbstractState) (old new : List ℕ) (needed result : ℕ) : Type 0 where
  no_count : ¬ IsCount count → after ≡ before → new ≡ old → result ≡ range → PlaysOut count before after old new needed result
  nothing : before ≡ None → after ≡ None → new ≡ old → result ≡ empty → PlaysOut count before after old new needed result
  played : {state : AbstractState} {rows : List ℕ} →
      before ≡ Some state →
      after ≡ Some state →
      ArePlayed state.game state.place count rows →
      Fills rows old new needed result →
      PlaysOut count before after old new needed result
  failed : {state : AbstractState} →
      before ≡ Some state →
      after ≡ Some state →
      new ≡ old →
      Refuses (IsUnplayed state.game state.place) result →
      PlaysOut count before after old new needed result

-- Moves of the players lead from one place to the other, each with the keeper's moves after it. The places that they passed
-- are those at which they were made, in the same order.
pub data Passes (game : AbstractGame) (from : AbstractPlace)
    : (moves : List (List (ℕ × ℕ))) → (passed : List AbstractPlace) → (to : AbstractPlace) → Type 0
  where
    none_made : Passes game from [] [] from
    one_made : {moves : List (List (ℕ × ℕ))} {passed : List AbstractPlace} {middle to : AbstractPlace} {pairs : List (ℕ × ℕ)} →
        Passes game from moves passed middle →
        Leads game middle pairs to →
        Passes game from (moves ++ pairs ∷ []) (passed ++ middle ∷ []) to

-- These moves by chance lead from a state to another: at most `most`, and fewer only where play is finished. They can be
-- undone: the places that they passed stand after those before. No moves are found yet.
pub record PlaysOn (old : AbstractState) (most : ℕ) (moves : List (List (ℕ × ℕ))) (new : AbstractState) : Type 0 where
  pub game : new.game ≡ old.game
  pub origin : new.origin ≡ old.origin
  pub sampled : IsSampled old.game old.place most moves new.place
  pub passed : List AbstractPlace
  pub passes : Passes old.game old.place moves passed new.place
  pub before : new.before ≡ old.before ++ passed
  pub made : length new.before ≡ length old.before + length moves
  pub none_found : new.found ≡ None

-- Why `most` moves by chance aren't made.
--   stuck: fewer moves lead to a place where the next one isn't made.
--   no_memory: memory ran out, which says nothing of the place.
pub data IsNotPlayedOn (game : AbstractGame) (place : AbstractPlace) (most : ℕ) : QuestionError → Type 0 where
  stuck : {moves : List (List (ℕ × ℕ))} {to : AbstractPlace} {refusal : QuestionError} →
      Plays game place moves to →
      length moves < most →
      IsUnmoved game to refusal →
      IsNotPlayedOn game place most refusal
  no_memory : IsNotPlayedOn game place most Memory

-- What becomes of a handle that gets a copy of the state of another handle, on which moves are made by chance.
--   holds_nothing: the other handle holds no state. This one is as before.
--   plays_copy: the moves are made. The copy is kept, and `made` says how many moves they are.
--   fails: one of the moves isn't made. The handle is as before.
pub data PlaysCopy (from : Option AbstractState) (most : ℕ) (before after : Option AbstractState) (made result : ℕ) : Type 0 where
  holds_nothing : from ≡ None → after ≡ before → result ≡ empty → PlaysCopy from most before after made result
  plays_copy : {state copy : AbstractState} {moves : List (List (ℕ × ℕ))} →
      from ≡ Some state →
      PlaysOn (copy_of state) most moves copy →
      made ≡ length copy.before →
      Keeps copy before after result →
      PlaysCopy from most before after made result
  fails : {state : AbstractState} →
      from ≡ Some state →
      after ≡ before →
      Refuses (IsNotPlayedOn state.game state.place most) result →
      PlaysCopy from most before after made result

-- A state is kept in a handle, and numbers are put into a buffer.
--   handed: both is done.
--   no_room_for: the buffer has too little room. It and the handle are as before.
--   unkept: memory ran out. The buffer and the handle are as before.
pub data HandsOut (state : AbstractState) (numbers : List ℕ) (before after : Option AbstractState) (old new : List ℕ) (needed result : ℕ)
    : Type 0
  where
    handed :
        after ≡ Some state →
        new ≡ numbers ++ drop (length numbers) old →
        needed ≡ length numbers →
        result ≡ ok →
        HandsOut state numbers before after old new needed result
    no_room_for :
        length old < length numbers →
        after ≡ before →
        new ≡ old →
        needed ≡ length numbers →
        result ≡ small →
        HandsOut state numbers before after old new needed result
    unkept : after ≡ before → new ≡ old → result ≡ memory → HandsOut state numbers before after old new needed result

-- What becomes of a handle that gets such a copy, and of a buffer that gets the numbers of the moves.
--   from_nothing: the other handle holds no state. The handle and the buffer are as before.
--   sampled: the other handle holds this state, and these moves are made on the copy. Both are handed out.
--   stopped: one of the moves isn't made. The handle and the buffer are as before.
pub data Samples (from : Option AbstractState) (most : ℕ) (before after : Option AbstractState) (old new : List ℕ) (needed result : ℕ) : Type 0 where
  from_nothing : from ≡ None → after ≡ before → new ≡ old → result ≡ empty → Samples from most before after old new needed result
  sampled : {state copy : AbstractState} {moves : List (List (ℕ × ℕ))} →
      from ≡ Some state →
      PlaysOn (copy_of state) most moves copy →
      HandsOut copy (numbers_of_moves moves) before after old new needed result →
      Samples from most before after old new needed result
  stopped : {state : AbstractState} →
      from ≡ Some state →
      after ≡ before →
      new ≡ old →
      Refuses (IsNotPlayedOn state.game state.place most) result →
      Samples from most before after old new needed result
