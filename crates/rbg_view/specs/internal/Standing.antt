-- Where one stands in a list by what the code holds, and what its calls do with lines.
use Rattle.std.specs.Prelude.{◌≡◌, ℕ, ◌+◌, ◌≤◌, ◌≢◌, ◌⊎◌, List, [], ◌++◌, length, All, Option, Some, Bool, true, false}
use Rattle.rbg_wire.specs.Bytes.{LacksByte}
use Rattle.rbg_wire.specs.Lines.{line_feed, lines_of}
use Rattle.rbg_wire.specs.declared.outcome.Outcome.{Outcome}
use Rattle.rbg_wire.specs.declared.outcome.Outcome.TheVariants.{Heavy as HeavyEnd}
use Rattle.rbg_view.specs.declared.move_readings.Lead.{Lead}
use Rattle.rbg_view.specs.declared.move_readings.Reading.{Reading}
use Rattle.rbg_view.specs.declared.scene.Scene.{Scene}
use Rattle.rbg_view.specs.declared.shown_moves.Showing.{Showing}
use Rattle.rbg_view.specs.declared.stop.Stop.{Stop}
use Rattle.rbg_view.specs.declared.stop.Stop.TheVariants.{NotLegal, NoMove, Mark, AfterEnd, Heavy, Keeper, Memory}
use Rattle.rbg_view.specs.Endings.{EndsWith, ended_text, stopped_text, unsettled_text}
use Rattle.rbg_view.specs.Following.{BeginsWithMark, EndsWell, Follows, FollowsLines, FollowsList, IsBare, Standing, StopsAtEnd, StopsAtLine, StopsAfter, StopsLine, outcome_of}
use Rattle.rbg_view.specs.Moving.{MakesNone, MakesOne, MeetsHeavy, TiresKeeper}
use Rattle.rbg_moves.specs.Playing.{Playing}
use Rattle.rbg_view.specs.Readings.{AreReadings, IsSaid}

-- where one stands
abbrev pub standing_of : Showing → Standing
standing_of showing = record { playing = showing.scene.play; lead = showing.lead; end = showing.end }

-- What a record has told is the same.
abbrev pub KeepsLine : Showing → Showing → Type 0
KeepsLine old new = (new.lead ≡ old.lead) × (new.end ≡ old.end)

-- a message whose move is made, or which is refused
pub data IsMessageShown (seat : ℕ) (text : List ℕ) (from to : Playing) : Type 0 where
  made : (readings : List Reading) → IsSaid seat text readings → MakesOne readings from to → IsMessageShown seat text from to
  refused : (readings : List Reading) → IsSaid seat text readings → MakesNone readings from to → IsMessageShown seat text from to

-- a message at which the list stops
abbrev pub StopsMessage : (seat : ℕ) → (text : List ℕ) → (from : Playing) → Stop → (to : Playing) → Type 0
StopsMessage seat text from Memory to = Unit {0}
StopsMessage seat text from Heavy to = (readings : List Reading) × IsSaid seat text readings × MeetsHeavy readings from to
StopsMessage seat text from Keeper to = (readings : List Reading) × IsSaid seat text readings × TiresKeeper readings from to
StopsMessage seat text from NotLegal to = ⊥
StopsMessage seat text from NoMove to = ⊥
StopsMessage seat text from Mark to = ⊥
StopsMessage seat text from AfterEnd to = ⊥

-- some moves that a text may mean
pub record HasReadings (lead : Option Lead) (text : List ℕ) (readings : List Reading) : Type 0 where
  pub are : AreReadings text lead readings
  pub some : readings ≡ [] → ⊥

-- a move that is made
pub record IsMoveShown (lead : Option Lead) (text : List ℕ) (from to : Playing) : Type 0 where
  pub readings : List Reading
  pub has : HasReadings lead text readings
  pub made : MakesOne readings from to

-- a text that may be a move, at which the list stops
abbrev pub StopsMove : Option Lead → (text : List ℕ) → (from : Playing) → Stop → (to : Playing) → Type 0
StopsMove lead text from Memory to = Unit {0}
StopsMove lead text from Heavy to = (readings : List Reading) × HasReadings lead text readings × MeetsHeavy readings from to
StopsMove lead text from Keeper to = (readings : List Reading) × HasReadings lead text readings × TiresKeeper readings from to
StopsMove lead text from NotLegal to = (readings : List Reading) × HasReadings lead text readings × MakesNone readings from to
StopsMove lead text from NoMove to = (to ≡ from) × AreReadings text lead [] × ¬ BeginsWithMark text
StopsMove lead text from Mark to = (to ≡ from) × AreReadings text lead [] × BeginsWithMark text
StopsMove lead text from AfterEnd to = ⊥

-- a line that is followed
pub record FollowsLine (line : List ℕ) (from to : Standing) : Type 0 where
  pub bare : List ℕ
  pub is_bare : IsBare line bare
  pub follows : Follows bare from to

-- whether a line is followed; if not, this is told at last
abbrev pub TellsLine : List ℕ → (number : ℕ) → (from : Standing) → (new : Showing) → Bool → Type 0
TellsLine line number from new true = FollowsLine line from (standing_of new)
TellsLine line number from new false =
    (stop : Stop)
    × StopsLine line from stop (standing_of new)
    × EndsWith new.scene.sheet.text.items (stopped_text new.scene.play number stop)

-- whether all goes well after the last line, and what is told at last
abbrev pub TellsEnd : Standing → (new : Scene) → Bool → Type 0
TellsEnd from new true = (told : List ℕ) × EndsWell from new.play told × EndsWith new.sheet.text.items told
TellsEnd from new false =
    (stop : Stop)
    × StopsAfter from.playing stop new.play
    × (outcome_of from.end ≢ Some HeavyEnd)
    × EndsWith new.sheet.text.items (unsettled_text stop)

-- Whether a limit that the record tells ended the match, and what is told at last.
abbrev pub TellsLimit : Playing → Option Outcome → (told text : List ℕ) → Bool → Type 0
TellsLimit at outcome told text true = (outcome ≡ Some HeavyEnd) × EndsWith text (ended_text at outcome true)
TellsLimit at outcome told text false = (outcome ≢ Some HeavyEnd) × EndsWith text told

-- a line of a list stops, and this is told at last
pub record TellsStop (list : List ℕ) (from : Standing) (new : Scene) : Type 0 where
  pub number : ℕ
  pub stop : Stop
  pub stops : StopsAtLine from list number stop new.play
  pub told : EndsWith new.sheet.text.items (stopped_text new.play number stop)

-- what comes after the last line stops
pub record TellsUnsettled (list : List ℕ) (from : Standing) (new : Scene) : Type 0 where
  pub stop : Stop
  pub stops : StopsAtEnd from list stop new.play
  pub told : EndsWith new.sheet.text.items (unsettled_text stop)

-- whether a list is followed whole, and what is told at last
abbrev pub TellsList : List ℕ → (from : Standing) → (new : Scene) → Bool → Type 0
TellsList list from new true =
    (told : List ℕ) × FollowsList from list new.play told × EndsWith new.sheet.text.items told
TellsList list from new false = TellsStop list from new ⊎ TellsUnsettled list from new

-- The lines before the rest of a list are followed.
pub record IsFollowedSoFar (from : Standing) (list rest : List ℕ) (number : ℕ) (at : Standing) : Type 0 where
  pub before : List (List ℕ)
  pub text : list ≡ lines_of before ++ rest
  pub cut : All (LacksByte line_feed) before
  pub counted : number ≡ length before + 1
  pub room : number + length rest ≤ length list + 1
  pub follows : FollowsLines from before at
