-- The moves that a line may mean.
use Rattle.std.specs.Prelude.{◌≡◌, ℕ, ◌≤◌, List, [], ◌∷◌, ◌++◌, length, Option, Some, None, codes}
use Rattle.rbg_base.specs.Move.{most_pairs}
use Rattle.rbg_wire.specs.Reading.{SpellsPairs}
use Rattle.rbg_wire.specs.Words.{BeginsWithNumber}
use Rattle.rbg_record.specs.declared.heading.Version.{Version}
use Rattle.rbg_record.specs.declared.heading.Version.TheVariants.{One, Two}
use Rattle.rbg_view.specs.declared.move_readings.Lead.{Lead}
use Rattle.rbg_view.specs.declared.move_readings.Reading.{Reading}
use Rattle.rbg_view.specs.declared.move_readings.Lead.TheVariants.{Nothing, Player, MomentAndPlayer}

-- what stands before the pairs of a move in a record of this version
abbrev pub lead_of : Version → Lead
lead_of One = Player
lead_of Two = MomentAndPlayer

-- the text spells these pairs, and a move has as many
pub record SpellsMovePairs (text : List ℕ) (pairs : List (ℕ × ℕ)) : Type 0 where
  pub spelled : SpellsPairs text pairs
  pub few : length pairs ≤ most_pairs

-- the pairs of a move, with the letter of a message before them or without
pub data IsMoveText (text : List ℕ) (pairs : List (ℕ × ℕ)) : Type 0 where
  with_letter : (beyond : List ℕ) → text ≡ codes "M" ++ beyond → SpellsMovePairs beyond pairs → IsMoveText text pairs
  without_letter : ((beyond : List ℕ) → text ≡ codes "M" ++ beyond → ⊥) → SpellsMovePairs text pairs → IsMoveText text pairs

-- the player's number, a space and a move
pub data IsPlayersMove (text : List ℕ) : Option ℕ → List (ℕ × ℕ) → Type 0 where
  of_player : (player : ℕ) (rest : List ℕ) (pairs : List (ℕ × ℕ))
      → BeginsWithNumber text player rest
      → IsMoveText rest pairs
      → IsPlayersMove text (Some player) pairs

-- The text may mean the move of these pairs, made by this player if it says who, where so much stands before the pairs.
abbrev pub MayMean : Lead → List ℕ → Option ℕ → List (ℕ × ℕ) → Type 0
MayMean Nothing text player pairs = (player ≡ None) × IsMoveText text pairs
MayMean Player text player pairs = IsPlayersMove text player pairs
MayMean MomentAndPlayer text player pairs =
    (at : ℕ) × (rest : List ℕ) × BeginsWithNumber text at rest × IsPlayersMove rest player pairs

-- the move that the text means where so much stands before the pairs, if it is one
pub data Means (text : List ℕ) (lead : Lead) : List Reading → Type 0 where
  one : (reading : Reading) → MayMean lead text reading.player reading.pairs → Means text lead (reading ∷ [])
  none : ((player : Option ℕ) (pairs : List (ℕ × ℕ)) → ¬ MayMean lead text player pairs) → Means text lead []

-- The moves that a text may mean, in the order in which they are tried. Where nobody has told what stands before the
-- pairs, it may be any of the three.
pub data AreReadings (text : List ℕ) : Option Lead → List Reading → Type 0 where
  told : (lead : Lead) (readings : List Reading) → Means text lead readings → AreReadings text (Some lead) readings
  untold :
      (alone by_player at_moment : List Reading) →
      Means text Nothing alone →
      Means text Player by_player →
      Means text MomentAndPlayer at_moment →
      AreReadings text None (alone ++ by_player ++ at_moment)

-- the move that a seat's message means, if it is one
pub data IsSaid (seat : ℕ) (text : List ℕ) : List Reading → Type 0 where
  one :
      (reading : Reading) →
      reading.player ≡ Some seat →
      IsMoveText text reading.pairs →
      IsSaid seat text (reading ∷ [])
  none : ((pairs : List (ℕ × ℕ)) → ¬ IsMoveText text pairs) → IsSaid seat text []
