-- What the calls that read a text return.
use Rattle.std.specs.Prelude.{◌≡◌, ℕ, ◌<◌, ◌≤◌, ◌^◌, ◌↔◌, IfOk, IsErrOf, List, [], ◌∷◌, ◌++◌, length, Option, Some, None, Result, Ok, Err, codes, decimal, All}
use Rattle.std.specs.List.{flat_map}
use Rattle.rbg_base.specs.Move.{most_pairs}
use Rattle.rbg_wire.specs.Words.{space}
use Rattle.rbg_wire.specs.declared.error.WireError.{WireError}
use Rattle.rbg_wire.specs.declared.error.WireError.TheVariants.{Malformed, TooManyPairs}
use Rattle.rbg_wire.specs.declared.message.Message.{Message}
use Rattle.rbg_wire.specs.declared.outcome.Outcome.{Outcome}
use Rattle.rbg_wire.specs.declared.outcome.Outcome.TheVariants.{Finished}
use Rattle.rbg_wire.specs.Messages.{AbstractMessage, who_message, game_message, limits_message, move_message, refusal_message, end_message, join_message, message_of, ArePairs, IsShortPair, pairs_text, OutcomeHasSpelling, outcome_text, HasSpelling, message_text}

-- the text is the spelling of these pairs
pub record SpellsPairs (text : List ℕ) (pairs : List (ℕ × ℕ)) : Type 0 where
  pub are : ArePairs pairs
  pub is : text ≡ pairs_text pairs

-- the text is the message of a move with these pairs
pub record SpellsMove (text : List ℕ) (pairs : List (ℕ × ℕ)) : Type 0 where
  pub are : ArePairs pairs
  pub is : text ≡ message_text (move_message pairs)

-- the text is that of this outcome
pub record SpellsOutcome (text : List ℕ) (outcome : Outcome) : Type 0 where
  pub has : OutcomeHasSpelling outcome
  pub is : text ≡ outcome_text outcome

-- the text is that of this message
pub record SpellsMessage (text : List ℕ) (message : AbstractMessage) : Type 0 where
  pub has : HasSpelling message
  pub is : text ≡ message_text message

-- the text is the spelling of more pairs than a move has
pub record SpellsTooMany (Spells : List (ℕ × ℕ) → Type 0) : Type 0 where
  pub pairs : List (ℕ × ℕ)
  pub spelled : Spells pairs
  pub more : most_pairs < length pairs

-- the pairs that the text spells, if a move may have that many; or the error for more pairs; or the error for no pairs
abbrev pub ReadsPairs : (List (ℕ × ℕ) → Type 0) → Result (List (ℕ × ℕ)) WireError → Type 0
ReadsPairs Spells (Ok pairs) = Spells pairs × (length pairs ≤ most_pairs)
ReadsPairs Spells (Err TooManyPairs) = SpellsTooMany Spells
ReadsPairs Spells (Err Malformed) = (pairs : List (ℕ × ℕ)) → Spells pairs → ⊥

-- what a reader of pairs returns: the pairs that the text spells, if a move may have that many, and otherwise the
-- reason
pub record TellsPairs (Spells : List (ℕ × ℕ) → Type 0) (answer : Result (List (ℕ × ℕ)) WireError) : Type 0 where
  pub found : IfOk answer (λ pairs. Spells pairs × (length pairs ≤ most_pairs))
  pub only : (pairs : List (ℕ × ℕ)) → Spells pairs → length pairs ≤ most_pairs → answer ≡ Ok pairs
  pub too_many : IsErrOf answer TooManyPairs ↔ SpellsTooMany Spells
  pub malformed : IsErrOf answer Malformed ↔ ((pairs : List (ℕ × ℕ)) → Spells pairs → ⊥)

-- a message of a move has at most as many pairs as a move
abbrev pub HasFewPairs : AbstractMessage → Type 0
HasFewPairs (move_message pairs) = length pairs ≤ most_pairs
HasFewPairs (who_message player name) = Unit {0}
HasFewPairs (game_message text) = Unit {0}
HasFewPairs (limits_message turn_ms refusals) = Unit {0}
HasFewPairs (refusal_message reason) = Unit {0}
HasFewPairs (end_message outcome) = Unit {0}
HasFewPairs (join_message table) = Unit {0}

-- what is read after this letter: the message that both spell, or none if they spell none
abbrev pub ReadsAfterLetter : ℕ → List ℕ → Option Message → Type 0
ReadsAfterLetter letter text (Some message) = SpellsMessage (letter ∷ text) (message_of message) × HasFewPairs (message_of message)
ReadsAfterLetter letter text None = (message : AbstractMessage) → SpellsMessage (letter ∷ text) message → ⊥

-- what the reading of a text returns: its message, or that it has more pairs than a move may, or that it is no message
abbrev pub ReadsMessage : List ℕ → Result Message WireError → Type 0
ReadsMessage text (Ok message) = SpellsMessage text (message_of message) × HasFewPairs (message_of message)
ReadsMessage text (Err TooManyPairs) = SpellsTooMany (SpellsMove text)
ReadsMessage text (Err Malformed) = (message : AbstractMessage) → SpellsMessage text message → ⊥

-- the fields of a message of a player, and of a message of limits
pub record SpellsWho (text : List ℕ) (player : ℕ) (name : List ℕ) : Type 0 where
  pub has : HasSpelling (who_message player name)
  pub is : text ≡ decimal player ++ space ∷ name

pub record SpellsLimits (text : List ℕ) (turn_ms refusals : ℕ) : Type 0 where
  pub has : HasSpelling (limits_message turn_ms refusals)
  pub is : text ≡ decimal turn_ms ++ space ∷ decimal refusals

-- the fields of an outcome with a player, and of an outcome with scores
pub record SpellsPlayer (text : List ℕ) (player : ℕ) : Type 0 where
  pub small : player < 2 ^ 64
  pub is : text ≡ space ∷ decimal player

pub record SpellsScores (text : List ℕ) (scores : List ℕ) : Type 0 where
  pub has : OutcomeHasSpelling (Finished scores)
  pub is : text ≡ flat_map (λ score. codes " " ++ decimal score) scores

-- the numbers of the pairs, each a word
abbrev pub pair_words : List (ℕ × ℕ) → List (List ℕ)
pair_words pairs = flat_map (λ p. decimal p.0 ∷ decimal p.1 ∷ []) pairs

-- the words are those of pairs of short numbers
pub record ArePairWords (words : List (List ℕ)) (pairs : List (ℕ × ℕ)) : Type 0 where
  pub short : All IsShortPair pairs
  pub are : words ≡ pair_words pairs
