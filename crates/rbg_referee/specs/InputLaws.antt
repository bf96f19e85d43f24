-- Laws of answers, and of the bytes that a match leaves for its seats.
use Rattle.std.specs.Prelude.{◌≡◌, ℕ, List, [], All}
use Rattle.std.specs.List.{flat_map}
use Rattle.rbg_console.specs.declared.status.Status.{Status}
use Rattle.rbg_console.specs.declared.status.Status.TheVariants.{BadInput}
use Rattle.rbg_match.specs.declared.config.Config.{Config}
use Rattle.rbg_script.specs.Events.{AbstractEvent}
use Rattle.rbg_referee.specs.Refereed.{IsRefereed}
use Rattle.rbg_wire.specs.Bytes.{LacksByte}
use Rattle.rbg_referee.specs.Answers.{IsAnswer}
use Rattle.rbg_referee.specs.Printed.{with_zero, AreMessages}

-- An input has answers of one status at most. If a script has a fault, they name one line.
abbrev pub AnswersAreApart : Type 0
AnswersAreApart =
    (input text other : List ℕ) (status ended : Status)
    → IsAnswer input text status
    → IsAnswer input other ended
    → (status ≡ ended) × (status ≡ BadInput → text ≡ other)

-- the bytes are whole messages, each with its zero byte
pub record AreWhole (bytes : List ℕ) : Type 0 where
  pub messages : List (List ℕ)
  pub parts : bytes ≡ flat_map with_zero messages
  pub whole : All (LacksByte 0) messages

-- The bytes of each seat of a match are whole messages. Whatever messages such bytes are cut into, nothing follows the
-- last one.
pub record OutboxesAreWhole : Type 0 where
  pub seats : (text : List ℕ) (config : Config) (now : ℕ) (events : List AbstractEvent) (outbox : List (List ℕ))
      → IsRefereed text config now events outbox
      → All AreWhole outbox
  pub no_rest : (bytes : List ℕ) (messages : List (List ℕ))
      → AreWhole bytes
      → (are : AreMessages bytes messages)
      → are.rest ≡ []
