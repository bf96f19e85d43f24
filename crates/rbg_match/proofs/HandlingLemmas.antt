-- How an input is handled, by what the code has found.
use Rattle.std.proofs.Common.{◌≡◌, ℕ, ◌≤◌, List, [], ◌++◌, refl, None, Some, Option, is_some, true, false}
use Rattle.std.proofs.lemmas.Bool.{false≢true, true≢false}
use Rattle.rbg_wire.specs.declared.message.Reason.{Reason}
use Rattle.rbg_wire.specs.declared.outcome.Outcome.TheVariants.{Refusals}
use Rattle.rbg_wire.specs.Messages.{end_message, refusal_message}
use Rattle.rbg_rules.specs.Meaning.{AbstractGame}
use Rattle.rbg_match.proofs.Common.{Config, Delivery, to_each, to_seat, AbstractPlay, ended, refusals_of, refused, AbstractInput, Handles, Refuses, after_end, spent}

-- an option is there, or not, as its test has it
pub is_there : {A : Type 0} (o : Option A) → is_some o ≡ true → (x : A) × (o ≡ Some x)
is_there None test = absurd (false≢true test)
is_there (Some x) test = (x, refl)

pub is_not_there : {A : Type 0} (o : Option A) → is_some o ≡ false → o ≡ None
is_not_there None test = refl
is_not_there (Some x) test = absurd (true≢false test)

-- a match that has ended does nothing
pub handles_after_end : (game : AbstractGame) (config : Config) (play : AbstractPlay) (moment : ℕ) (input : AbstractInput) → is_some play.outcome ≡ true → Handles game config play moment input play []
handles_after_end game config play moment input test = after_end ((is_there play.outcome test).1)

-- a refusal that is one too many
pub handles_spent : {seats : ℕ} {config : Config} {play after : AbstractPlay} {seat : ℕ} {reason : Reason} {first next : List Delivery} → config.refusals ≤ refusals_of play seat → after ≡ ended (refused play seat) (Refusals seat) → first ≡ to_seat seat (refusal_message reason) → next ≡ to_each seats (end_message (Refusals seat)) → Refuses seats config play seat reason after (first ++ next)
handles_spent many spends tells ends = rw (spends, tells, ends) (spent many)
