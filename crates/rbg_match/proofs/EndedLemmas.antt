-- What has ended stays as it is.
use Rattle.rbg_base.proofs.Common.{◌≡◌, ℕ, List, [], ◌++◌, Option, Some, None, refl, sym, ap, ◌∙◌, none-some}
use Rattle.rbg_wire.specs.declared.outcome.Outcome.{Outcome}
use Rattle.rbg_rules.specs.Meaning.{AbstractGame}
use Rattle.rbg_match.proofs.Common.{Config, Delivery, AbstractPlay, AbstractInput, Handles, after_end, overdue, in_time, AbstractEvent, TimedInput, EndedPlayStays, EndedMatchStays, HandlesAll, MatchState, StepsAll}
use Rattle.rbg_match.specs.Transcript as transcript
use Rattle.rbg_match.specs.Matches as matches

-- play that has ended is not in play
pub not_both : (o : Option Outcome) (outcome : Outcome) → o ≡ Some outcome → o ≡ None → ⊥
not_both o outcome is going = none-some outcome (sym going ∙ is)

-- one input after the end
pub stays_at_input : {game : AbstractGame} {config : Config} {play : AbstractPlay} {moment : ℕ} {input : AbstractInput} {after : AbstractPlay} {outgoing : List Delivery} (outcome : Outcome) → play.outcome ≡ Some outcome → Handles game config play moment input after outgoing → (after ≡ play) × (outgoing ≡ [])
stays_at_input outcome is (after_end ended) = (refl, refl)
stays_at_input {play = play} outcome is (overdue going late) = absurd (not_both play.outcome outcome is going)
stays_at_input {play = play} outcome is (in_time going early handles) = absurd (not_both play.outcome outcome is going)

pub stays_at_inputs : {game : AbstractGame} {config : Config} {play : AbstractPlay} {inputs : List TimedInput} {after : AbstractPlay} {outgoing : List Delivery} (outcome : Outcome) → play.outcome ≡ Some outcome → HandlesAll game config play inputs after outgoing → (after ≡ play) × (outgoing ≡ [])
stays_at_inputs outcome is transcript.none = (refl, refl)
stays_at_inputs {play = play} outcome is (transcript.more {middle = middle} {first = first} {next = next} before handles) =
    let earlier = stays_at_inputs outcome is before in
    let ended : middle.outcome ≡ Some outcome = ap (λ (one : AbstractPlay). one.outcome) earlier.0 ∙ is in
    let last = stays_at_input outcome ended handles in
    (last.0 ∙ earlier.0, ap (λ (one : List Delivery). one ++ next) earlier.1 ∙ last.1)

pub ended_play_stays : EndedPlayStays
ended_play_stays game config play after outcome inputs outgoing is handles = stays_at_inputs outcome is handles

stays_at_events : {old : MatchState} {before : List (List ℕ)} {events : List AbstractEvent} {new : MatchState} {after : List (List ℕ)} (outcome : Outcome) → old.play.outcome ≡ Some outcome → StepsAll old before events new after → (new ≡ old) × (after ≡ before)
stays_at_events outcome is matches.none = (refl, refl)
stays_at_events {old = old} outcome is (matches.more {middle = middle} steps step) =
    let earlier = stays_at_events outcome is steps in
    let ended : middle.play.outcome ≡ Some outcome = ap (λ (one : MatchState). one.play.outcome) earlier.0 ∙ is in
    (step.stays outcome ended ∙ earlier.0, step.silent outcome ended ∙ earlier.1)

pub ended_match_stays : EndedMatchStays
ended_match_stays old new outcome events before after is steps = stays_at_events outcome is steps
