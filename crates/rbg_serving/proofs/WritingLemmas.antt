-- What is written of an event, by what the match tells.
use Rattle.rbg_base.proofs.Common.{◌≡◌, ℕ, Bool, List, [], ◌∷◌, Option, Some, None, is_some, refl, sym, ap, ◌∙◌, MatchOption, if◌then◌else◌, none-some}
use Rattle.rbg_wire.specs.declared.outcome.Outcome.{Outcome}
use Rattle.rbg_match.proofs.Common.{counted, MatchState, due_of}
use Rattle.rbg_script.specs.Events.{AbstractEvent, moment_of}
use Rattle.rbg_serving.specs.Written.{at_moment, is_quiet, written}

same_number : (a b : ℕ) → ◌≡◌ {A = Option ℕ} (Some a) (Some b) → a ≡ b
same_number a b same = cc

module _ (state : MatchState) (event : AbstractEvent) where
  abbrev in_time : Bool → List AbstractEvent
  in_time quiet = if quiet then [] else at_moment (counted state.streams (moment_of event)) event ∷ []

  abbrev by_outcome : Option Outcome → List AbstractEvent
  by_outcome outcome = if is_some outcome then [] else in_time (is_quiet state event)

  -- what the match tells of its due moment
  abbrev TellsDue : Option Outcome → Option ℕ → Type 0
  TellsDue outcome due = MatchOption outcome (due ≡ Some (due_of state.config state.play)) (λ _. due ≡ None)

  ended : (outcome : Option Outcome) (due : Option ℕ) → TellsDue outcome due → due ≡ None → [] ≡ by_outcome outcome
  ended (Some outcome) due told none = refl
  ended None due told none = absurd (none-some (due_of state.config state.play) (sym none ∙ told))

  going : (outcome : Option Outcome) (due : Option ℕ) (moment : ℕ) (quiet : Bool) → TellsDue outcome due → due ≡ Some moment → (moment ≡ due_of state.config state.play → quiet ≡ is_quiet state event) → in_time quiet ≡ by_outcome outcome
  going (Some outcome) due moment quiet told some is = absurd (none-some moment (sym told ∙ some))
  going None due moment quiet told some is = ap in_time (is (same_number moment (due_of state.config state.play) (sym some ∙ told)))

-- nothing is written once the match has ended
pub unwritten_at_end : (state : MatchState) (event : AbstractEvent) (due : Option ℕ) → MatchOption state.play.outcome (due ≡ Some (due_of state.config state.play)) (λ _. due ≡ None) → due ≡ None → [] ≡ written state event
unwritten_at_end state event due told none = ended state event state.play.outcome due told none

pub written_in_play : (state : MatchState) (event : AbstractEvent) (due : Option ℕ) (moment : ℕ) (quiet : Bool) → MatchOption state.play.outcome (due ≡ Some (due_of state.config state.play)) (λ _. due ≡ None) → due ≡ Some moment → (moment ≡ due_of state.config state.play → quiet ≡ is_quiet state event) → (if quiet then [] else at_moment (counted state.streams (moment_of event)) event ∷ []) ≡ written state event
written_in_play state event due moment quiet told some is = going state event state.play.outcome due moment quiet told some is
