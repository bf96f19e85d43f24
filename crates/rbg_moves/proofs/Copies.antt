-- A copy of a place's semi-state stands where the place does; and so does one from which all changes were taken back.
use Rattle.std.proofs.Common.{◌≡◌, ℕ, length, ap, ◌∙◌, Option}
use Rattle.rbg_rules.specs.Meaning.{AbstractState, AbstractPlace}
use Rattle.rbg_state.specs.History.{History, IsAfter}

pub from_copy : (place : AbstractPlace) (s t : AbstractState) (last : Option ℕ) → s ≡ t → (record { state = t; last = last }) ≡ place → (let r : AbstractPlace = record { state = s; last = last } in r) ≡ place
from_copy place s t last copied is = ap (λ (u : AbstractState). let r : AbstractPlace = record { state = u; last = last } in r) copied ∙ is

pub given_back : (h k m : History) (mark : ℕ) → mark ≡ length h.past → IsAfter h k → ((marked : History) → mark ≡ length marked.past → IsAfter marked k → m ≡ record marked { room = m.room }) → m.state ≡ h.state
given_back h k m mark is later back = ap (λ (x : History). x.state) (back h is later)
