-- What is heard when a line is polled.
use Rattle.std.specs.Prelude.{ℕ, Bool, true, false, List, [], ◌∷◌, take}
use Rattle.rbg_serving.specs.declared.answer.Polled.{Polled}
use Rattle.rbg_serving.specs.declared.answer.Polled.TheVariants.{Got, Nothing, Ended, Failed}
use Rattle.rbg_serving.specs.Heard.{Heard, gave, ended, failed_to_give}

-- whether nothing more is heard of a line after this answer
abbrev pub is_last : Polled → Bool
is_last (Got n) = false
is_last Nothing = false
is_last Ended = true
is_last Failed = true

-- What is heard of a seat's line that was polled at a moment with this answer, which left this buffer: at most one thing.
abbrev pub heard_by_poll : (seat at : ℕ) → Polled → (buffer : List ℕ) → List Heard
heard_by_poll seat at (Got n) buffer = gave seat at (take n buffer) ∷ []
heard_by_poll seat at Nothing buffer = []
heard_by_poll seat at Ended buffer = ended seat at ∷ []
heard_by_poll seat at Failed buffer = failed_to_give seat at ∷ []
