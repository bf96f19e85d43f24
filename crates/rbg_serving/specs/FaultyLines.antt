-- What a line with a fault has told, and how it passes calls on.
use Rattle.std.specs.Prelude.{◌≡◌, ◌≤◌, ◌==◌, ◌+◌, ℕ, zero, suc, List, min, if◌then◌else◌}
use Rattle.rbg_serving.specs.Answers.{after_poll, after_put}
use Rattle.rbg_serving.specs.declared.answer.Polled.{Polled}
use Rattle.rbg_serving.specs.declared.answer.Polled.TheVariants.{Got, Nothing, Ended, Failed as PollFailed}
use Rattle.rbg_serving.specs.declared.answer.Put.{Put}
use Rattle.rbg_serving.specs.declared.answer.Put.TheVariants.{Took, Failed as PutFailed}
use Rattle.rbg_serving.specs.Told.{Told, Tells}

-- the greatest number of failures that can be counted
abbrev pub most_failures : ℕ
most_failures = 18446744073709551615

-- how many failures come of the fault, where it is at the call of this number (0: nowhere), and so many calls have come
abbrev pub faults : (call calls : ℕ) → ℕ
faults zero calls = 0
faults (suc before) calls = if calls == suc before then 1 else 0

-- So many calls have come, and all but the one that fails, which has this number, are passed on to this line: it gave
-- the same bytes and took the same, and failed as often, without the fault. It ended and took none at most as often,
-- since a failure that can't be counted any more is told as such an end or such a put.
pub record PassesOn {L : Type 0} (told : L → Told → Type 0) (failure_count : L → ℕ) (call calls : ℕ) (line : L)
    (so_far : Told) : Type 0 where
  pub inner : Told
  pub tells : Tells told failure_count line inner
  pub given : so_far.given ≡ inner.given
  pub taken : so_far.taken ≡ inner.taken
  pub ends : inner.ends ≤ so_far.ends
  pub stalls : inner.stalls ≤ so_far.stalls
  pub failures : so_far.failures ≡ min most_failures (inner.failures + faults call calls)

-- the answer at a poll, where so many failures were counted: one that can't be counted is told as an end
abbrev pub counted_poll : (failures : ℕ) → Polled → Polled
counted_poll failures (Got n) = Got n
counted_poll failures Nothing = Nothing
counted_poll failures Ended = Ended
counted_poll failures PollFailed = if failures == most_failures then Ended else PollFailed

-- the answer at a put, where so many failures were counted: one that can't be counted is told as a put that took nothing
abbrev pub counted_put : (failures : ℕ) → Put → Put
counted_put failures (Took n) = Took n
counted_put failures PutFailed = if failures == most_failures then Took 0 else PutFailed

-- The line changes as a call with this answer may change it, and the answer is passed back, as it is counted. A line that
-- keeps no record may not have been asked.
pub record AnswersOn {L A : Type 0} (told : L → Told → Type 0) (failure_count : L → ℕ) (counted : A → A)
    (after : Told → A → Told) (old new : L) (result : A) : Type 0 where
  pub answer : A
  pub is : result ≡ counted answer
  pub tells : (so_far : Told) →
      Tells told failure_count old so_far → Tells told failure_count new (after so_far answer)

-- a poll is passed on so, where so many failures were counted
abbrev pub PollsOn : {L : Type 0} → (L → Told → Type 0) → (L → ℕ) → (failures : ℕ) → (old new : L) → Polled →
    (buffer : List ℕ) → Type 0
PollsOn told failure_count failures old new result buffer =
    AnswersOn told failure_count (counted_poll failures) (λ so_far answer. after_poll so_far answer buffer) old new result

-- a put is passed on so
abbrev pub PutsOn : {L : Type 0} → (L → Told → Type 0) → (L → ℕ) → (failures : ℕ) → (old new : L) → Put →
    (bytes : List ℕ) → Type 0
PutsOn told failure_count failures old new result bytes =
    AnswersOn told failure_count (counted_put failures) (λ so_far answer. after_put so_far answer bytes) old new result
