-- What a line's answer adds to what it has told.
use Rattle.std.specs.Prelude.{ℕ, zero, suc, ◌+◌, ◌≤◌, List, [], ◌∷◌, ◌++◌, take}
use Rattle.rbg_serving.specs.declared.answer.Polled.{Polled}
use Rattle.rbg_serving.specs.declared.answer.Polled.TheVariants.{Got, Nothing, Ended, Failed as PollFailed}
use Rattle.rbg_serving.specs.declared.answer.Put.{Put}
use Rattle.rbg_serving.specs.declared.answer.Put.TheVariants.{Took, Failed as PutFailed}
use Rattle.rbg_serving.specs.Told.{Told}

-- no more bytes came than the buffer has
abbrev pub FitsPoll : Polled → (buffer_len : ℕ) → Type 0
FitsPoll (Got n) buffer_len = n ≤ buffer_len
FitsPoll Nothing buffer_len = Unit {0}
FitsPoll Ended buffer_len = Unit {0}
FitsPoll PollFailed buffer_len = Unit {0}

-- no more bytes were taken than were offered
abbrev pub FitsPut : Put → (offered : ℕ) → Type 0
FitsPut (Took n) offered = n ≤ offered
FitsPut PutFailed offered = Unit {0}

-- The line has failed once more.
abbrev pub with_failure : Told → Told
with_failure so_far = record so_far { failures = so_far.failures + 1 }

-- What a line has told after a poll with this answer, which left this buffer. The bytes that came are its first ones.
abbrev pub after_poll : Told → Polled → (buffer : List ℕ) → Told
after_poll so_far (Got n) buffer = record so_far { given = so_far.given ++ take n buffer }
after_poll so_far Nothing buffer = so_far
after_poll so_far Ended buffer = record so_far { ends = so_far.ends + 1 }
after_poll so_far PollFailed buffer = with_failure so_far

-- how often a line took none of these bytes that it was offered, where it took so many: once or never
abbrev pub stalls_of : (taken : ℕ) → (offered : List ℕ) → ℕ
stalls_of zero [] = 0
stalls_of zero (byte ∷ bytes) = 1
stalls_of (suc taken) offered = 0

-- What a line has told after these bytes were put to it with this answer. It took the first ones.
abbrev pub after_put : Told → Put → (bytes : List ℕ) → Told
after_put so_far (Took n) bytes = record so_far {
  taken = so_far.taken ++ take n bytes;
  stalls = so_far.stalls + stalls_of n bytes;
}
after_put so_far PutFailed bytes = with_failure so_far
