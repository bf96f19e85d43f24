-- Lines in the middle of a call of `serve`.
use Rattle.std.specs.Prelude.{◌≡◌, ◌+◌, ◌<◌, ◌≤◌, ◌==◌, ◌⊎◌, ℕ, List, ◌++◌, true, false, length, take, slice_index_or, if◌then◌else◌}
use Rattle.std.specs.List.{count_by}
use Rattle.rbg_serving.specs.declared.line_state.LineState.{LineState}
use Rattle.rbg_serving.specs.Answers.{with_failure}
use Rattle.rbg_serving.specs.Heard.{Heard, given_by, ends_of, failures_of, IsLive}
use Rattle.rbg_serving.specs.Passing.{Intake, intake_at, ComeBefore, queued_at}
use Rattle.rbg_serving.specs.Told.{Told, Tells, told_at}

-- What a line has told that had told this before and has since taken so many of the bytes.
abbrev pub has_taken : Told → (bytes : List ℕ) → (taken : ℕ) → Told
has_taken before bytes taken = record before { taken = before.taken ++ take taken bytes }

-- how often a line took none of the rest of the bytes, to which all was offered: once, or never if it has all
abbrev pub stall_of : (bytes : List ℕ) → LineState → ℕ
stall_of bytes state = if state.taken == length bytes then 0 else 1

-- What a line has told to which all of the bytes were offered, that is in this state since, and had told this before it took
-- any of them.
abbrev pub passed_on : Told → (bytes : List ℕ) → LineState → Told
passed_on before bytes state =
    if state.live
    then record (has_taken before bytes state.taken) { stalls = before.stalls + stall_of bytes state }
    else with_failure (has_taken before bytes state.taken)

-- What the line of a seat has told that had told this before, where this was heard and it took none so often, and took
-- nothing.
abbrev pub has_said : (seat : ℕ) → List Heard → (stalls : ℕ) → Told → Told
has_said seat heard stalls before = record {
  given = before.given ++ given_by seat heard;
  ends = before.ends + ends_of seat heard;
  taken = before.taken;
  stalls = before.stalls + stalls;
  failures = before.failures + failures_of seat heard;
}

-- In a call in which this was heard, the line of a seat that had told this before it has this intake and state.
pub record IsLineServed {L : Type 0} (told : L → Told → Type 0) (failure_count : L → ℕ) (seat : ℕ)
    (heard : List Heard) (queued : List ℕ) (before : Told) (line : L) (state : LineState) (intake : Intake) :
    Type 0 where
  pub tells : Tells told failure_count line (has_taken (has_said seat heard intake.stalls before) queued state.taken)
  pub taken : intake.taken ≡ state.taken
  pub within : state.taken ≤ length queued
  pub live : state.live ≡ true → IsLive seat heard
  pub over : state.live ≡ false → ¬ IsLive seat heard

-- the state of a line that has taken nothing
abbrev pub at_first : LineState
at_first = record { taken = 0; live = true }

-- what stands where there is no line
abbrev pub absent : LineState
absent = record { taken = 0; live = false }

-- In a call in which this was heard, the lines that had told this before it have these states and intakes.
pub record AreServed {L : Type 0} (told : L → Told → Type 0) (failure_count : L → ℕ) (before : List Told)
    (heard : List Heard) (queued : List (List ℕ)) (lines : List L) (states : List LineState) (intakes : List Intake) :
    Type 0 where
  pub as_many_before : length before ≡ length lines
  pub as_many_states : length states ≡ length lines
  pub as_many_intakes : length intakes ≡ length lines
  pub each : (index : ℕ) (line : L) →
      index < length lines →
      IsLineServed told failure_count (index + 1) heard (queued_at queued index) (told_at before index)
      (slice_index_or lines index line)
      (slice_index_or states index absent)
      (intake_at intakes index)

-- The lines are served, and come from these intakes.
pub record AreServedFrom {L : Type 0} (told : L → Told → Type 0) (failure_count : L → ℕ) (before : List Told)
    (heard : List Heard) (queued : List (List ℕ)) (lines : List L) (states : List LineState) (since : List Intake) :
    Type 0 where
  pub intakes : List Intake
  pub later : ComeBefore since intakes
  pub served : AreServed told failure_count before heard queued lines states intakes

-- The same, and since then all that is queued was offered to each of the first lines that is live.
pub record ArePassed {L : Type 0} (told : L → Told → Type 0) (failure_count : L → ℕ) (before : List Told)
    (heard : List Heard) (queued : List (List ℕ)) (lines : List L) (states : List LineState) (since : List Intake)
    (first : ℕ) : Type 0 where
  pub from : AreServedFrom told failure_count before heard queued lines states since
  pub offered : (index : ℕ) → index < first →
      IsLive (index + 1) heard →
      ((intake_at from.intakes index).taken ≡ length (queued_at queued index))
      ⊎ ((intake_at since index).stalls < (intake_at from.intakes index).stalls)

-- how many lines are live
abbrev pub live_lines : List LineState → ℕ
live_lines states = count_by (λ one. one.live) states

-- The line at a place took all that is queued for its seat.
abbrev pub HasAll : (queued : List (List ℕ)) → List LineState → (index : ℕ) → Type 0
HasAll queued states index = (slice_index_or states index absent).taken ≡ length (queued_at queued index)

-- Each live line took all.
abbrev pub LiveHaveAll : (queued : List (List ℕ)) → List LineState → Type 0
LiveHaveAll queued states =
    (index : ℕ) → index < length states →
    (slice_index_or states index absent).live ≡ true →
    HasAll queued states index
