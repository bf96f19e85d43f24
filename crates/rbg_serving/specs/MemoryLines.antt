-- What a line over memory has told, and what it answers.
use Rattle.std.specs.Prelude.{◌≡◌, ◌⊎◌, ◌<◌, ◌≤◌, ◌+◌, ◌-◌, ℕ, zero, List, [], ◌++◌, Bool, true, false, take, drop, length, min, slice_index_or}
use Rattle.std.specs.List.{flat_map, count_by}
use Rattle.rbg_serving.specs.declared.answer.Polled.{Polled}
use Rattle.rbg_serving.specs.declared.answer.Polled.TheVariants.{Got, Nothing as PolledNothing, Ended as PolledEnded, Failed as PollFailed}
use Rattle.rbg_serving.specs.declared.answer.Put.{Put}
use Rattle.rbg_serving.specs.declared.answer.Put.TheVariants.{Took, Failed as PutFailed}
use Rattle.rbg_serving.specs.declared.give.Give.{Give}
use Rattle.rbg_serving.specs.declared.give.Give.TheVariants.{Bytes, Nothing, Ended, Failed}
use Rattle.rbg_serving.specs.declared.give.Take.{Take}
use Rattle.rbg_serving.specs.declared.give.Take.TheVariants.{UpTo, Fail}
use Rattle.rbg_serving.specs.declared.memory_line.MemoryLine.{MemoryLine}
use Rattle.rbg_serving.specs.Told.{Told}

-- the bytes that are given
abbrev pub bytes_in : Give → List ℕ
bytes_in (Bytes bytes) = bytes.items
bytes_in other = []

-- whether bytes are given
abbrev pub is_bytes : Give → Bool
is_bytes (Bytes bytes) = true
is_bytes other = false

-- whether the line is to answer that it has ended
abbrev pub is_end : Give → Bool
is_end Ended = true
is_end other = false

-- whether the line is to fail at the poll
abbrev pub is_failing_give : Give → Bool
is_failing_give Failed = true
is_failing_give other = false

-- whether the line is to fail at the put
abbrev pub is_failing_take : Take → Bool
is_failing_take Fail = true
is_failing_take other = false

-- whether the line is to take nothing at the put
abbrev pub is_empty_take : Take → Bool
is_empty_take (UpTo zero) = true
is_empty_take other = false

-- What a line has told that has given so many gives whole and so many bytes of the next, has taken these bytes, and has
-- taken none and failed so often.
abbrev pub memory_told : List Give → (whole bytes : ℕ) → (taken : List ℕ) → (stalls failures : ℕ) → Told
memory_told gives whole bytes taken stalls failures = record {
  given = flat_map bytes_in (take whole gives) ++ take bytes (bytes_in (slice_index_or gives whole Nothing));
  ends = count_by is_end (take whole gives);
  taken = taken;
  stalls = stalls;
  failures = failures;
}

-- What a line over memory has told: what it gave and took, and it failed as often as it was to. It took none of the bytes
-- only where it was to, until it was full.
pub record MemoryTells (line : MemoryLine) (so_far : Told) : Type 0 where
  pub is : so_far ≡ memory_told line.gives.items line.whole line.offset line.taken.items so_far.stalls line.failures
  pub failures :
      line.failures
      ≡ count_by is_failing_give (take line.whole line.gives.items) + count_by is_failing_take (take line.puts line.takes.items)
  pub stalls :
      (length line.taken.items ≡ line.room)
      ⊎ (so_far.stalls ≤ count_by is_empty_take (take line.puts line.takes.items))

-- What a line answers at a poll that has given so many gives whole and so many bytes of the next, with what it leaves in
-- the buffer, and how many it has given then.
pub data GivesNext (gives : List Give) : (whole bytes : ℕ) → Polled → (buffer : List ℕ) → (whole' bytes' : ℕ) → Type 0 where
  all_given : {whole bytes : ℕ} {buffer : List ℕ} →
      length gives ≤ whole →
      GivesNext gives whole bytes PolledNothing buffer whole bytes
  gives_part : {whole bytes n : ℕ} {buffer : List ℕ} →
      is_bytes (slice_index_or gives whole Nothing) ≡ true →
      (rest : List ℕ) →
      rest ≡ drop bytes (bytes_in (slice_index_or gives whole Nothing)) →
      n ≡ length buffer →
      n < length rest →
      take n buffer ≡ take n rest →
      GivesNext gives whole bytes (Got n) buffer whole (bytes + n)
  gives_rest : {whole bytes n : ℕ} {buffer : List ℕ} →
      is_bytes (slice_index_or gives whole Nothing) ≡ true →
      (rest : List ℕ) →
      rest ≡ drop bytes (bytes_in (slice_index_or gives whole Nothing)) →
      n ≡ length rest →
      take n buffer ≡ rest →
      GivesNext gives whole bytes (Got n) buffer (whole + 1) 0
  gives_nothing : {whole bytes : ℕ} {buffer : List ℕ} →
      whole < length gives →
      slice_index_or gives whole Failed ≡ Nothing →
      GivesNext gives whole bytes PolledNothing buffer (whole + 1) 0
  ends : {whole bytes : ℕ} {buffer : List ℕ} →
      slice_index_or gives whole Nothing ≡ Ended →
      GivesNext gives whole bytes PolledEnded buffer (whole + 1) 0
  fails : {whole bytes : ℕ} {buffer : List ℕ} →
      slice_index_or gives whole Nothing ≡ Failed →
      GivesNext gives whole bytes PollFailed buffer (whole + 1) 0

-- What a line answers that has used so many takes and has room for so many bytes, at a put of these bytes, with the ones
-- that it takes, and how many takes it has used then.
pub data TakesNext (takes : List Take) (free : ℕ) (bytes : List ℕ) :
    (puts : ℕ) → Put → (taken : List ℕ) → (puts' : ℕ) → Type 0 where
  takes_all : {puts n : ℕ} →
      length takes ≤ puts →
      n ≡ min (length bytes) free →
      TakesNext takes free bytes puts (Took n) (take n bytes) puts
  takes_some : {puts n : ℕ} →
      puts < length takes →
      (most : ℕ) →
      slice_index_or takes puts Fail ≡ UpTo most →
      n ≡ min (length bytes) (min free most) →
      TakesNext takes free bytes puts (Took n) (take n bytes) (puts + 1)
  fails_to_take : {puts : ℕ} →
      puts < length takes →
      slice_index_or takes puts Fail ≡ Fail →
      TakesNext takes free bytes puts PutFailed [] (puts + 1)

-- A poll of a line over memory, with this answer and what it left in the buffer: the line gives what is next, and all else
-- stays.
pub record IsPolled (old new : MemoryLine) (result : Polled) (buffer : List ℕ) : Type 0 where
  pub gives_next : GivesNext old.gives.items old.whole old.offset result buffer new.whole new.offset
  pub gives : new.gives ≡ old.gives
  pub takes : new.takes ≡ old.takes
  pub puts : new.puts ≡ old.puts
  pub taken : new.taken ≡ old.taken
  pub room : new.room ≡ old.room

-- A put of these bytes to a line over memory, with this answer: the line takes what is next, and all else stays.
pub record IsPut (old new : MemoryLine) (result : Put) (bytes : List ℕ) : Type 0 where
  pub took : List ℕ
  pub takes_next : TakesNext old.takes.items (old.room - length old.taken.items) bytes old.puts result took new.puts
  pub taken : new.taken.items ≡ old.taken.items ++ took
  pub gives : new.gives ≡ old.gives
  pub whole : new.whole ≡ old.whole
  pub offset : new.offset ≡ old.offset
  pub takes : new.takes ≡ old.takes
  pub room : new.room ≡ old.room
