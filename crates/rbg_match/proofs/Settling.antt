-- After an input at a moment another tick at that moment changes nothing: play has ended, or the due moment is later.
use Rattle.std.proofs.Common.{◌≡◌, ℕ, ◌+◌, ◌<◌, ◌≤◌, List, [], ◌∷◌, ◌++◌, Option, Some, None, refl, arith}
use Rattle.rbg_wire.specs.declared.message.Reason.{Reason}
use Rattle.rbg_wire.specs.declared.outcome.Outcome.{Outcome}
use Rattle.rbg_rules.specs.Meaning.{AbstractGame}
use Rattle.rbg_match.proofs.Common.{Config, Delivery, AbstractPlay, due_of, PlaysOn, AbstractInput, tick, Refuses, Judges, HandlesInTime, Handles, TimedInput, inputs_at}
use Rattle.rbg_match.specs.PlayingOn as on
use Rattle.rbg_match.specs.Handling as handling
use Rattle.rbg_match.proofs.EndedLemmas.{stays_at_input}
use Rattle.rbg_match.proofs.OneByOne.{HandlesEach, none, more, parted, joined}

-- Play has ended, or the due moment is later than this one.
pub data IsSettled (config : Config) (moment : ℕ) (play : AbstractPlay) : Type 0 where
  over : (outcome : Outcome) → play.outcome ≡ Some outcome → IsSettled config moment play
  early : moment < due_of config play → IsSettled config moment play

pub plays_on_settles : {game : AbstractGame} {moment n : ℕ} {play after : AbstractPlay} {outgoing : List Delivery} (config : Config) → 1 ≤ config.turn_ms → PlaysOn game moment n play after outgoing → IsSettled config moment after
plays_on_settles config some (on.endless is_keeper many) = over _ refl
plays_on_settles config some (on.heavy may hard) = over _ refl
plays_on_settles config some (on.finished may nothing) = over _ refl
plays_on_settles config some (on.keeper is_keeper may legal short goes) = plays_on_settles config some goes
plays_on_settles {moment = moment} config some (on.turn player legal) = early (let later : moment < moment + config.turn_ms = omega (arith, some) in later)

refuses_settles : {seats : ℕ} {config : Config} {play : AbstractPlay} {seat : ℕ} {reason : Reason} {after : AbstractPlay} {outgoing : List Delivery} (moment : ℕ) → moment < due_of config play → Refuses seats config play seat reason after outgoing → IsSettled config moment after
refuses_settles moment in_time (handling.counted few) = early in_time
refuses_settles moment in_time (handling.spent many) = over _ refl

judges_settles : {game : AbstractGame} {config : Config} {play : AbstractPlay} {moment : ℕ} {pairs : List (ℕ × ℕ)} {after : AbstractPlay} {outgoing : List Delivery} → 1 ≤ config.turn_ms → moment < due_of config play → Judges game config play moment pairs after outgoing → IsSettled config moment after
judges_settles some in_time (handling.heavy hard) = over _ refl
judges_settles {moment = moment} some in_time (handling.illegal never refuses) = refuses_settles moment in_time refuses
judges_settles {config = config} some in_time (handling.legal legal goes) = plays_on_settles config some goes

in_time_settles : {game : AbstractGame} {config : Config} {play : AbstractPlay} {moment : ℕ} {input : AbstractInput} {after : AbstractPlay} {outgoing : List Delivery} → 1 ≤ config.turn_ms → moment < due_of config play → HandlesInTime game config play moment input after outgoing → IsSettled config moment after
in_time_settles some in_time handling.nothing = early in_time
in_time_settles some in_time handling.leaving = over _ refl
in_time_settles {moment = moment} some in_time (handling.out_of_turn other refuses) = refuses_settles moment in_time refuses
in_time_settles {moment = moment} some in_time (handling.unreadable mover no_move refuses) = refuses_settles moment in_time refuses
in_time_settles {moment = moment} some in_time (handling.too_many mover spells long refuses) = refuses_settles moment in_time refuses
in_time_settles some in_time (handling.judged mover spells short judges) = judges_settles some in_time judges

handles_settles : {game : AbstractGame} {config : Config} {play : AbstractPlay} {moment : ℕ} {input : AbstractInput} {after : AbstractPlay} {outgoing : List Delivery} → 1 ≤ config.turn_ms → Handles game config play moment input after outgoing → IsSettled config moment after
handles_settles some (handling.after_end {outcome = outcome} ended) = over outcome ended
handles_settles some (handling.overdue going late) = over _ refl
handles_settles some (handling.in_time going in_time handles) = in_time_settles some in_time handles

settled_through : {game : AbstractGame} {config : Config} {moment : ℕ} (inputs : List AbstractInput) {play after : AbstractPlay} {outgoing : List Delivery} → 1 ≤ config.turn_ms → IsSettled config moment play → HandlesEach game config play (inputs_at moment inputs) after outgoing → IsSettled config moment after
settled_through [] some settled none = settled
settled_through (input ∷ inputs) some settled (more handles rest) = settled_through inputs some (handles_settles some handles) rest

settled_after : {game : AbstractGame} {config : Config} {moment : ℕ} (input : AbstractInput) (inputs : List AbstractInput) {play after : AbstractPlay} {outgoing : List Delivery} → 1 ≤ config.turn_ms → HandlesEach game config play (inputs_at moment (input ∷ inputs)) after outgoing → IsSettled config moment after
settled_after input inputs some (more handles rest) = settled_through inputs some (handles_settles some handles) rest

nothing_at_tick : {game : AbstractGame} {config : Config} {play : AbstractPlay} {moment : ℕ} {after : AbstractPlay} {outgoing : List Delivery} → HandlesInTime game config play moment tick after outgoing → (after ≡ play) × (outgoing ≡ [])
nothing_at_tick handling.nothing = (refl, refl)

-- a tick does nothing then
tick_does_nothing : {game : AbstractGame} {config : Config} {play : AbstractPlay} {moment : ℕ} {after : AbstractPlay} {outgoing : List Delivery} → IsSettled config moment play → Handles game config play moment tick after outgoing → (after ≡ play) × (outgoing ≡ [])
tick_does_nothing (over outcome is) handles = stays_at_input outcome is handles
tick_does_nothing (early in_time) (handling.after_end ended) = (refl, refl)
tick_does_nothing (early in_time) (handling.overdue going late) = absurd (omega (arith, in_time, late))
tick_does_nothing (early in_time) (handling.in_time going before handles) = nothing_at_tick handles

early_tick : (game : AbstractGame) (config : Config) (play : AbstractPlay) (moment : ℕ) → moment < due_of config play → (outcome : Option Outcome) → play.outcome ≡ outcome → Handles game config play moment tick play []
early_tick game config play moment in_time None going = handling.in_time going in_time handling.nothing
early_tick game config play moment in_time (Some outcome) ended = handling.after_end ended

-- and such a tick is handled
tick_is_handled : {game : AbstractGame} {config : Config} {play : AbstractPlay} {moment : ℕ} → IsSettled config moment play → Handles game config play moment tick play []
tick_is_handled (over outcome is) = handling.after_end is
tick_is_handled {game} {config} {play} {moment} (early in_time) = early_tick game config play moment in_time play.outcome refl

-- a tick at this moment
abbrev pub tick_at : (moment : ℕ) → TimedInput
tick_at moment = record { moment = moment; input = tick }

module _ (game : AbstractGame) (config : Config) (some : 1 ≤ config.turn_ms) (moment : ℕ) where
  pub first_dropped : {play after : AbstractPlay} {outgoing : List Delivery} (rest : List TimedInput) → IsSettled config moment play → HandlesEach game config play (tick_at moment ∷ rest) after outgoing → HandlesEach game config play rest after outgoing
  first_dropped {after = after} rest settled (more {next = next} handles goes_on) =
      let nothing = tick_does_nothing settled handles in
      rw (nothing.1, ← nothing.0) goes_on

  pub first_added : {play after : AbstractPlay} {outgoing : List Delivery} (rest : List TimedInput) → IsSettled config moment play → HandlesEach game config play rest after outgoing → HandlesEach game config play (tick_at moment ∷ rest) after outgoing
  first_added rest settled goes_on = more {input = tick_at moment} (tick_is_handled settled) goes_on

  -- the tick directly after inputs at its moment may be left out
  pub tick_dropped : {play after : AbstractPlay} {outgoing : List Delivery} (before : List TimedInput) (input : AbstractInput) (inputs : List AbstractInput) (rest : List TimedInput) → HandlesEach game config play (before ++ (inputs_at moment (input ∷ inputs) ++ tick_at moment ∷ rest)) after outgoing → HandlesEach game config play (before ++ (inputs_at moment (input ∷ inputs) ++ rest)) after outgoing
  tick_dropped before input inputs rest handles =
      let outer = parted before (inputs_at moment (input ∷ inputs) ++ tick_at moment ∷ rest) handles in
      let inner = parted (inputs_at moment (input ∷ inputs)) (tick_at moment ∷ rest) outer.goes_on in
      let settled = settled_after input inputs some inner.handles in
      joined outer.handles (joined inner.handles (first_dropped rest settled inner.goes_on) inner.whole) outer.whole

  -- and put in
  pub tick_added : {play after : AbstractPlay} {outgoing : List Delivery} (before : List TimedInput) (input : AbstractInput) (inputs : List AbstractInput) (rest : List TimedInput) → HandlesEach game config play (before ++ (inputs_at moment (input ∷ inputs) ++ rest)) after outgoing → HandlesEach game config play (before ++ (inputs_at moment (input ∷ inputs) ++ tick_at moment ∷ rest)) after outgoing
  tick_added before input inputs rest handles =
      let outer = parted before (inputs_at moment (input ∷ inputs) ++ rest) handles in
      let inner = parted (inputs_at moment (input ∷ inputs)) rest outer.goes_on in
      let settled = settled_after input inputs some inner.handles in
      joined outer.handles (joined inner.handles (first_added rest settled inner.goes_on) inner.whole) outer.whole
