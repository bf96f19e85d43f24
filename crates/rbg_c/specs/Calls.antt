-- What calls from C do with the state that a handle holds.
use Rattle.std.specs.Prelude.{◌≡◌, ℕ, Option, None, Some}
use Rattle.rbg_c.specs.States.{AbstractState}
use Rattle.rbg_c.specs.Results.{ok, empty}

-- What a call does with the state of a handle.
--   nothing: there is none, and there is none afterwards.
--   done: it does this.
--   failed: it fails for this reason, and the state is as before.
pub data Calls
    (Does : AbstractState → AbstractState → Type 0) (Fails : AbstractState → ℕ → Type 0) (before after : Option AbstractState) (result : ℕ)
    : Type 0
  where
    nothing : before ≡ None → after ≡ None → result ≡ empty → Calls Does Fails before after result
    done : {old new : AbstractState} → before ≡ Some old → after ≡ Some new → result ≡ ok → Does old new → Calls Does Fails before after result
    failed : {old : AbstractState} → before ≡ Some old → after ≡ Some old → Fails old result → Calls Does Fails before after result

-- A call that tells something of the state of a handle, of which this holds then.
--   untold: there is no state.
--   told: it is told, and the state is as before.
pub data Tells (Told : AbstractState → Type 0) (before after : Option AbstractState) (result : ℕ) : Type 0 where
  untold : before ≡ None → after ≡ None → result ≡ empty → Tells Told before after result
  told : {state : AbstractState} → before ≡ Some state → after ≡ Some state → result ≡ ok → Told state → Tells Told before after result
