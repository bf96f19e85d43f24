-- What a call that writes at the end of a list of bytes leaves.
use Rattle.std.specs.Prelude.{◌≡◌, List, ℕ, ◌++◌, length, take, Result, OnOk, OnErr}

-- The text is added to the old bytes. After an error the old bytes are still there, and others may follow them.
pub record Appends {E : Type 0} (old new text : List ℕ) (result : Result (Unit {0}) E) : Type 0 where
  pub written : OnOk result (new ≡ old ++ text)
  pub kept : take (length old) new ≡ old

-- The whole text is added to the old bytes; or an error is returned, and the bytes are the old ones.
pub record AppendsAll {E : Type 0} (old new text : List ℕ) (result : Result (Unit {0}) E) : Type 0 where
  pub ok : OnOk result (new ≡ old ++ text)
  pub err : OnErr result (new ≡ old)
